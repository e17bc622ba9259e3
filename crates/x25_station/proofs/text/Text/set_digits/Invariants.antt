use Rattle.x25_station.proofs.Names.{◌≡◌, take}
use Rattle.std.proofs.Common.{vec_capacity}
use Rattle.x25_station.proofs.text.Text.set_digits.Given as goal

abbrev pub invariant-loop-place : goal.invariant-loop-place
invariant-loop-place l = (l.self-inside.octets.items ≡ take l.place l.digits) × (vec_capacity l.self-inside.octets ≡ 128)
