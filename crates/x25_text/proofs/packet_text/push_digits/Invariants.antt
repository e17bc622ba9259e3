use Rattle.std.proofs.Common.{◌≡◌, ◌+◌, ◌*◌, ℕ, List, length, map, take}
use Rattle.x25_packet.specs.Digits.{halves_of}
use Rattle.x25_text.proofs.packet_text.push_digits.Given as goal

-- the first places have the figures of the half octets of the first octets
pub record Shown (figures octets : List ℕ) (count : ℕ) : Type 0 where
  pub long : length figures ≡ 16
  pub same : take (2 * count) figures ≡ map (λ half. 48 + half) (halves_of (take count octets))

abbrev pub invariant-loop-place : goal.invariant-loop-place
invariant-loop-place l = Shown l.figures l.octets l.place
