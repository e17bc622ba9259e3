use Rattle.std.proofs.Common.{◌≡◌, take}
use Rattle.std.specs.List.{list_all}
use Rattle.x25_packet.specs.Digits.{is_pair}
use Rattle.x25_packet.proofs.digits.hold_digits.Given as goal

abbrev pub invariant-loop-octet : goal.invariant-loop-octet
invariant-loop-octet l = l.are_digits ≡ list_all is_pair (take l.octet-index l.octets)
