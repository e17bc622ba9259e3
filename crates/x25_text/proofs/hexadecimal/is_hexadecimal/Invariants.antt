use Rattle.std.{proofs.Common.{◌≡◌, ◌*◌, nat_le, take}, specs.Char.{is_ascii_hexdigit}, specs.List.{list_all}}
use Rattle.x25_text.proofs.hexadecimal.is_hexadecimal.Given as goal

-- the least marks are of digits where the first characters are digits
abbrev pub invariant-loop-pair : goal.invariant-loop-pair
invariant-loop-pair l = list_all (nat_le 246) l.least ≡ list_all is_ascii_hexdigit (take (32 * l.pair) l.text)
