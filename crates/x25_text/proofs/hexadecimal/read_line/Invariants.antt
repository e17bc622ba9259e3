use Rattle.std.{proofs.Common.{◌≤◌, ◌*◌, length}, specs.Char.{is_ascii_hexdigit}, specs.List.{prefix_len}}
use Rattle.x25_text.proofs.BlockLemmas.{Reads}
use Rattle.x25_text.proofs.hexadecimal.read_line.Given as goal

-- the first octets are read, and all their characters are digits
abbrev pub invariant-loop-eight : goal.invariant-loop-eight
invariant-loop-eight l = Reads (length l.fn.octets) (8 * l.eight) l.text l.octets × (16 * l.eight ≤ prefix_len is_ascii_hexdigit l.text)
