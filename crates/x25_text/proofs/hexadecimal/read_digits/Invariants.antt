use Rattle.std.proofs.Common.{◌*◌, length}
use Rattle.x25_text.proofs.BlockLemmas.{Reads}
use Rattle.x25_text.proofs.hexadecimal.read_digits.Given as goal

abbrev pub invariant-loop-sixteen : goal.invariant-loop-sixteen
invariant-loop-sixteen l = Reads (length l.fn.octets) (16 * l.sixteen) l.digits l.octets
