use Rattle.std.proofs.Common.{length}
use Rattle.x25_text.proofs.PairLemmas.{Leads}
use Rattle.x25_text.proofs.hexadecimal.read_pairs.Given as goal

abbrev pub invariant-loop-i : goal.invariant-loop-i
invariant-loop-i l = Leads (length l.fn.octets) l.i l.digits l.octets
