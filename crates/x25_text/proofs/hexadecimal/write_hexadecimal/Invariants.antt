use Rattle.std.proofs.Common.{◌*◌}
use Rattle.x25_text.proofs.ShownLemmas.{Shows}
use Rattle.x25_text.proofs.hexadecimal.write_hexadecimal.Given as goal

abbrev pub invariant-loop-eight : goal.invariant-loop-eight
invariant-loop-eight l = Shows (8 * l.eight) l.octets l.digits
