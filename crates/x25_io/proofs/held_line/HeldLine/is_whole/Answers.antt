use Rattle.std.proofs.{Common.{length}, lemmas.Bool.{leb-true}}
use Rattle.x25_io.proofs.held_line.HeldLine.is_whole.Goals as goal

pub returns-then-is_empty : goal.returns-then-is_empty
returns-then-is_empty c = λ begun holds few. ((c.is_empty.ensures begun holds).0 c.if-is_empty.true, leb-true (length c.args.part.now) 131200 few)
