use Rattle.std.proofs.Common.{◌++◌, append_assoc, take, subst}
use Rattle.std.proofs.lemmas.Result.{err_from_is_err_and}
use Rattle.x25_io.specs.code.Written.{AppendsPrefix}
use Rattle.x25_io.proofs.ToldLemmas.{part_of_all}
use Rattle.x25_judge.proofs.CountLemmas.{all_parts, lines_of_all}
use Rattle.x25_judge.proofs.counts.tell_packets.Goals as goal

pub returns-in_err-tell_line-clause-tells : goal.returns-in_err-tell_line-clause-tells
returns-in_err-tell_line-clause-tells g c = λ old told h.
    let p = err_from_is_err_and c.from_residual.result c.from_residual.ensures.1 in
    let counts = c.args.counts.now in
    let first = lines_of_all c.args.from (take c.loop-count.count-index counts) in
    rw p.1 (part_of_all old _ told _ _ _ (all_parts c.args.from counts c.loop-count.count-index _ c.loop-count-test.true)
    (subst (AppendsPrefix old (g.W.Sink.contents c.tell_line.new.writer)) (append_assoc told first _)
    (c.in_err-tell_line.ensures.tells old (told ++ first) (c.loop-count.invariant.1 old told h))))
