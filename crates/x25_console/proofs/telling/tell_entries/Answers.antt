use Rattle.std.proofs.{Common.{◌∙◌, ◌++◌, append_assoc, ap, map, take, subst, sym}, lemmas.Result.{err_from_is_err_and}}
use Rattle.x25_console.{proofs.LinesLemmas.{all_parts, lines_of_all}, specs.Telling.{entries_text}}
use Rattle.x25_io.proofs.ToldLemmas.{part_of_all}
use Rattle.x25_io.specs.code.Written.{AppendsPrefix}
use Rattle.x25_station.specs.code.PlainEntry.{plain_entry}
use Rattle.x25_console.proofs.telling.tell_entries.Goals as goal

pub returns-in_err-tell_entry-clause-tells : goal.returns-in_err-tell_entry-clause-tells
returns-in_err-tell_entry-clause-tells g c = λ old told h.
    let p = err_from_is_err_and c.from_residual.result c.from_residual.ensures.1 in
    let lent = c.lent-lent.result.now in
    let list = c.as_slice-list.result.now in
    let all = ap (λ l. map (plain_entry l) list) c.lent-lent.ensures ∙ c.as_slice-list.ensures in
    let first = lines_of_all c.args.at lent (take c.loop-entry.entry-index list) in
    rw p.1 (part_of_all old _ told _ _ _
    (sym (ap (entries_text c.args.at) all) ∙ all_parts c.args.at lent list c.loop-entry.entry-index _ c.loop-entry-test.true)
    (subst (AppendsPrefix old (g.W.Sink.contents c.tell_entry.new.writer)) (append_assoc told first _)
    (c.in_err-tell_entry.ensures.tells old (told ++ first) (c.loop-entry.invariant.1 old told h))))
