use Rattle.std.proofs.Common.{◌++◌, append_assoc, ap, subst, sym, refl}
use Rattle.std.proofs.lemmas.Result.{err_from_is_err_and}
use Rattle.x25_io.specs.code.Written.{AppendsPrefix}
use Rattle.x25_io.proofs.ToldLemmas.{part_of_all}
use Rattle.x25_bits.specs.declared.role.Role.TheVariants.{Dte, Dce}
use Rattle.x25_judge.specs.{Counts.{end_text, line_text}, Judge.{last_line}}
use Rattle.x25_judge.proofs.LineLemmas.{told_behind}
use Rattle.x25_judge.proofs.judge.Judge.tell_counts.Goals as goal

pub returns-in_err-tell_end-clause-tells : goal.returns-in_err-tell_end-clause-tells
returns-in_err-tell_end-clause-tells g c = λ old told h.
    let p = err_from_is_err_and c.from_residual.result c.from_residual.ensures.1 in
    let j = c.args.self.now in
    let rest = end_text Dce j.dce_frames j.dce_packets ++ line_text (last_line j) in
    rw p.1 (part_of_all old _ told (end_text Dte j.dte_frames j.dte_packets) rest _ refl (c.in_err-tell_end.ensures.tells old told h))

pub returns-in_err-tell_end-2-clause-tells : goal.returns-in_err-tell_end-2-clause-tells
returns-in_err-tell_end-2-clause-tells g c = λ old told h.
    let p = err_from_is_err_and c.from_residual-in_err-tell_end-2.result c.from_residual-in_err-tell_end-2.ensures.1 in
    let j = c.args.self.now in
    let first = end_text Dte j.dte_frames j.dte_packets in
    let second = end_text Dce j.dce_frames j.dce_packets in
    rw p.1 (subst (AppendsPrefix old (g.W.Sink.contents c.tell_end-2.new.writer)) (append_assoc told first (second ++ line_text (last_line j)))
    (part_of_all old _ (told ++ first) second (line_text (last_line j)) _ refl
    (c.in_err-tell_end-2.ensures.tells old (told ++ first) (c.in_ok-tell_end.ensures.tells old told h))))

pub returns-clause-tells : goal.returns-clause-tells
returns-clause-tells g c = λ old told h.
    let j = c.args.self.now in
    let first = end_text Dte j.dte_frames j.dte_packets in
    let second = end_text Dce j.dce_frames j.dce_packets in
    let last = line_text c.last_line.result in
    told_behind c.tell_line.result old _ _ told first (second ++ last) _ (ap (λ l. first ++ (second ++ line_text l)) (sym c.last_line.ensures))
    (told_behind c.tell_line.result old _ _ (told ++ first) second last _ refl
    (c.tell_line.ensures.tells old ((told ++ first) ++ second)
    (c.in_ok-tell_end-2.ensures.tells old (told ++ first) (c.in_ok-tell_end.ensures.tells old told h))))
