use Rattle.std.proofs.Common.{subst}
use Rattle.std.proofs.lemmas.Result.{err_from_is_err_and, MatchResult-weaker}
use Rattle.x25_io.proofs.ToldLemmas.{with_ok}
use Rattle.x25_io.specs.code.Written.{AppendsPrefix}
use Rattle.std.specs.Io.KnownBytes.{Appends}
use Rattle.x25_bit_line.proofs.SendingLemmas.{all_sent}
use Rattle.x25_bit_line.proofs.TellingLemmas.{told_all}
use Rattle.x25_bit_line.proofs.frame_sender.FrameSender.finish.Goals as goal

pub returns-in_err-send_rest-clause-text : goal.returns-in_err-send_rest-clause-text
returns-in_err-send_rest-clause-text g c = λ old bits h.
    let p = err_from_is_err_and c.from_residual.result c.from_residual.ensures.1 in
    rw p.1 (subst (AppendsPrefix old (g.W.Sink.contents c.send_rest.new.writer)) (all_sent old _ _ _ bits h)
    (c.in_err-send_rest.ensures.tells old h.told h.tells))

pub returns-clause-text : goal.returns-clause-text
returns-clause-text g c = λ old bits h.
    let all = all_sent old _ _ _ bits h in
    MatchResult-weaker c.flush.result
    (with_ok c.flush.result _ _ _ (c.flush.ensures.tells old _ (c.in_ok-send_rest.ensures.tells old h.told h.tells)) c.flush.ensures.empty)
    (λ _ t. subst (Appends old (g.W.Sink.contents c.flush.new.writer)) all (told_all old _ _ _ t.0 t.1))
    (λ _ b. subst (AppendsPrefix old (g.W.Sink.contents c.flush.new.writer)) all b)
