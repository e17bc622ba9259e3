use Rattle.std.proofs.{Common.{◌≡◌, ◌∙◌, ap, codes, nat_eq, subst}, KnownBytes.{Appends-trans}, lemmas.Result.{err_from_is_err_and}}
use Rattle.std.specs.{Io.KnownBytes.{Appends}, List.{flat_map}, Prelude.{◌&&◌}}
use Rattle.x25_decode.{proofs.VerdictLemmas.{prefix_after, prefix_before}, specs.TestVectors.{is_check_right, stored, verdict, verdict_of}}
use Rattle.x25_io.specs.code.Written.{AppendsPrefix}
use Rattle.x25_decode.proofs.test_vectors.write_verdicts.Goals as goal

pub returns-in_err-write_verdict-clause-err : goal.returns-in_err-write_verdict-clause-err
returns-in_err-write_verdict-clause-err g c =
    let old = g.W.Sink.contents c.args.writer.now in
    let now = g.W.Sink.contents c.write_verdict.new.writer in
    let first : verdict (codes "V1") (nat_eq c.fcs-check_right.result 36974) ≡ verdict (codes "V1") is_check_right =
    ap (λ n. verdict (codes "V1") (nat_eq n 36974)) c.fcs-check_right.ensures in
    let p = err_from_is_err_and c.from_residual.result c.from_residual.ensures.1 in
    rw p.1 (prefix_before old now (verdict (codes "V1") is_check_right) (flat_map verdict_of stored)
    (subst (AppendsPrefix old now) first c.in_err-write_verdict.ensures.err))

pub returns-clause-right : goal.returns-clause-right
unfolding stored
returns-clause-right g c = ap (λ n. nat_eq n 36974 && c.in_ok-others_right.others_right) c.fcs-check_right.ensures
    ∙ ap (λ b. is_check_right && b) c.in_ok-others_right.ensures.right

pub returns-clause-ok : goal.returns-clause-ok
unfolding stored
returns-clause-ok g c =
    let old = g.W.Sink.contents c.args.writer.now in
    let mid = g.W.Sink.contents c.write_verdict.new.writer in
    let first : verdict (codes "V1") (nat_eq c.fcs-check_right.result 36974) ≡ verdict (codes "V1") is_check_right =
    ap (λ n. verdict (codes "V1") (nat_eq n 36974)) c.fcs-check_right.ensures in
    Appends-trans old mid (g.W.Sink.contents c.write_each.new.writer) (verdict (codes "V1") is_check_right) (flat_map verdict_of stored)
    (subst (Appends old mid) first c.in_ok-write_verdict.ensures.ok) c.in_ok-others_right.ensures.ok

pub returns-in_err-others_right-clause-err : goal.returns-in_err-others_right-clause-err
unfolding stored
returns-in_err-others_right-clause-err g c =
    let old = g.W.Sink.contents c.args.writer.now in
    let mid = g.W.Sink.contents c.write_verdict.new.writer in
    let first : verdict (codes "V1") (nat_eq c.fcs-check_right.result 36974) ≡ verdict (codes "V1") is_check_right =
    ap (λ n. verdict (codes "V1") (nat_eq n 36974)) c.fcs-check_right.ensures in
    let p = err_from_is_err_and c.from_residual-in_err-others_right.result c.from_residual-in_err-others_right.ensures.1 in
    rw p.1 (prefix_after old mid (g.W.Sink.contents c.write_each.new.writer) (verdict (codes "V1") is_check_right) (flat_map verdict_of stored)
    (subst (Appends old mid) first c.in_ok-write_verdict.ensures.ok) c.in_err-others_right.ensures.err)
