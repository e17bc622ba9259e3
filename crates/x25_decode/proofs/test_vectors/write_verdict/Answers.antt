use Rattle.std.{proofs.Common.{◌∙◌, ◌++◌, ap, codes, subst, sym}, proofs.lemmas.Result.{err_from_is_err_and}, specs.Prelude.{if◌then◌else◌}}
use Rattle.x25_decode.{proofs.VerdictLemmas.{prefix_before, second_err}, specs.TestVectors.{verdict}}
use Rattle.x25_io.specs.code.Written.{AppendsPrefix}
use Rattle.x25_decode.proofs.test_vectors.write_verdict.Goals as goal

pub returns-in_err-write_all-clause-err : goal.returns-in_err-write_all-clause-err
returns-in_err-write_all-clause-err g c =
    let p = err_from_is_err_and c.from_residual.result c.from_residual.ensures.1 in
    rw p.1 (prefix_before (g.W.Sink.contents c.args.writer.now) (g.W.Sink.contents c.write_all.new.writer) c.args.name.now
    (if c.args.is_right then codes " ok\n" else codes " bad\n")
    (subst (AppendsPrefix (g.W.Sink.contents c.args.writer.now) (g.W.Sink.contents c.write_all.new.writer)) c.as_bytes.ensures.value
    c.in_err-write_all.ensures.err))

pub returns-then-is_right-clause-err : goal.returns-then-is_right-clause-err
returns-then-is_right-clause-err g c =
    second_err c.write_all-then-is_right.result _ _ _ c.as_bytes.result.now (codes " ok\n") _
    (ap (λ b. verdict c.args.name.now b) c.if-is_right.true ∙ ap (λ n. n ++ codes " ok\n") (sym c.as_bytes.ensures.value)) c.in_ok-write_all.ensures.ok
    c.write_all-then-is_right.ensures.err

pub returns-else-is_right-clause-err : goal.returns-else-is_right-clause-err
returns-else-is_right-clause-err g c =
    second_err c.write_all-else-is_right.result _ _ _ c.as_bytes.result.now (codes " bad\n") _
    (ap (λ b. verdict c.args.name.now b) c.if-is_right.false ∙ ap (λ n. n ++ codes " bad\n") (sym c.as_bytes.ensures.value)) c.in_ok-write_all.ensures.ok
    c.write_all-else-is_right.ensures.err
