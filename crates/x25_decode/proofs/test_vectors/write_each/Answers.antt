use Rattle.std.proofs.lemmas.Result.{err_from_is_err_and}
use Rattle.x25_decode.proofs.VerdictLemmas.{fault_vector, next_vector}
use Rattle.x25_decode.proofs.test_vectors.write_each.Goals as goal

pub returns-in_err-write_verdict-clause-err : goal.returns-in_err-write_verdict-clause-err
returns-in_err-write_verdict-clause-err g c =
    let p = err_from_is_err_and c.from_residual.result c.from_residual.ensures.1 in
    rw p.1 (fault_vector _ _ _ c.args.vectors.now c.loop-vector.vector-index _ c.loop-vector.all_right c.holds-is_right.result _ _ c.loop-vector-test.true
    c.loop-vector.invariant
    c.holds-is_right.ensures c.in_err-write_verdict.ensures.err)

pub loop-vector-preserved : goal.loop-vector-preserved
loop-vector-preserved g c =
    next_vector _ _ _ c.args.vectors.now c.loop-vector.vector-index _ c.loop-vector.all_right c.holds-is_right.result _ _ c.loop-vector-test.true
    c.loop-vector.invariant
    c.holds-is_right.ensures _ c.in_ok-write_verdict.ensures.ok c.in_ok-write_verdict.ensures.kept
