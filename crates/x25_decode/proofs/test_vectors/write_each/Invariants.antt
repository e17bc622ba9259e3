use Rattle.std.proofs.Common.{drop}
use Rattle.x25_decode.proofs.VerdictLemmas.{WritesVerdicts}
use Rattle.x25_decode.proofs.test_vectors.write_each.Given as goal

abbrev pub invariant-loop-vector : goal.invariant-loop-vector
invariant-loop-vector g l = WritesVerdicts (g.W.Sink.contents l.fn.writer) (g.W.Sink.contents l.writer) l.fn.vectors (drop l.vector-index l.vectors) l.all_right
    (g.W.Sink.is_marked l.fn.writer) (g.W.Sink.is_marked l.writer)
