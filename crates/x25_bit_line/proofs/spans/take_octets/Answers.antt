use Rattle.std.proofs.Common.{◌∙◌, ◌++◌, take, sym, subst, refl, arith}
use Rattle.std.proofs.lemmas.List.{append-nil}
use Rattle.std.proofs.lemmas.Result.{err_from_is_err_and}
use Rattle.x25_bits.specs.FrameCheck.{bits_of}
use Rattle.x25_bits.specs.Found.{found_of}
use Rattle.x25_bits.specs.declared.role.Role.{Role}
use Rattle.x25_io.specs.code.Written.{AppendsPrefix}
use Rattle.x25_bit_line.specs.Deframing.{class_lines}
use Rattle.x25_bit_line.specs.code.Reads.{Reads}
use Rattle.x25_bit_line.proofs.ReadsLemmas.{all_bits, reads_next, rest_of_bits}
use Rattle.x25_bit_line.proofs.spans.take_octets.Goals as goal

pub loop-at-init : goal.loop-at-init
loop-at-init g c = (refl, refl, omega arith, λ old before h. subst (Reads c.args.lines.now.from old _ _ _) (sym (append-nil before)) h)

pub loop-at-preserved : goal.loop-at-preserved
loop-at-preserved g c =
    let now = c.loop-at.invariant in
    let bits = bits_of c.args.octets.now in
    let next = c.in_ok-at.ensures in (
      next.kept ∙ now.0,
      next.from ∙ now.1,
      next.high,
      λ old before h.
          let here = subst (λ (from : Role). Reads from old (g.W.Sink.contents c.loop-at.writer) c.loop-at.deframer c.loop-at.lines.output
          (before ++ take c.loop-at.at bits)) (sym now.1) (now.3 old before h) in
          let there = next.reads old (before ++ take c.loop-at.at bits) here in
          let moves = next.moves in
          reads_next c.args.lines.now.from _ old _ _ _ before bits c.loop-at.at _ now.1 (omega (arith, moves)) there,
    )

pub returns-in_err-at-clause-reads : goal.returns-in_err-at-clause-reads
returns-in_err-at-clause-reads g c = λ old before h.
    let p = err_from_is_err_and c.from_residual.result c.from_residual.ensures.1 in
    let now = c.loop-at.invariant in
    let bits = bits_of c.args.octets.now in
    let here = subst (λ (from : Role). Reads from old (g.W.Sink.contents c.loop-at.writer) c.loop-at.deframer c.loop-at.lines.output
    (before ++ take c.loop-at.at bits)) (sym now.1) (now.3 old before h) in
    rw p.1 (subst (λ (from : Role). AppendsPrefix old (g.W.Sink.contents c.take_span.new.writer) (class_lines from (found_of (before ++ bits)))) now.1
    (subst (λ l. AppendsPrefix old (g.W.Sink.contents c.take_span.new.writer) (class_lines c.loop-at.lines.from (found_of l)))
    (rest_of_bits before bits c.loop-at.at)
    (c.in_err-at.ensures.reads old (before ++ take c.loop-at.at bits) here)))

pub returns-clause-reads : goal.returns-clause-reads
returns-clause-reads g c = λ old before h.
    subst (Reads c.args.lines.now.from old (g.W.Sink.contents c.loop-at.writer) c.loop-at.deframer c.loop-at.lines.output)
    (all_bits before c.args.octets.now c.loop-at.at (omega arith)) (c.loop-at.invariant.3 old before h)
