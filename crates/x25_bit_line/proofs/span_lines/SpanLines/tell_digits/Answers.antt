use Rattle.std.proofs.Common.{◌∙◌, ◌++◌, ap, sym, append_assoc}
use Rattle.std.specs.List.{flat_map}
use Rattle.std.proofs.lemmas.Result.{err_from_is_err_and}
use Rattle.x25_text.specs.Text.{octet_text}
use Rattle.x25_bit_line.proofs.TellingLemmas.{lost_digits, more_digits}
use Rattle.x25_bit_line.proofs.span_lines.SpanLines.tell_digits.Goals as goal

pub returns-in_err-tell-clause-tells : goal.returns-in_err-tell-clause-tells
returns-in_err-tell-clause-tells g c = λ old told h.
    let p = err_from_is_err_and c.from_residual.result c.from_residual.ensures.1 in
    let before = c.loop-left.invariant.2 in
    rw p.1 (lost_digits old _ told c.args.octets.now before.0 c.loop-left.left.now c.split_at.result.0.now c.split_at.result.1.now c.as_slice.result.now
    before.1 c.split_at.ensures.by_index.0 (c.as_slice.ensures ∙ c.spell.ensures.digits)
    (c.in_err-tell.ensures.tells old (told ++ flat_map octet_text before.0) (rw c.spell.ensures.output (before.2 old told h))))

pub loop-left-preserved : goal.loop-left-preserved
loop-left-preserved g c =
    let before = c.loop-left.invariant.2 in (
      c.in_ok-tell.ensures.kept ∙ c.loop-left.invariant.0,
      c.spell.ensures.from ∙ c.loop-left.invariant.1,
      (
        before.0 ++ c.split_at.result.0.now,
        before.1 ∙ ap (λ l. before.0 ++ l) c.split_at.ensures.by_index.0 ∙ sym (append_assoc before.0 c.split_at.result.0.now c.split_at.result.1.now),
        λ old told h.
            more_digits old _ told _ before.0 c.split_at.result.0.now c.as_slice.result.now (c.as_slice.ensures ∙ c.spell.ensures.digits)
            (c.in_ok-tell.ensures.tells old (told ++ flat_map octet_text before.0) (rw c.spell.ensures.output (before.2 old told h))),
      ),
    )
