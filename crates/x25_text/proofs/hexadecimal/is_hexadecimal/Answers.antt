use Rattle.std.{proofs.Common.{◌≡◌, ◌∙◌, ◌+◌, ◌-◌, ◌*◌, ap, arith, length, take}, specs.Char.{is_ascii_hexdigit}, specs.List.{list_all}, specs.Prelude.{◌&&◌}}
use Rattle.x25_text.proofs.TestedLemmas.{all_both_two, all_over_two}
use Rattle.x25_text.proofs.hexadecimal.is_hexadecimal.Goals as goal

pub loop-pair-preserved : goal.loop-pair-preserved
loop-pair-preserved c =
    let on : 32 * c.loop-pair.pair + (16 + 16) ≡ 32 * (c.loop-pair.pair + 1) = omega arith in
    let both = c.lesser-both.ensures ∙ (λ i. c.marks_at.ensures i && c.marks_at-in-loop-pair.ensures i) in
    c.lesser-least.ensures ∙ (λ i. c.loop-pair.invariant i && both i)
    ∙ all_both_two is_ascii_hexdigit (32 * c.loop-pair.pair) 16 c.args.text.now
    ∙ ap (λ n. list_all is_ascii_hexdigit (take n c.args.text.now)) on

pub returns : goal.returns
returns c =
    let last = c.lesser-last.ensures ∙ (λ i. c.marks_at-2.ensures i && c.marks_at-3.ensures i) in
    let rest = c.saturating_sub.ensures in
    let long = c.if-count-lt16.false in
    c.are_of_digits.ensures ∙ c.lesser.ensures ∙ (λ i. c.loop-pair.invariant i && last i)
    ∙ all_over_two is_ascii_hexdigit (32 * c.loop-pair.pair) c.saturating_sub.result (length c.args.text.now - 16) 16 c.args.text.now
    (omega (arith, rest, c.loop-pair-test.false, c.loop-pair.auto.pair-end)) (omega (arith, rest, long)) (omega (arith, rest, long)) (omega (arith, long))
