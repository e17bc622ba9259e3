use Rattle.std.proofs.Common.{◌≡◌, ◌∙◌, ap, sym, arith, decimal, Some, None}
use Rattle.x25_settings.proofs.{NumberLemmas.{number_read, number_refused, parsed}, options.number.Goals.{else-least-n-via-else-least-n}}
use Rattle.x25_settings.proofs.options.number.Goals.{else-least-n-via-then-least-n+then-n-most+else-is_decimal, else-least-n-via-then-least-n+else-n-most}
use Rattle.x25_settings.specs.Options.{number_in}
use Rattle.x25_settings.proofs.options.number.Goals as goal

pub returns-in_err-n-clause-number : goal.returns-in_err-n-clause-number
returns-in_err-n-clause-number c = c.from_residual.ensures
    ∙ sym (number_refused c.args.least c.args.most c.args.text.now (λ n low high same.
    let read : c.ok.result ≡ Some n = parsed c.args.text.now c.parse.result c.ok.result n c.args.most c.parse.ensures.value.0 c.ok.ensures.value (omega arith)
    high same in
    let none : c.ok.result ≡ None = c.in_err-n.was in
    cc))

pub returns-then-is_decimal-clause-number : goal.returns-then-is_decimal-clause-number
returns-then-is_decimal-clause-number c =
    sym (number_read c.args.least c.args.most c.in_ok-n.n (omega arith) c.if-least-n.true c.if-n-most.true)
    ∙ ap (number_in c.args.least c.args.most) (c.is_decimal.ensures.0 c.if-is_decimal.true)

pub returns-else-least-n-clause-number : goal.returns-else-least-n-clause-number
returns-else-least-n-clause-number c =
    sym (number_refused c.args.least c.args.most c.args.text.now (λ n low high same.
    let read : c.ok.result ≡ Some n = parsed c.args.text.now c.parse.result c.ok.result n c.args.most c.parse.ensures.value.0 c.ok.ensures.value (omega arith)
    high same in
    let some : c.ok.result ≡ Some c.in_ok-n.n = c.in_ok-n.was in
    let is : c.in_ok-n.n ≡ n = cc in
    elim c.else-least-n.branch [
      | else-least-n-via-then-least-n+then-n-most+else-is_decimal w ↦ let no = w.if-is_decimal.ensures.1 (ap decimal is ∙ sym same) in cc
      | else-least-n-via-then-least-n+else-n-most w ↦ omega (arith, w.if-n-most.false)
      | else-least-n-via-else-least-n w ↦ omega (arith, w.if-least-n.false)
    ]))
