use Rattle.std.proofs.Common.{◌≡◌, ◌∙◌, ◌^◌, ◌<◌, ap, sym, subst, arith, decimal, Some, None}
use Rattle.std.specs.Str.{IsUtf8}
use Rattle.x25_pipe.proofs.MomentLemmas.{decimal_is_text, moment_read, moment_refused, not_text, parsed, text_is}
use Rattle.x25_pipe.proofs.timed.moment.Goals as goal

pub returns-in_err-text : goal.returns-in_err-text
returns-in_err-text c = c.from_residual.ensures
    ∙ sym (moment_refused c.args.figures.now (λ n small same.
    not_text c.args.figures.now c.from_utf8.result c.ok.result _ c.from_utf8.ensures.cases c.ok.ensures.value c.in_err-text.was
    (subst IsUtf8 (sym same) (decimal_is_text n small))))

pub returns-in_err-number : goal.returns-in_err-number
returns-in_err-number c =
    let text = c.in_ok-text.text in
    let is : text.now ≡ c.args.figures.now = text_is c.args.figures.now c.from_utf8.result c.ok.result text _ c.from_utf8.ensures.cases c.ok.ensures.value
    c.in_ok-text.was in
    c.from_residual-in_err-number.ensures
    ∙ sym (moment_refused c.args.figures.now (λ n small same.
    let read : c.ok-2.result ≡ Some n = parsed text.now c.parse.result c.ok-2.result n c.parse.ensures.value.0 c.ok-2.ensures.value small (is ∙ same) in
    let none : c.ok-2.result ≡ None = c.in_err-number.was in
    cc))

pub returns-then-is_decimal : goal.returns-then-is_decimal
returns-then-is_decimal c =
    let text = c.in_ok-text.text in
    let is : text.now ≡ c.args.figures.now = text_is c.args.figures.now c.from_utf8.result c.ok.result text _ c.from_utf8.ensures.cases c.ok.ensures.value
    c.in_ok-text.was in
    let number = c.in_ok-number.number in
    let small : number < 2 ^ 64 = omega arith in
    sym (moment_read number c.args.figures.now small (c.is_decimal.ensures.0 c.if-is_decimal.true ∙ is))

pub returns-else-is_decimal : goal.returns-else-is_decimal
returns-else-is_decimal c =
    let text = c.in_ok-text.text in
    let is : text.now ≡ c.args.figures.now = text_is c.args.figures.now c.from_utf8.result c.ok.result text _ c.from_utf8.ensures.cases c.ok.ensures.value
    c.in_ok-text.was in
    let number = c.in_ok-number.number in
    sym (moment_refused c.args.figures.now (λ n small same.
    let read : c.ok-2.result ≡ Some n = parsed text.now c.parse.result c.ok-2.result n c.parse.ensures.value.0 c.ok-2.ensures.value small (is ∙ same) in
    let some : c.ok-2.result ≡ Some number = c.in_ok-number.was in
    let equal : number ≡ n = cc in
    let yes = c.is_decimal.ensures.1 (ap decimal equal ∙ sym (is ∙ same)) in
    let no = c.if-is_decimal.false in
    cc))
