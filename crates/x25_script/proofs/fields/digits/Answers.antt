use Rattle.std.{proofs.Common.{◌≡◌, ◌∙◌, sym, subst, true, List, ℕ, Option, Some, None, Result, Ok, Err, Bor, ap}, specs.Char.{is_ascii_digit}}
use Rattle.std.specs.{List.{list_all}, Prelude.{cond, MatchResult}, Result.{result_ok}, Str.{IsUtf8}}
use Rattle.x25_script.{proofs.FieldLemmas.{digits_are_text}, specs.Reading.{GivesText, digits_in}}
use Rattle.x25_script.proofs.fields.digits.Goals as goal

text_read : {E : Type 0} (text : List ℕ) (r : Result (Bor (List ℕ)) E) (P : E → Type 0) → list_all is_ascii_digit text ≡ true
    → MatchResult r (λ s. (s.now ≡ text) × IsUtf8 text) (λ e. ¬ (IsUtf8 text) × P e)
    → GivesText (result_ok r) (digits_in text)
text_read text (Ok s) P h m = ap (λ b. cond b (Some text) None) h ∙ ap (λ t. Some t) (sym m.0)
text_read text (Err e) P h m = absurd (m.0 (digits_are_text text h))

pub returns-then-are_digits : goal.returns-then-are_digits
returns-then-are_digits c =
    let digits : list_all is_ascii_digit c.args.text.now ≡ true = sym c.are_digits.ensures ∙ c.if-are_digits.true in
    subst (λ (r : Option (Bor (List ℕ))). GivesText r (digits_in c.args.text.now)) (sym c.ok.ensures.value)
    (text_read c.args.text.now c.from_utf8.result _ digits c.from_utf8.ensures.cases)
