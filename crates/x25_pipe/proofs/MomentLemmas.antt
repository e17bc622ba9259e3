-- A moment and its decimal text, and the time in a line.
use Rattle.x25_pipe.proofs.Names.{◌≡◌, ◌∙◌, ◌<◌, ◌≤◌, ℕ, true, List, [], ◌∷◌, length, Option, Some, None, Result, nat_lt, ap, refl, sym, subst, arith}
use Rattle.std.proofs.{Common.{◌^◌, Ok, Err, Bor, rules, decimal}, lemmas.Bool.{and_parts, and_from, lt-ltb, le-leb, ltb-true}, lemmas.Bool.Decides.{nat_tests}}
use Rattle.std.proofs.lemmas.{Fmt.{decimal_is_IsNumeral, digits_decimal, parse-decimal}, Option.{cond_some, same_Some}, Slice.Eq.{bytes_eq-Decides}}
use Rattle.std.proofs.lemmas.{Str.{IsUtf8-from_ascii}, Str.Ascii.{IsAscii-nil, IsAscii-cons}, Str.Parse.{IsNumeralModel, numerals_by_value}}
use Rattle.std.specs.{Char.{is_ascii_digit}, List.{list_all}, Prelude.{cond, ◌&&◌, MatchResult}, Result.{result_ok}, Str.{IsAscii, IsUtf8, bytes_eq}}
use Rattle.std.specs.Str.Parse.{ParsesUnsigned, digits_value}
use Rattle.x25_io.specs.HeldLine.{most_line}
use Rattle.x25_pipe.{proofs.Names.{if◌then◌else◌, lt-leb, time_said}, specs.Timed.{moment_in, time_in}}

-- what is read is below 2^64, and written so
pub moment_found : (text : List ℕ) (n : ℕ) → moment_in text ≡ Some n → (n < 2 ^ 64) × (text ≡ decimal n)
unfolding moment_in
moment_found text n e =
    let value = digits_value 10 text in
    let test = cond_some _ value n e in
    let parts = and_parts (nat_lt value (2 ^ 64)) (bytes_eq (decimal value) text) test.0 in
    let small = ltb-true value (2 ^ 64) parts.0 in
    let same : decimal value ≡ text = (bytes_eq-Decides (decimal value) text).0 parts.1 in
    (subst (λ (m : ℕ). m < 2 ^ 64) test.1 small, sym same ∙ ap decimal test.1)

-- what is written so is read
pub moment_read : (n : ℕ) (text : List ℕ) → n < 2 ^ 64 → decimal n ≡ text → moment_in text ≡ Some n
unfolding moment_in
moment_read n text small same =
    let value : digits_value 10 text ≡ n = ap (digits_value 10) (sym same) ∙ (decimal_is_IsNumeral n small).1 in
    let test : (nat_lt n (2 ^ 64) && bytes_eq (decimal n) text) ≡ true =
    and_from _ _ (lt-ltb n (2 ^ 64) small) ((bytes_eq-Decides (decimal n) text).1 same) in
    ap (λ m. cond (nat_lt m (2 ^ 64) && bytes_eq (decimal m) text) (Some m) None) value ∙ ap (λ b. cond b (Some n) None) test

some_or_none : (read : Option ℕ) → ((n : ℕ) → read ≡ Some n → ⊥) → read ≡ None
some_or_none None h = refl
some_or_none (Some n) h = absurd (h n refl)

-- what isn't written so isn't read
pub moment_refused : (text : List ℕ) → ((n : ℕ) → n < 2 ^ 64 → text ≡ decimal n → ⊥) → moment_in text ≡ None
moment_refused text h = some_or_none (moment_in text) (λ n e. let found = moment_found text n e in h n found.0 found.1)

-- a text of a number is read by std as that number
pub parsed : {E : Type 0} (text : List ℕ) (r : Result ℕ E) (o : Option ℕ) (n : ℕ) → ParsesUnsigned 64 10 text r → o ≡ result_ok r → n < 2 ^ 64
    → text ≡ decimal n → o ≡ Some n
parsed text r o n h e small same = e ∙ ap result_ok (parse-decimal 64 n text r small small same h)

-- ---- a number's text is text

own : IsNumeralModel (λ digits. list_all is_ascii_digit digits ≡ true) (digits_value 10)
own = numerals_by_value _ (search rules)

digit_small : (character : ℕ) → is_ascii_digit character ≡ true → character < 128
digit_small character h = grind (arith, nat_tests, h)

digits_are_ascii : (text : List ℕ) → list_all is_ascii_digit text ≡ true → IsAscii text
digits_are_ascii [] h = IsAscii-nil
digits_are_ascii (character ∷ text) h =
    let parts = and_parts (is_ascii_digit character) (list_all is_ascii_digit text) h in
    IsAscii-cons character text (digit_small character parts.0) (digits_are_ascii text parts.1)

pub decimal_is_text : (n : ℕ) → n < 2 ^ 64 → IsUtf8 (decimal n)
decimal_is_text n small = IsUtf8-from_ascii (decimal n) (digits_are_ascii (decimal n) (digits_decimal own n small))

-- what is no text isn't read, and what is is that text
pub not_text : {E : Type 0} (text : List ℕ) (r : Result (Bor (List ℕ)) E) (o : Option (Bor (List ℕ))) (P : E → Type 0)
    → MatchResult r (λ s. (s.now ≡ text) × IsUtf8 text) (λ e. ¬ (IsUtf8 text) × P e) → o ≡ result_ok r → o ≡ None → IsUtf8 text → ⊥
not_text text (Ok s) o P m value none is = absurd (cc)
not_text text (Err e) o P m value none is = m.0 is

pub text_is : {E : Type 0} (text : List ℕ) (r : Result (Bor (List ℕ)) E) (o : Option (Bor (List ℕ))) (s : Bor (List ℕ)) (P : E → Type 0)
    → MatchResult r (λ s. (s.now ≡ text) × IsUtf8 text) (λ e. ¬ (IsUtf8 text) × P e) → o ≡ result_ok r → o ≡ Some s → s.now ≡ text
text_is text (Ok t) o s P m value some = let same : s ≡ t = same_Some s t (sym some ∙ value) in ap (λ (x : Bor (List ℕ)). x.now) same ∙ m.0
text_is text (Err e) o s P m value some = absurd (cc)

-- ---- in a line that isn't too long

pub time_held : (line : List ℕ) → length line ≤ most_line → time_in line ≡ time_said line
unfolding time_said
time_held line few = sym (ap (λ b. if b then time_in line else None) (le-leb (length line) most_line few))

pub time_long : (line : List ℕ) → most_line < length line → None ≡ time_said line
unfolding time_said
time_long line long = sym (ap (λ b. if b then time_in line else None) (lt-leb (length line) most_line long))
