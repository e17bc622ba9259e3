-- A number and its decimal text.
use Rattle.x25_script.proofs.Names.{ℕ, ◌<◌, ◌≤◌, ◌≡◌, ◌∙◌, Bool, true, false, List, length, drop, Option, Some, None, refl, ap, sym, subst, arith, cond}
use Rattle.x25_script.proofs.Names.{decimal, ◌&&◌, is_ascii_digit, list_all, bytes_eq, and_parts, number_in}
use Rattle.std.proofs.{Common.{zero, suc, ◌^◌, get_or, nat_lt, rules}, lemmas.Bool.{and_from, ltb-true, lt-ltb}}
use Rattle.std.proofs.lemmas.Fmt.{decimal_digit, decimal_nonempty, first_decimal, digits_decimal, digits_value-decimal, decimal-digits_value, length-decimal-le}
use Rattle.std.proofs.lemmas.{Option.{cond_some}, Slice.Eq.{bytes_eq-Decides}, Str.Parse.{IsNumeralModel, numerals_by_value}}
use Rattle.std.specs.{Prelude.{◌==◌, if◌then◌else◌}, Str.Parse.{digits_value, digits_value_after}}

pub own : IsNumeralModel (λ digits. list_all is_ascii_digit digits ≡ true) (digits_value 10)
own = numerals_by_value _ (search rules)

-- what is read is written so
pub number_found : (text : List ℕ) (n : ℕ) → number_in text ≡ Some n → (n < 65536) × (text ≡ decimal n)
unfolding number_in
number_found text n e =
    let value = digits_value 10 text in
    let test = cond_some _ value n e in
    let parts = and_parts (nat_lt value 65536) (bytes_eq (decimal value) text) test.0 in
    let small = ltb-true value 65536 parts.0 in
    let same : decimal value ≡ text = (bytes_eq-Decides (decimal value) text).0 parts.1 in
    (subst (λ (m : ℕ). m < 65536) test.1 small, sym same ∙ ap decimal test.1)

number_read : (n : ℕ) (text : List ℕ) → n < 65536 → digits_value 10 text ≡ n → decimal n ≡ text → number_in text ≡ Some n
unfolding number_in
number_read n text small value same =
    let test : (nat_lt n 65536 && bytes_eq (decimal n) text) ≡ true =
    and_from _ _ (lt-ltb n 65536 small) ((bytes_eq-Decides (decimal n) text).1 same) in
    ap (λ m. cond (nat_lt m 65536 && bytes_eq (decimal m) text) (Some m) None) value ∙ ap (λ b. cond b (Some n) None) test

-- what is written so is read
pub number_again : (n : ℕ) → n < 65536 → number_in (decimal n) ≡ Some n
number_again n small = number_read n (decimal n) small (digits_value-decimal own n (omega arith)) refl

some_or_none : (read : Option ℕ) → ((n : ℕ) → read ≡ Some n → ⊥) → read ≡ None
some_or_none None h = refl
some_or_none (Some n) h = absurd (h n refl)

none_written : (text : List ℕ) → ((n : ℕ) → n < 65536 → text ≡ decimal n → ⊥) → number_in text ≡ None
none_written text h = some_or_none (number_in text) (λ n e. let found = number_found text n e in h n found.0 found.1)

-- a decimal text of two digits or more doesn't begin with 0
leading : (n : ℕ) → n < 65536 → 1 < length (decimal n) → get_or (decimal n) 0 0 ≡ 48 → ⊥
leading zero small long first = let one = ap length (decimal_digit 0 (omega arith)) in omega (arith, one)
leading (suc n) small long first = let above = first_decimal (suc n) (omega arith) (omega arith) in omega arith

pub no_number_behind_zero : (text : List ℕ) → 1 < length text → get_or text 0 0 ≡ 48 → number_in text ≡ None
no_number_behind_zero text long first = none_written text (λ n small same.
    leading n small (subst (λ (t : List ℕ). 1 < length t) same long) (subst (λ (t : List ℕ). get_or t 0 0 ≡ 48) same first))

pub no_number_of_others : (text : List ℕ) → list_all is_ascii_digit text ≡ false → number_in text ≡ None
no_number_of_others text h = none_written text (λ n small same.
    let digits = digits_decimal own n (omega arith) in
    let both : true ≡ false = sym digits ∙ ap (list_all is_ascii_digit) (sym same) ∙ h in absurd (cc))

pub no_number_of_none : (text : List ℕ) → length text ≡ 0 → number_in text ≡ None
no_number_of_none text none = none_written text (λ n small same.
    let some = decimal_nonempty n (omega (arith, small)) in let size = ap length same in omega (arith, some, size, none))

pub no_number_of_more : (text : List ℕ) → 5 < length text → number_in text ≡ None
no_number_of_more text long = none_written text (λ n small same.
    let few = length-decimal-le 5 n (omega arith) (omega (arith, small)) (omega (arith, small)) in let size = ap length same in omega (arith, few, size, long))

pub some_characters : (n : ℕ) → (n == 0) ≡ false → 0 < n
some_characters zero h = absurd (cc)
some_characters (suc n) h = omega arith

-- digits, by their value
pub number_valued : (text : List ℕ) (value : ℕ) → 0 < length text → (get_or text 0 0 ≡ 48 → length text ≤ 1) → list_all is_ascii_digit text ≡ true
    → digits_value 10 text ≡ value → (if nat_lt value 65536 then Some value else None) ≡ number_in text
unfolding number_in
number_valued text value some first digits is = go (nat_lt value 65536) refl
  where
    go : (b : Bool) → nat_lt value 65536 ≡ b → (if nat_lt value 65536 then Some value else None) ≡ number_in text
    go true e =
        let small = ltb-true value 65536 e in
        let written : decimal (digits_value 10 text) ≡ text =
        decimal-digits_value own text digits some (λ f. let short = first f in omega (arith, some, short)) (omega (arith, small, is)) in
        ap (λ b. cond b (Some value) None) e ∙ sym (number_read value text small is (ap decimal (sym is) ∙ written))
    go false e =
        let large : number_in text ≡ None =
        ap (λ n. cond (nat_lt n 65536 && bytes_eq (decimal n) text) (Some n) None) is
        ∙ ap (λ b. cond (b && bytes_eq (decimal value) text) (Some value) None) e in
        ap (λ b. cond b (Some value) None) e ∙ sym large

-- ---- digit by digit

-- what is left leads to the same number
pub record Leads (i value : ℕ) (text : List ℕ) : Type 0 where
  pub small : value < 10 ^ i
  pub digits : list_all is_ascii_digit text ≡ list_all is_ascii_digit (drop i text)
  pub same : digits_value 10 text ≡ digits_value_after 10 value (drop i text)
