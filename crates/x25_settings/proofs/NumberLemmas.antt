-- A number and its decimal text.
use Rattle.std.proofs.Common.{◌≡◌, ◌∙◌, ◌<◌, ◌≤◌, ℕ, true, List, Option, Some, None, Result, nat_le, ap, refl, sym, subst, arith, decimal}
use Rattle.std.proofs.lemmas.{Bool.{and_parts, and_from}, Bool.Decides.{nat_tests}, Fmt.{decimal_is_IsNumeral, parse-decimal}, Option.{cond_some}}
use Rattle.std.{proofs.lemmas.Slice.Eq.{bytes_eq-Decides}, specs.Prelude.{cond, ◌&&◌}, specs.Result.{result_ok}, specs.Str.{bytes_eq}}
use Rattle.std.specs.Str.Parse.{ParsesUnsigned, digits_value}
use Rattle.x25_settings.specs.Options.{number_in}

-- what is read is in its range, and written so
pub number_found : (least most : ℕ) (text : List ℕ) (n : ℕ) → number_in least most text ≡ Some n → (least ≤ n) × (n ≤ most) × (text ≡ decimal n)
unfolding number_in
number_found least most text n e =
    let value = digits_value 10 text in
    let test = cond_some _ value n e in
    let parts = and_parts (nat_le least value && nat_le value most) (bytes_eq (decimal value) text) test.0 in
    let bounds = and_parts (nat_le least value) (nat_le value most) parts.0 in
    let same : decimal value ≡ text = (bytes_eq-Decides (decimal value) text).0 parts.1 in
    let low : least ≤ value = grind (arith, nat_tests) in
    let high : value ≤ most = grind (arith, nat_tests) in
    (subst (λ (m : ℕ). least ≤ m) test.1 low, subst (λ (m : ℕ). m ≤ most) test.1 high, sym same ∙ ap decimal test.1)

-- what is written so is read
pub number_read : (least most n : ℕ) → most < 4294967296 → least ≤ n → n ≤ most → number_in least most (decimal n) ≡ Some n
unfolding number_in
number_read least most n few low high =
    let value : digits_value 10 (decimal n) ≡ n = (decimal_is_IsNumeral n (omega arith)).1 in
    let above : nat_le least n ≡ true = grind (arith, nat_tests) in
    let below : nat_le n most ≡ true = grind (arith, nat_tests) in
    let test : (nat_le least n && nat_le n most && bytes_eq (decimal n) (decimal n)) ≡ true =
    and_from _ _ (and_from _ _ above below) ((bytes_eq-Decides (decimal n) (decimal n)).1 refl) in
    ap (λ m. cond (nat_le least m && nat_le m most && bytes_eq (decimal m) (decimal n)) (Some m) None) value ∙ ap (λ b. cond b (Some n) None) test

some_or_none : (read : Option ℕ) → ((n : ℕ) → read ≡ Some n → ⊥) → read ≡ None
some_or_none None h = refl
some_or_none (Some n) h = absurd (h n refl)

-- what isn't written so isn't read
pub number_refused : (least most : ℕ) (text : List ℕ) → ((n : ℕ) → least ≤ n → n ≤ most → text ≡ decimal n → ⊥) → number_in least most text ≡ None
number_refused least most text h = some_or_none (number_in least most text) (λ n e. let found = number_found least most text n e in h n found.0 found.1 found.2)

-- a text of a number is read by std as that number
pub parsed : {E : Type 0} (text : List ℕ) (r : Result ℕ E) (o : Option ℕ) (n most : ℕ) → ParsesUnsigned 32 10 text r → o ≡ result_ok r → most < 4294967296 → n
    ≤ most
    → text ≡ decimal n → o ≡ Some n
parsed text r o n most h e few high same = e ∙ ap result_ok (parse-decimal 32 n text r (omega arith) (omega arith) same h)
