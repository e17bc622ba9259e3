-- The parts of a text at its first blank, and texts of digits.
use Rattle.x25_script.proofs.Names.{ℕ, ◌==◌, ◌<◌, ◌≡◌, ◌∙◌, Bool, true, false, List, [], ◌∷◌, length, take, drop, Some, None, refl, ap, sym, arith, option_map}
use Rattle.std.proofs.{Common.{zero, suc, ◌+◌, get_or, nat_lt, add-one}, lemmas.List.Quantifiers.{position-Some}, lemmas.List.Sums.{fails_before_first}}
use Rattle.std.{proofs.lemmas.Str.{IsUtf8-from_ascii}, proofs.lemmas.Str.Ascii.{IsAscii-nil, IsAscii-cons}, specs.List.{position, position_or_len}}
use Rattle.std.specs.Str.{IsAscii, IsUtf8}
use Rattle.x25_script.{proofs.Names.{cond, is_ascii_digit, list_all, and_parts, nat_tests, parts_of}, specs.Reading.{onto_first}}

abbrev is_blank : ℕ → Bool
is_blank character = character == 32

cut_at : (at : ℕ) (text : List ℕ) → at < length text → ((k : ℕ) → k < at → is_blank (get_or text k 0) ≡ false)
    → is_blank (get_or text at 0) ≡ true → parts_of text ≡ Some (take at text, drop (suc at) text)
unfolding parts_of
cut_at at [] h none here = absurd (omega arith)
cut_at zero (character ∷ text) h none here = ap (λ b. cond b (Some ([], text)) (option_map (onto_first character) (parts_of text))) here
cut_at (suc at) (character ∷ text) h none here =
    ap (λ b. cond b (Some ([], text)) (option_map (onto_first character) (parts_of text))) (none 0 (omega arith))
    ∙ ap (option_map (onto_first character)) (cut_at at text (omega arith) (λ k lt. none (suc k) (omega arith)) here)

uncut : (text : List ℕ) → ((k : ℕ) → k < length text → is_blank (get_or text k 0) ≡ false) → parts_of text ≡ None
unfolding parts_of
uncut [] none = refl
uncut (character ∷ text) none =
    ap (λ b. cond b (Some ([], text)) (option_map (onto_first character) (parts_of text))) (none 0 (omega arith))
    ∙ ap (option_map (onto_first character)) (uncut text (λ k lt. none (suc k) (omega arith)))

-- as the code cuts it
pub parts_found : (at : ℕ) (text : List ℕ) → position is_blank text ≡ Some at → parts_of text ≡ Some (take at text, drop (at + 1) text)
parts_found at text e =
    let h = position-Some is_blank text at 0 e in
    cut_at at text h.0 h.2 h.1 ∙ ap (λ n. Some (take at text, drop n text)) (sym (add-one at))

pub none_found : {A : Type 0} (b : Bool) (x : A) → cond b (Some x) None ≡ None → b ≡ false
none_found true x e = cc
none_found false x e = refl

pub no_parts : (text : List ℕ) → position is_blank text ≡ None → parts_of text ≡ None
no_parts text e =
    let past = none_found (nat_lt (position_or_len is_blank text) (length text)) (position_or_len is_blank text) e in
    uncut text (λ k lt. fails_before_first is_blank text k 0 (grind (arith, lt, past)))

-- ---- digits

digit_small : (character : ℕ) → is_ascii_digit character ≡ true → character < 128
digit_small character h = grind (arith, nat_tests, h)

pub digits_are_ascii : (text : List ℕ) → list_all is_ascii_digit text ≡ true → IsAscii text
digits_are_ascii [] h = IsAscii-nil
digits_are_ascii (character ∷ text) h =
    let parts = and_parts (is_ascii_digit character) (list_all is_ascii_digit text) h in
    IsAscii-cons character text (digit_small character parts.0) (digits_are_ascii text parts.1)

pub digits_are_text : (text : List ℕ) → list_all is_ascii_digit text ≡ true → IsUtf8 text
digits_are_text text h = IsUtf8-from_ascii text (digits_are_ascii text h)
