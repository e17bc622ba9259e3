-- Fields apart by a blank.
use Rattle.x25_script.proofs.Names.{ℕ, ◌==◌, ◌≡◌, ◌∙◌, Bool, true, false, List, [], ◌∷◌, ◌++◌, length, take, drop, Option, Some, None, refl, ap, sym, subst}
use Rattle.x25_script.proofs.Names.{arith, cond, option_map, ◌&&◌, codes, is_ascii_digit, list_all, bytes_eq, and_parts, nat_tests, Role, Dte, Dce, end_text}
use Rattle.x25_script.proofs.Names.{direction_text, q_text, address_text, Writes, parts_of, octets_in, small_number_in, labelled_in, d_in, IsNotBehind}
use Rattle.hex.specs.{Hex.{decode_of}, declared.error.FromHexError.{FromHexError}}
use Rattle.std.proofs.{Common.{◌≢◌, ◌⊎◌, inl, inr, Result, Ok, Err}, Math.Seq.{take_at, drop-append_seam}}
use Rattle.std.proofs.lemmas.{Bool.{and_from, eqb-true, eqb-false, false_from_ne_true, not-true}, List.{take-append-drop}, Option.{same_Some}}
use Rattle.std.{proofs.lemmas.Slice.Eq.{bytes_eq-Decides}, specs.Char.{is_ascii_hexdigit}, specs.Prelude.{not, option_and_then, if◌then◌else◌, nat_eq}}
use Rattle.std.specs.Result.{result_ok}
use Rattle.x25_script.{proofs.Names.{decode_of-ok, none-some}, proofs.OctetLemmas.{passes_digits}, specs.HexDigits.{octets_of}}
use Rattle.x25_script.specs.{Reading.{onto_first, end_in, from_in, q_in, digits_in, address_in}, Reading.Spelling.{IsAddress}}

-- which way a test went
pub chosen : {A : Type 0} (b : Bool) (x y z : A) → cond b x y ≡ z → ((b ≡ true) × (x ≡ z)) ⊎ ((b ≡ false) × (y ≡ z))
chosen true x y z e = inl (refl, e)
chosen false x y z e = inr (refl, e)

-- what the steps before a step read
pub bind_found : {A B : Type 0} (read : Option A) (f : A → Option B) (y : B) → option_and_then f read ≡ Some y → (x : A) × (read ≡ Some x) × (f x ≡ Some y)
bind_found (Some x) f y e = (x, refl, e)
bind_found None f y e = absurd (none-some _ e)

pub map_found : {A B : Type 0} (read : Option A) (f : A → B) (y : B) → option_map f read ≡ Some y → (x : A) × (read ≡ Some x) × (f x ≡ y)
map_found (Some x) f y e = (x, refl, same_Some _ _ e)
map_found None f y e = absurd (none-some _ e)

pub bytes_same : (a b : List ℕ) → bytes_eq a b ≡ true → a ≡ b
bytes_same a b h = (bytes_eq-Decides a b).0 h

pub bytes_other : (a b : List ℕ) → bytes_eq a b ≡ false → a ≢ b
bytes_other a b h e = let same = (bytes_eq-Decides a b).1 e in absurd (cc)

-- a text that begins with a word, and one that doesn't
pub begun : (text word : List ℕ) → bytes_eq word (take (length word) text) ≡ true → text ≡ word ++ drop (length word) text
begun text word h =
    sym (take-append-drop (length word) text) ∙ ap (λ front. front ++ drop (length word) text) (sym ((bytes_eq-Decides word (take (length word) text)).0 h))

pub not_begun : (text word : List ℕ) → bytes_eq word (take (length word) text) ≡ false → IsNotBehind word text
not_begun text word h rest e =
    let front : word ≡ take (length word) text = sym (ap (take (length word)) e ∙ take_at word rest (length word) refl) in
    let is = (bytes_eq-Decides word (take (length word) text)).1 front in
    absurd (cc)

-- a number behind a label
pub labelled_some : (label text rest : List ℕ) → text ≡ label ++ rest → labelled_in label text ≡ small_number_in rest
labelled_some label text rest e =
    ap (labelled_in label) e
    ∙ ap (λ b. cond b (small_number_in (drop (length label) (label ++ rest))) None)
    ((bytes_eq-Decides label (take (length label) (label ++ rest))).1 (sym (take_at label rest (length label) refl)))
    ∙ ap small_number_in (drop-append_seam label rest)

pub labelled_none : (label text : List ℕ) → IsNotBehind label text → labelled_in label text ≡ None
labelled_none label text none = test (bytes_eq label (take (length label) text)) refl
  where
    test : (b : Bool) → bytes_eq label (take (length label) text) ≡ b → cond b (small_number_in (drop (length label) text)) None ≡ None
    test true is = absurd (none _ (begun text label is))
    test false is = refl

-- the word for D
abbrev pub with_d : Bool → List ℕ → Bool × List ℕ
with_d d text = (d, text)

pub d_behind : (text rest : List ℕ) → text ≡ codes "d " ++ rest → with_d true rest ≡ d_in text
d_behind text rest e = sym (ap d_in e)

pub d_none : (text : List ℕ) → IsNotBehind (codes "d ") text → with_d false text ≡ d_in text
d_none text none = test (bytes_eq (codes "d ") (take 2 text)) refl
  where
    test : (b : Bool) → bytes_eq (codes "d ") (take 2 text) ≡ b → with_d false text ≡ cond b (with_d true (drop 2 text)) (with_d false text)
    test true is = absurd (none _ (begun text (codes "d ") is))
    test false is = refl

-- what a text is read as, where each text has its own
abbrev pub IsText : {A : Type 0} → (A → List ℕ) → A → List ℕ → Type 0
IsText text_of read text = text ≡ text_of read

-- this word, or what the other tests find
pub word_step : {A : Type 0} (Spelled : A → List ℕ → Type 0) (text word : List ℕ) (this read : A) (rest : Option A) → Spelled this word
    → cond (bytes_eq text word) (Some this) rest ≡ Some read
    → (rest ≡ Some read → Spelled read text) → Spelled read text
word_step {A} Spelled text word this read rest spells e others = elim (chosen (bytes_eq text word) _ _ _ e) [
  | inl p ↦ subst (λ (r : A). Spelled r text) (same_Some _ _ p.1) (subst (Spelled this) (sym (bytes_same text word p.0)) spells)
  | inr p ↦ others p.1
]

-- ---- the first blank

pub parts_joined : (text : List ℕ) (parts : List ℕ × List ℕ) → parts_of text ≡ Some parts → text ≡ parts.0 ++ (32 ∷ parts.1)
unfolding parts_of
parts_joined [] parts e = absurd (none-some _ e)
parts_joined (c ∷ text) parts e = elim (chosen (c == 32) (Some ([], text)) (option_map (onto_first c) (parts_of text)) (Some parts) e) [
  | inl p ↦
      let same : (let x : List ℕ × List ℕ = ([], text) in x) ≡ parts = same_Some _ _ p.1 in
      let first = eqb-true c 32 p.0 in
      ap (λ d. d ∷ text) first ∙ ap (λ (q : List ℕ × List ℕ). q.0 ++ (32 ∷ q.1)) same
  | inr p ↦
      let rest = map_found (parts_of text) (onto_first c) parts p.1 in
      ap (λ t. c ∷ t) (parts_joined text rest.0 rest.1) ∙ ap (λ (q : List ℕ × List ℕ). q.0 ++ (32 ∷ q.1)) rest.2
]

abbrev pub no_blank : ℕ → Bool
no_blank c = not (c == 32)

not_blank : (c : ℕ) → no_blank c ≡ true → (c == 32) ≡ false
not_blank c h = not-true (c == 32) h

pub parts_again : (front rest : List ℕ) → list_all no_blank front ≡ true → parts_of (front ++ (32 ∷ rest)) ≡ Some (front, rest)
unfolding parts_of
parts_again [] rest h = refl
parts_again (c ∷ front) rest h =
    let parts = and_parts (no_blank c) (list_all no_blank front) h in
    ap (λ b. cond b (Some ([], front ++ (32 ∷ rest))) (option_map (onto_first c) (parts_of (front ++ (32 ∷ rest))))) (not_blank c parts.0)
    ∙ ap (option_map (onto_first c)) (parts_again front rest parts.1)

pub whole_again : (text : List ℕ) → list_all no_blank text ≡ true → parts_of text ≡ None
unfolding parts_of
whole_again [] h = refl
whole_again (c ∷ text) h =
    let parts = and_parts (no_blank c) (list_all no_blank text) h in
    ap (λ b. cond b (Some ([], text)) (option_map (onto_first c) (parts_of text))) (not_blank c parts.0)
    ∙ ap (option_map (onto_first c)) (whole_again text parts.1)

-- a text of characters of a kind that holds no blank
all_no_blank : (kind : ℕ → Bool) → ((c : ℕ) → kind c ≡ true → no_blank c ≡ true) → (text : List ℕ) → list_all kind text ≡ true → list_all no_blank text ≡ true
all_no_blank kind each [] h = refl
all_no_blank kind each (c ∷ text) h =
    let parts = and_parts (kind c) (list_all kind text) h in
    and_from _ _ (each c parts.0) (all_no_blank kind each text parts.1)

pub digits_no_blank : (text : List ℕ) → list_all is_ascii_digit text ≡ true → list_all no_blank text ≡ true
digits_no_blank text h = all_no_blank is_ascii_digit (λ c d. grind (arith, nat_tests, d)) text h

pub address_no_blank : (digits : List ℕ) → IsAddress digits → list_all no_blank (address_text digits) ≡ true
address_no_blank [] h = refl
address_no_blank (c ∷ digits) h = digits_no_blank (c ∷ digits) h

hexes_no_blank : (text : List ℕ) → list_all is_ascii_hexdigit text ≡ true → list_all no_blank text ≡ true
hexes_no_blank text h = all_no_blank is_ascii_hexdigit (λ c d. grind (arith, nat_tests, d)) text h

pub octets_no_blank : (text octets : List ℕ) → Writes text octets → list_all no_blank text ≡ true
octets_no_blank text [] h = ap (list_all no_blank) h
octets_no_blank text (c ∷ octets) h = hexes_no_blank text (passes_digits text (decode_of-ok text (c ∷ octets) h).1)

-- ---- ends, directions, Q

pub end_found : (text : List ℕ) (end : Role) → end_in text ≡ Some end → text ≡ end_text end
end_found text end e =
    word_step (IsText end_text) text (codes "dte") Dte end _ refl e (λ e.
    word_step (IsText end_text) text (codes "dce") Dce end _ refl e (λ e. absurd (none-some _ e)))

pub end_again : (end : Role) → end_in (end_text end) ≡ Some end
end_again Dte = refl
end_again Dce = refl

pub from_found : (text : List ℕ) (from : Role) → from_in text ≡ Some from → text ≡ direction_text from
from_found text from e =
    word_step (IsText direction_text) text (codes ">") Dte from _ refl e (λ e.
    word_step (IsText direction_text) text (codes "<") Dce from _ refl e (λ e. absurd (none-some _ e)))

pub from_again : (from : Role) → from_in (direction_text from) ≡ Some from
from_again Dte = refl
from_again Dce = refl

pub q_found : (text : List ℕ) (q : Bool) → q_in text ≡ Some q → text ≡ q_text q
q_found text q e =
    word_step (IsText q_text) text (codes "0") false q _ refl e (λ e.
    word_step (IsText q_text) text (codes "1") true q _ refl e (λ e. absurd (none-some _ e)))

pub q_again : (q : Bool) → q_in (q_text q) ≡ Some q
q_again false = refl
q_again true = refl

-- ---- `-`, or something

-- nothing is read of `-`, and of another text that isn't empty what the rest reads
dash_or : (text read : List ℕ) (rest : Option (List ℕ)) → (if bytes_eq text (codes "-") then Some [] else if length text == 0 then None else rest) ≡ Some read
    → ((text ≡ codes "-") × ([] ≡ read)) ⊎ (((length text == 0) ≡ false) × (rest ≡ Some read))
dash_or text read rest e = elim (chosen (bytes_eq text (codes "-")) _ _ _ e) [
  | inl p ↦ inl (bytes_same text _ p.0, same_Some _ _ p.1)
  | inr p ↦ elim (chosen (length text == 0) _ _ _ p.1) [
    | inl q ↦ absurd (none-some _ q.1)
    | inr q ↦ inr q
  ]
]

-- ---- addresses

some_digits : (text : List ℕ) → (length text == 0) ≡ false → address_text text ≡ text
some_digits [] h = absurd (cc)
some_digits (c ∷ text) h = refl

pub address_found : (text digits : List ℕ) → address_in text ≡ Some digits → IsAddress digits × (text ≡ address_text digits)
address_found text digits e = elim (dash_or text digits (digits_in text) e) [
  | inl p ↦ none text digits p.0 p.1
  | inr p ↦ elim (chosen (list_all is_ascii_digit text) _ _ _ p.1) [
    | inl q ↦ some text digits p.0 q.0 (same_Some _ _ q.1)
    | inr q ↦ absurd (none-some _ q.1)
  ]
]
  where
    none : (text digits : List ℕ) → text ≡ codes "-" → [] ≡ digits → IsAddress digits × (text ≡ address_text digits)
    none text [] h k = (refl, h)
    none text (c ∷ digits) h k = absurd (cc)

    some : (text digits : List ℕ) → (length text == 0) ≡ false → list_all is_ascii_digit text ≡ true → text ≡ digits → IsAddress digits
        × (text ≡ address_text digits)
    some text digits long all same =
        (ap (list_all is_ascii_digit) (sym same) ∙ all, sym (some_digits text long) ∙ ap address_text same)

no_dash : (c : ℕ) → is_ascii_digit c ≡ true → nat_eq c 45 ≡ false
no_dash c h = grind (arith, nat_tests, h)

pub address_again : (digits : List ℕ) → IsAddress digits → address_in (address_text digits) ≡ Some digits
address_again [] h = refl
address_again (c ∷ digits) h =
    let first = and_parts (is_ascii_digit c) (list_all is_ascii_digit digits) h in
    let other : bytes_eq (c ∷ digits) (codes "-") ≡ false = ap (λ b. b && bytes_eq digits []) (no_dash c first.0) in
    let some : (length (c ∷ digits) == 0) ≡ false = false_from_ne_true (length (c ∷ digits) == 0)
    (λ t. let none = eqb-true (length (c ∷ digits)) 0 t in omega (arith, none)) in
    ap (λ b. cond b (Some []) (cond (length (c ∷ digits) == 0) None (digits_in (c ∷ digits)))) other
    ∙ ap (λ b. cond b None (digits_in (c ∷ digits))) some ∙ ap (λ b. cond b (Some (c ∷ digits)) None) h

-- ---- octets

ok_of : (text octets : List ℕ) → octets_of text ≡ Some octets → decode_of text ≡ Ok octets
ok_of text octets e = go (decode_of text) e
  where
    go : (r : Result (List ℕ) FromHexError) → result_ok r ≡ Some octets → r ≡ Ok octets
    go (Ok read) e = ap (λ o. Ok o) (same_Some _ _ e)
    go (Err fault) e = absurd (none-some _ e)

pub octets_found : (text octets : List ℕ) → octets_in text ≡ Some octets → Writes text octets
octets_found text octets e = elim (dash_or text octets (octets_of text) e) [
  | inl p ↦ none text octets p.0 p.1
  | inr p ↦ some text octets (eqb-false (length text) 0 p.0) (ok_of text octets p.1)
]
  where
    none : (text octets : List ℕ) → text ≡ codes "-" → [] ≡ octets → Writes text octets
    none text [] h k = h
    none text (c ∷ octets) h k = absurd (cc)

    some : (text octets : List ℕ) → (length text ≡ 0 → ⊥) → decode_of text ≡ Ok octets → Writes text octets
    some text [] long e = let size = (decode_of-ok text [] e).2 in absurd (long (omega (arith, size)))
    some text (c ∷ octets) long e = e

pub octets_again : (text octets : List ℕ) → Writes text octets → octets_in text ≡ Some octets
octets_again text [] h = ap octets_in h
octets_again text (c ∷ octets) h =
    let read = decode_of-ok text (c ∷ octets) h in
    let even = read.0 in
    let size = read.2 in
    let other : bytes_eq text (codes "-") ≡ false = false_from_ne_true (bytes_eq text (codes "-"))
    (λ t. let one = ap length (bytes_same text (codes "-") t) in omega (arith, one, even)) in
    let some : (length text == 0) ≡ false = false_from_ne_true (length text == 0) (λ t. let none = eqb-true (length text) 0 t in omega (arith, none, size)) in
    ap (λ b. cond b (Some []) (cond (length text == 0) None (octets_of text))) other
    ∙ ap (λ b. cond b None (octets_of text)) some ∙ ap result_ok h
