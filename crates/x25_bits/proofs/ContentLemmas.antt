-- The content of a span, stuffed again, is the span.
use Rattle.std.proofs.Common.{ℕ, zero, suc, ◌+◌, ◌*◌, ◌/◌, ◌%◌, ◌≤◌, ◌≡◌, ◌∙◌, Bool, true, false, not, ◌&&◌, ◌||◌, ◌==◌, List, [], ◌∷◌, ◌++◌, length, take}
use Rattle.std.proofs.Common.{drop, refl, ap, sym, subst, arith, append_assoc, get_or, length-drop, ◌<◌}
use Rattle.std.specs.Prelude.{All, nat_lt, if◌then◌else◌}
use Rattle.std.proofs.lemmas.Bool.{eqb-true}
use Rattle.std.proofs.lemmas.List.{append-nil, take-append-drop, length-take-le}
use Rattle.std.proofs.lemmas.List.Elements.{All-append}
use Rattle.x25_bits.specs.FrameCheck.{bits_of, low_bits, number_of}
use Rattle.x25_bits.specs.Deframer.{flag_places, spans_of, places_below, between}
use Rattle.x25_bits.specs.Found.{Content, Abort, Short, Long, Ragged, seven_from, run_from, octets_by, octets_of, class_by, class_of}
use Rattle.x25_bits.specs.Stuffing.{stuffed_from, stuff, unstuffed_from, unstuff}
use Rattle.x25_bits.specs.code.Held.{up}
use Rattle.x25_bits.proofs.SpanSteps.{State, start, FitsAt, stepped, found, closed, ends_flag}
use Rattle.x25_bits.proofs.SpanLemmas.{law_fits, law_spans}
use Rattle.x25_bits.proofs.RunLemmas.{ups, flags_by}
use Rattle.x25_bits.proofs.ClosingLemmas.{flag_start, ends_so, closed_span}
use Rattle.x25_bits.proofs.FoundLemmas.{right_true}

-- a 0 comes behind exactly six 1 bits
unfoldable pub six_from : ℕ → List Bool → Bool
six_from r [] = false
six_from r (b ∷ bits) = (not b && r == 6) || six_from (up r b) bits

six_append : (r : ℕ) (a b : List Bool) → six_from r (a ++ b) ≡ (six_from r a || six_from (ups r a) b)
unfolding six_from
six_append r [] b = refl
six_append r (x ∷ a) b = ap (λ t. (not x && r == 6) || t) (six_append (up r x) a b)
    ∙ sym (or_assoc (not x && r == 6) (six_from (up r x) a) (six_from (ups (up r x) a) b))
  where
    or_assoc : (p q t : Bool) → ((p || q) || t) ≡ (p || (q || t))
    or_assoc true q t = refl
    or_assoc false q t = refl

or_left : (a b : Bool) → (a || b) ≡ false → a ≡ false
or_left true b e = e
or_left false b e = refl

-- ---- stuffing again

stuffs_again : (r : ℕ) (span : List Bool) → r ≤ 4 → six_from r (span ++ false ∷ []) ≡ false → seven_from r span ≡ false → (run_from r span == 5) ≡ false
    → stuffed_from r (unstuffed_from r span) ≡ span
unfolding six_from seven_from run_from stuffed_from unstuffed_from
stuffs_again r [] h x s e = refl
stuffs_again zero (false ∷ span) h x s e = ap (λ (l : List Bool). false ∷ l) (stuffs_again 0 span (omega arith) x s e)
stuffs_again (suc zero) (false ∷ span) h x s e = ap (λ (l : List Bool). false ∷ l) (stuffs_again 0 span (omega arith) x s e)
stuffs_again (suc (suc zero)) (false ∷ span) h x s e = ap (λ (l : List Bool). false ∷ l) (stuffs_again 0 span (omega arith) x s e)
stuffs_again (suc (suc (suc zero))) (false ∷ span) h x s e = ap (λ (l : List Bool). false ∷ l) (stuffs_again 0 span (omega arith) x s e)
stuffs_again (suc (suc (suc (suc zero)))) (false ∷ span) h x s e = ap (λ (l : List Bool). false ∷ l) (stuffs_again 0 span (omega arith) x s e)
stuffs_again zero (true ∷ span) h x s e = ap (λ (l : List Bool). true ∷ l) (stuffs_again 1 span (omega arith) x s e)
stuffs_again (suc zero) (true ∷ span) h x s e = ap (λ (l : List Bool). true ∷ l) (stuffs_again 2 span (omega arith) x s e)
stuffs_again (suc (suc zero)) (true ∷ span) h x s e = ap (λ (l : List Bool). true ∷ l) (stuffs_again 3 span (omega arith) x s e)
stuffs_again (suc (suc (suc zero))) (true ∷ span) h x s e = ap (λ (l : List Bool). true ∷ l) (stuffs_again 4 span (omega arith) x s e)
stuffs_again (suc (suc (suc (suc zero)))) (true ∷ []) h x s e = let bad : true ≡ false = e in cc
stuffs_again (suc (suc (suc (suc zero)))) (true ∷ false ∷ span) h x s e = ap (λ (l : List Bool). true ∷ false ∷ l) (stuffs_again 0 span (omega arith) x s e)
stuffs_again (suc (suc (suc (suc zero)))) (true ∷ true ∷ []) h x s e = let bad : true ≡ false = x in cc
stuffs_again (suc (suc (suc (suc zero)))) (true ∷ true ∷ false ∷ span) h x s e = let bad : true ≡ false = x in cc
stuffs_again (suc (suc (suc (suc zero)))) (true ∷ true ∷ true ∷ span) h x s e = let bad : true ≡ false = s in cc
stuffs_again (suc (suc (suc (suc (suc n))))) (b ∷ span) h x s e = absurd (omega arith)

undone : (r : ℕ) (bits : List Bool) → r ≤ 4 → unstuffed_from r (stuffed_from r bits) ≡ bits
unfolding stuffed_from unstuffed_from
undone r [] h = refl
undone zero (false ∷ bits) h = ap (λ (l : List Bool). false ∷ l) (undone 0 bits (omega arith))
undone (suc zero) (false ∷ bits) h = ap (λ (l : List Bool). false ∷ l) (undone 0 bits (omega arith))
undone (suc (suc zero)) (false ∷ bits) h = ap (λ (l : List Bool). false ∷ l) (undone 0 bits (omega arith))
undone (suc (suc (suc zero))) (false ∷ bits) h = ap (λ (l : List Bool). false ∷ l) (undone 0 bits (omega arith))
undone (suc (suc (suc (suc zero)))) (false ∷ bits) h = ap (λ (l : List Bool). false ∷ l) (undone 0 bits (omega arith))
undone zero (true ∷ bits) h = ap (λ (l : List Bool). true ∷ l) (undone 1 bits (omega arith))
undone (suc zero) (true ∷ bits) h = ap (λ (l : List Bool). true ∷ l) (undone 2 bits (omega arith))
undone (suc (suc zero)) (true ∷ bits) h = ap (λ (l : List Bool). true ∷ l) (undone 3 bits (omega arith))
undone (suc (suc (suc zero))) (true ∷ bits) h = ap (λ (l : List Bool). true ∷ l) (undone 4 bits (omega arith))
undone (suc (suc (suc (suc zero)))) (true ∷ bits) h = ap (λ (l : List Bool). true ∷ l) (undone 0 bits (omega arith))
undone (suc (suc (suc (suc (suc n))))) (b ∷ bits) h = absurd (omega arith)

pub unstuff-stuff : (bits : List Bool) → unstuff (stuff bits) ≡ bits
unstuff-stuff bits = undone 0 bits (omega arith)

-- ---- whole octets

half : (b : Bool) (n : ℕ) → ((if b then 1 else 0) + 2 * n) / 2 ≡ n
half true n = omega arith
half false n = omega arith

odd : (b : Bool) (n : ℕ) → (((if b then 1 else 0) + 2 * n) % 2 == 1) ≡ b
odd true n = let one : (1 + 2 * n) % 2 ≡ 1 = omega arith in rw one refl
odd false n = let none : (0 + 2 * n) % 2 ≡ 0 = omega arith in rw none refl

low_bits-number_of : (k : ℕ) (bits : List Bool) → length bits ≡ k → low_bits k (number_of bits) ≡ bits
unfolding low_bits number_of
low_bits-number_of zero [] h = refl
low_bits-number_of zero (b ∷ bits) h = absurd (omega arith)
low_bits-number_of (suc k) [] h = absurd (omega arith)
low_bits-number_of (suc k) (b ∷ bits) h = rw (odd b (number_of bits), half b (number_of bits), low_bits-number_of k bits (omega arith)) refl

pub bits_of-octets_by : (n : ℕ) (bits : List Bool) → length bits ≡ 8 * n → bits_of (octets_by n bits) ≡ bits
unfolding octets_by
bits_of-octets_by zero [] h = refl
bits_of-octets_by zero (b ∷ bits) h = absurd (omega arith)
bits_of-octets_by (suc n) bits h =
    let first : length (take 8 bits) ≡ 8 = length-take-le 8 bits (omega arith) in
    let rest : length (drop 8 bits) ≡ 8 * n = rw length-drop (omega arith) in
    rw (low_bits-number_of 8 (take 8 bits) first, bits_of-octets_by n (drop 8 bits) rest) (take-append-drop 8 bits)

by_tests : (a b c d e : Bool) (x octets : List ℕ)
    → (if a then Abort else (if b then Ragged else (if c then Short else (if d then Long else (if e then Content x else Ragged))))) ≡ Content octets
    → (a ≡ false) × (b ≡ false) × (e ≡ true) × (octets ≡ x)
by_tests true b c d e x octets h = cc
by_tests false true c d e x octets h = cc
by_tests false false true d e x octets h = cc
by_tests false false false true e x octets h = cc
by_tests false false false false true x octets h = (refl, refl, refl, cc)
by_tests false false false false false x octets h = cc

pub content_again : (span : List Bool) → six_from 0 (span ++ false ∷ []) ≡ false → (octets : List ℕ) → class_of span ≡ Content octets → stuff (bits_of octets)
    ≡ span
unfolding class_of class_by
content_again span six octets h =
    let bits = unstuff span in
    let tests = by_tests (seven_from 0 span) (run_from 0 span == 5) (nat_lt (length bits) 32) (nat_lt 32824 (length bits)) (length bits % 8 == 0)
    (octets_of bits) octets h in
    let whole : length bits % 8 ≡ 0 = eqb-true _ _ tests.2 in
    ap (λ o. stuff (bits_of o)) tests.3
    ∙ ap stuff (bits_of-octets_by (length bits / 8) bits (omega arith))
    ∙ stuffs_again 0 span (omega arith) six tests.0 tests.1

-- ---- spans hold no flag

abbrev pub Quiet : State → Type 0
Quiet s = s.is_open ≡ true → (rest : List Bool) × (s.text ≡ false ∷ rest) × (six_from 0 rest ≡ false)

abbrev HasNoSix : List Bool → Type 0
HasNoSix span = six_from 0 (span ++ false ∷ []) ≡ false

quiet_more : (rest : List Bool) (b : Bool) → six_from 0 rest ≡ false → ends_flag ((false ∷ rest) ++ b ∷ []) ≡ false → six_from 0 (rest ++ b ∷ []) ≡ false
unfolding six_from
quiet_more rest b h e =
    let last : (not b && ups 0 rest == 6) ≡ false = sym (flags_by (false ∷ rest) b) ∙ e in
    six_append 0 rest (b ∷ []) ∙ (rw (h, last) refl)

quiet_next : (s : State) (b : Bool) → Quiet s → Quiet (stepped s b)
unfolding six_from
quiet_next s b quiet = go (ends_flag (s.text ++ b ∷ [])) refl
  where
    go : (t : Bool) → ends_flag (s.text ++ b ∷ []) ≡ t → Quiet (stepped s b)
    go true e = rw e (λ o. ([], refl, refl))
    go false e = rw e (λ o. let r = quiet o in (r.0 ++ b ∷ [], ap (λ l. l ++ b ∷ []) r.1, quiet_more r.0 b r.2 (rw r.1 at e)))

prefix_quiet : (span more : List Bool) → six_from 0 (span ++ false ∷ more) ≡ false → HasNoSix span
prefix_quiet span more h =
    or_left (six_from 0 (span ++ false ∷ [])) (six_from (ups 0 (span ++ false ∷ [])) more)
    (sym (six_append 0 (span ++ false ∷ []) more) ∙ ap (six_from 0) (append_assoc span (false ∷ []) more) ∙ h)

closed_quiet : (rest : List Bool) (b : Bool) (pre : List Bool) → false ∷ rest ≡ pre ++ flag_start → six_from 0 rest ≡ false
    → HasNoSix (closed ((false ∷ rest) ++ b ∷ []))
unfolding six_from
closed_quiet rest b [] e h =
    let is : rest ≡ true ∷ true ∷ true ∷ true ∷ true ∷ true ∷ [] = cc in
    rw is refl
closed_quiet rest b (p ∷ span) e h =
    let is : rest ≡ span ++ flag_start = cc in
    rw (is, closed_span span b) (prefix_quiet span (true ∷ true ∷ true ∷ true ∷ true ∷ true ∷ []) (rw is at h))

closed_at : (text : List Bool) (b : Bool) → (rest : List Bool) × (text ≡ false ∷ rest) × (six_from 0 rest ≡ false) → ends_flag (text ++ b ∷ []) ≡ true
    → HasNoSix (closed (text ++ b ∷ []))
closed_at text b r e =
    let six : (ups 7 (false ∷ r.0) == 6) ≡ true = right_true (not b) (ups 7 (false ∷ r.0) == 6) (sym (flags_by (false ∷ r.0) b) ∙ (rw r.1 at e)) in
    let pre = ends_so (false ∷ r.0) six in
    rw r.1 (closed_quiet r.0 b pre.0 pre.1 r.2)

all_none : All HasNoSix []
all_none = λ k d h. absurd (omega arith)

all_one : (span : List Bool) → HasNoSix span → All HasNoSix (span ∷ [])
all_one span q = go
  where
    go : (k : ℕ) (d : List Bool) → k < length (span ∷ []) → HasNoSix (get_or (span ∷ []) k d)
    go zero d h = q
    go (suc k) d h = absurd (omega arith)

found_quiet : (s : State) (b : Bool) → Quiet s → All HasNoSix (found s b)
found_quiet s b quiet = go (ends_flag (s.text ++ b ∷ [])) s.is_open refl refl
  where
    go : (t o : Bool) → ends_flag (s.text ++ b ∷ []) ≡ t → s.is_open ≡ o → All HasNoSix (found s b)
    go true true e f = rw (e, f) (all_one (closed (s.text ++ b ∷ [])) (closed_at s.text b (quiet f) e))
    go true false e f = rw (e, f) all_none
    go false o e f = rw e all_none

spans_quiet : (s : State) (bits more : List Bool) → FitsAt s bits (flag_places bits) → Quiet s → All HasNoSix (spans_of bits)
    → All HasNoSix (spans_of (bits ++ more))
spans_quiet s bits [] fits quiet h = subst (λ l. All HasNoSix (spans_of l)) (sym (append-nil bits)) h
spans_quiet s bits (b ∷ more) fits quiet h =
    subst (λ l. All HasNoSix (spans_of l)) (append_assoc bits (b ∷ []) more)
    (spans_quiet (stepped s b) (bits ++ b ∷ []) more (law_fits s bits b fits) (quiet_next s b quiet)
    (rw (law_spans s bits b fits) (All-append HasNoSix (spans_of bits) (found s b) h (found_quiet s b quiet))))

start_fits : FitsAt start [] (flag_places [])
unfolding places_below
start_fits = refl

all_at_start : All HasNoSix (spans_of [])
unfolding places_below between
all_at_start = all_none

pub spans_stuff_again : (bits : List Bool) → All (λ span. (octets : List ℕ) → class_of span ≡ Content octets → stuff (bits_of octets) ≡ span) (spans_of bits)
spans_stuff_again bits = λ k d h.
    content_again (get_or (spans_of bits) k d) (spans_quiet start [] bits start_fits (λ o. let bad : false ≡ true = o in cc) all_at_start k d h)
