-- One more bit closes at most one span.
use Rattle.std.proofs.Common.{ℕ, zero, suc, ◌+◌, ◌-◌, ◌<◌, ◌≤◌, ◌≡◌, ◌∙◌, ◌⊎◌, inl, inr, Bool, true, false, not, ◌&&◌, List, [], ◌∷◌, ◌++◌, length, take, drop}
use Rattle.std.proofs.Common.{refl, ap, sym, arith, length-append, length-drop}
use Rattle.std.specs.Prelude.{if◌then◌else◌}
use Rattle.std.proofs.lemmas.Bool.{cases_lt}
use Rattle.std.proofs.lemmas.List.{take-append-le, append-nil, drop-drop, drop-append-le, nil_from_length}
use Rattle.x25_bits.specs.Deframer.{flag, begins_with_flag, is_flag_at, places_below, flag_places, between, spans_of}
use Rattle.x25_bits.proofs.SpanSteps.{State, FitsAt, stepped, found, closed, ends_flag, last_or}

-- ---- flags

-- the first eight bits tell
pub begins_by : (a b c d e f g x : Bool) (rest : List Bool)
    → begins_with_flag (a ∷ b ∷ c ∷ d ∷ e ∷ f ∷ g ∷ x ∷ rest) ≡ (not a && (b && (c && (d && (e && (f && (g && not x)))))))
unfolding begins_with_flag
begins_by true b c d e f g x rest = refl
begins_by false false c d e f g x rest = refl
begins_by false true false d e f g x rest = refl
begins_by false true true false e f g x rest = refl
begins_by false true true true false f g x rest = refl
begins_by false true true true true false g x rest = refl
begins_by false true true true true true false x rest = refl
begins_by false true true true true true true true rest = refl
begins_by false true true true true true true false rest = refl

begins_kept : (bits more : List Bool) → 8 ≤ length bits → begins_with_flag (bits ++ more) ≡ begins_with_flag bits
begins_kept (a ∷ b ∷ c ∷ d ∷ e ∷ f ∷ g ∷ x ∷ bits) more h = begins_by a b c d e f g x (bits ++ more) ∙ sym (begins_by a b c d e f g x bits)
begins_kept [] more h = absurd (omega arith)
begins_kept (a ∷ []) more h = absurd (omega arith)
begins_kept (a ∷ b ∷ []) more h = absurd (omega arith)
begins_kept (a ∷ b ∷ c ∷ []) more h = absurd (omega arith)
begins_kept (a ∷ b ∷ c ∷ d ∷ []) more h = absurd (omega arith)
begins_kept (a ∷ b ∷ c ∷ d ∷ e ∷ []) more h = absurd (omega arith)
begins_kept (a ∷ b ∷ c ∷ d ∷ e ∷ f ∷ []) more h = absurd (omega arith)
begins_kept (a ∷ b ∷ c ∷ d ∷ e ∷ f ∷ g ∷ []) more h = absurd (omega arith)

-- bits that begin with a flag are it and a rest
flag_first : (bits : List Bool) → begins_with_flag bits ≡ true → (rest : List Bool) × (bits ≡ flag ++ rest)
unfolding begins_with_flag
flag_first [] e = let bad : false ≡ true = e in cc
flag_first (true ∷ bits) e = let bad : false ≡ true = e in cc
flag_first (false ∷ []) e = let bad : false ≡ true = e in cc
flag_first (false ∷ false ∷ bits) e = let bad : false ≡ true = e in cc
flag_first (false ∷ true ∷ []) e = let bad : false ≡ true = e in cc
flag_first (false ∷ true ∷ false ∷ bits) e = let bad : false ≡ true = e in cc
flag_first (false ∷ true ∷ true ∷ []) e = let bad : false ≡ true = e in cc
flag_first (false ∷ true ∷ true ∷ false ∷ bits) e = let bad : false ≡ true = e in cc
flag_first (false ∷ true ∷ true ∷ true ∷ []) e = let bad : false ≡ true = e in cc
flag_first (false ∷ true ∷ true ∷ true ∷ false ∷ bits) e = let bad : false ≡ true = e in cc
flag_first (false ∷ true ∷ true ∷ true ∷ true ∷ []) e = let bad : false ≡ true = e in cc
flag_first (false ∷ true ∷ true ∷ true ∷ true ∷ false ∷ bits) e = let bad : false ≡ true = e in cc
flag_first (false ∷ true ∷ true ∷ true ∷ true ∷ true ∷ []) e = let bad : false ≡ true = e in cc
flag_first (false ∷ true ∷ true ∷ true ∷ true ∷ true ∷ false ∷ bits) e = let bad : false ≡ true = e in cc
flag_first (false ∷ true ∷ true ∷ true ∷ true ∷ true ∷ true ∷ []) e = let bad : false ≡ true = e in cc
flag_first (false ∷ true ∷ true ∷ true ∷ true ∷ true ∷ true ∷ true ∷ bits) e = let bad : false ≡ true = e in cc
flag_first (false ∷ true ∷ true ∷ true ∷ true ∷ true ∷ true ∷ false ∷ bits) e = (bits, refl)

flag_at : (bits : List Bool) (i : ℕ) → is_flag_at bits i ≡ true → (rest : List Bool) × (drop i bits ≡ flag ++ rest)
unfolding is_flag_at
flag_at bits i e = flag_first (drop i bits) e

pub flag_fits : (bits : List Bool) (i : ℕ) → is_flag_at bits i ≡ true → i + 8 ≤ length bits
flag_fits bits i e =
    let r = flag_at bits i e in
    let size : length (drop i bits) ≡ 8 + length r.0 = ap length r.1 ∙ length-append flag r.0 in
    let less = length-drop i bits in
    omega arith

pub flag_short : (bits : List Bool) (i : ℕ) → length bits < i + 8 → is_flag_at bits i ≡ false
flag_short bits i h = go (is_flag_at bits i) refl
  where
    go : (t : Bool) → is_flag_at bits i ≡ t → is_flag_at bits i ≡ false
    go true e = let fits = flag_fits bits i e in absurd (omega arith)
    go false e = e

pub flag_kept : (bits : List Bool) (b : Bool) (i : ℕ) → i + 8 ≤ length bits → is_flag_at (bits ++ b ∷ []) i ≡ is_flag_at bits i
unfolding is_flag_at
flag_kept bits b i h =
    let size : 8 ≤ length (drop i bits) = rw length-drop (omega arith) in
    ap begins_with_flag (drop-append-le i bits (b ∷ []) (omega arith)) ∙ begins_kept (drop i bits) (b ∷ []) size

places_kept : (bits : List Bool) (b : Bool) (n : ℕ) → n + 7 ≤ length bits → places_below n (bits ++ b ∷ []) ≡ places_below n bits
unfolding places_below
places_kept bits b zero h = refl
places_kept bits b (suc n) h = rw (flag_kept bits b n (omega arith), places_kept bits b n (omega arith)) refl

places_short : (bits : List Bool) (k d : ℕ) → length bits < k + 8 → places_below (k + d) bits ≡ places_below k bits
unfolding places_below
places_short bits k zero h = ap (λ n. places_below n bits) (let e : k + 0 ≡ k = omega arith in e)
places_short bits k (suc d) h =
    let at : k + suc d ≡ suc (k + d) = omega arith in
    rw (at, flag_short bits (k + d) (omega arith), places_short bits k d h) (append-nil (places_below k bits))

places_by : (bits : List Bool) → flag_places bits ≡ places_below (length bits - 7) bits
places_by bits =
    let at : (length bits - 7) + (length bits - (length bits - 7)) ≡ length bits = omega arith in
    ap (λ n. places_below n bits) (sym at) ∙ places_short bits (length bits - 7) (length bits - (length bits - 7)) (omega arith)

pub places_snoc : (bits : List Bool) (b : Bool)
    → flag_places (bits ++ b ∷ []) ≡ flag_places bits ++ (if ends_flag (bits ++ b ∷ []) then (length bits - 7) ∷ [] else [])
unfolding places_below
places_snoc bits b = elim (cases_lt (length bits) 7) [
  | inl low ↦
      let size : length (bits ++ b ∷ []) ≡ length bits + 1 = length-append bits (b ∷ []) in
      let none : length bits - 7 ≡ 0 = omega arith in
      let none_more : length (bits ++ b ∷ []) - 7 ≡ 0 = omega arith in
      let no_flag : is_flag_at (bits ++ b ∷ []) (length (bits ++ b ∷ []) - 8) ≡ false = flag_short _ _ (omega arith) in
      rw (places_by (bits ++ b ∷ []), none_more, places_by bits, no_flag, none) refl
  | inr high ↦
      let size : length (bits ++ b ∷ []) ≡ length bits + 1 = length-append bits (b ∷ []) in
      let top : length (bits ++ b ∷ []) - 7 ≡ suc (length bits - 7) = omega arith in
      let place : length (bits ++ b ∷ []) - 8 ≡ length bits - 7 = omega arith in
      rw (places_by (bits ++ b ∷ []), top, places_by bits, place, places_kept bits b (length bits - 7) (omega arith)) refl
]

-- ---- the last place

-- each of the places is a flag
abbrev pub AreFlags : List Bool → List ℕ → Type 0
AreFlags bits [] = Unit {0}
AreFlags bits (i ∷ places) = (is_flag_at bits i ≡ true) × AreFlags bits places

are_more : (bits : List Bool) (xs ys : List ℕ) → AreFlags bits xs → AreFlags bits ys → AreFlags bits (xs ++ ys)
are_more bits [] ys h k = k
are_more bits (x ∷ xs) ys h k = (h.0, are_more bits xs ys h.1 k)

pub are_below : (bits : List Bool) (n : ℕ) → AreFlags bits (places_below n bits)
unfolding places_below
are_below bits zero = tt
are_below bits (suc n) = are_more bits (places_below n bits) _ (are_below bits n) (one (is_flag_at bits n) refl)
  where
    one : (t : Bool) → is_flag_at bits n ≡ t → AreFlags bits (if is_flag_at bits n then n ∷ [] else [])
    one true e = rw e (e, tt)
    one false e = rw e tt

pub last_is : (bits : List Bool) (i : ℕ) (places : List ℕ) → is_flag_at bits i ≡ true → AreFlags bits places → is_flag_at bits (last_or i places) ≡ true
last_is bits i [] h k = h
last_is bits i (j ∷ places) h k = last_is bits j places k.0 k.1

within_flag : (d : ℕ) (rest : List Bool) → 0 < d → d < 7 → begins_with_flag (drop d (flag ++ rest)) ≡ false
unfolding begins_with_flag
within_flag zero rest h k = absurd (omega arith)
within_flag (suc zero) rest h k = refl
within_flag (suc (suc zero)) rest h k = refl
within_flag (suc (suc (suc zero))) rest h k = refl
within_flag (suc (suc (suc (suc zero)))) rest h k = refl
within_flag (suc (suc (suc (suc (suc zero))))) rest h k = refl
within_flag (suc (suc (suc (suc (suc (suc zero)))))) rest h k = refl
within_flag (suc (suc (suc (suc (suc (suc (suc n))))))) rest h k = absurd (omega arith)

-- a flag cannot begin within the six 1 bits of another
apart : (bits : List Bool) (i j : ℕ) → is_flag_at bits i ≡ true → i < j → j < i + 7 → is_flag_at bits j ≡ false
unfolding is_flag_at
apart bits i j h low high =
    let r = flag_at bits i h in
    let at : i + (j - i) ≡ j = omega arith in
    ap (λ n. begins_with_flag (drop n bits)) (sym at)
    ∙ ap begins_with_flag (sym (drop-drop (j - i) i bits))
    ∙ ap (λ l. begins_with_flag (drop (j - i) l)) r.1
    ∙ within_flag (j - i) r.0 (omega arith) (omega arith)

-- a flag seen in what is behind place k
pub flag_behind : (bits : List Bool) (k i : ℕ) → is_flag_at (drop k bits) i ≡ is_flag_at bits (k + i)
unfolding is_flag_at
flag_behind bits k i = ap begins_with_flag (drop-drop i k bits)

-- the end of the text tells what the end of all bits tells
same_end : (bits : List Bool) (b : Bool) (l : ℕ) → is_flag_at bits l ≡ true
    → ends_flag (drop (l + 7) bits ++ b ∷ []) ≡ ends_flag (bits ++ b ∷ [])
same_end bits b l flag =
    let fits = flag_fits bits l flag in
    let all = bits ++ b ∷ [] in
    let size : length (bits ++ b ∷ []) ≡ length bits + 1 = length-append bits (b ∷ []) in
    let text : drop (l + 7) bits ++ b ∷ [] ≡ drop (l + 7) (bits ++ b ∷ []) = sym (drop-append-le (l + 7) bits (b ∷ []) (omega arith)) in
    let text_size : length (drop (l + 7) (bits ++ b ∷ [])) ≡ length (bits ++ b ∷ []) - (l + 7) = length-drop (l + 7) (bits ++ b ∷ []) in
    ap ends_flag text ∙ go (cases_lt (length (bits ++ b ∷ [])) (l + 15)) size text_size fits
  where
    flag_all : is_flag_at (bits ++ b ∷ []) l ≡ true
    flag_all = flag_kept bits b l (flag_fits bits l flag) ∙ flag

    go : ((length (bits ++ b ∷ []) < l + 15) ⊎ (l + 15 ≤ length (bits ++ b ∷ []))) → length (bits ++ b ∷ []) ≡ length bits + 1
        → length (drop (l + 7) (bits ++ b ∷ [])) ≡ length (bits ++ b ∷ []) - (l + 7) → l + 8 ≤ length bits
        → ends_flag (drop (l + 7) (bits ++ b ∷ [])) ≡ ends_flag (bits ++ b ∷ [])
    go (inl low) size text_size fits =
        flag_short (drop (l + 7) (bits ++ b ∷ [])) (length (drop (l + 7) (bits ++ b ∷ [])) - 8) (omega arith)
        ∙ sym (apart (bits ++ b ∷ []) l (length (bits ++ b ∷ []) - 8) flag_all (omega arith) (omega arith))
    go (inr high) size text_size fits =
        let place : (l + 7) + (length (drop (l + 7) (bits ++ b ∷ [])) - 8) ≡ length (bits ++ b ∷ []) - 8 = omega arith in
        flag_behind (bits ++ b ∷ []) (l + 7) (length (drop (l + 7) (bits ++ b ∷ [])) - 8) ∙ ap (is_flag_at (bits ++ b ∷ [])) place

-- the same in every state that fits
pub ends_same : (s : State) (bits : List Bool) (b : Bool) (places : List ℕ) → AreFlags bits places → FitsAt s bits places
    → ends_flag (s.text ++ b ∷ []) ≡ ends_flag (bits ++ b ∷ [])
ends_same s bits b [] flags fits = rw fits refl
ends_same s bits b (i ∷ places) flags fits = rw fits (same_end bits b (last_or i places) (last_is bits i places flags.0 flags.1))

last_or-snoc : (i j : ℕ) (places : List ℕ) → last_or i (places ++ j ∷ []) ≡ j
last_or-snoc i j [] = refl
last_or-snoc i j (k ∷ places) = last_or-snoc k j places

pub drop_one : (n : ℕ) (bits : List Bool) → drop 1 (drop n bits) ≡ drop (suc n) bits
drop_one zero [] = refl
drop_one zero (x ∷ bits) = refl
drop_one (suc n) [] = refl
drop_one (suc n) (x ∷ bits) = drop_one n bits

between_one : (bits other : List Bool) (j : ℕ) → between bits (j ∷ []) ≡ between other [] ++ []
unfolding between
between_one bits other j = refl

-- behind a flag at the end is its last 0
closing_flag : (bits : List Bool) (b : Bool) → ends_flag (bits ++ b ∷ []) ≡ true → drop (length bits - 7 + 7) (bits ++ b ∷ []) ≡ false ∷ []
closing_flag bits b e =
    let all = bits ++ b ∷ [] in
    let place = length (bits ++ b ∷ []) - 8 in
    let size : length (bits ++ b ∷ []) ≡ length bits + 1 = length-append bits (b ∷ []) in
    let inside = flag_fits (bits ++ b ∷ []) (length (bits ++ b ∷ []) - 8) e in
    let r = flag_at all place e in
    let less = length-drop place all in
    let eight : length (drop place all) ≡ 8 + length r.0 = ap length r.1 ∙ length-append flag r.0 in
    let none : r.0 ≡ [] = nil_from_length r.0 (omega arith) in
    let at : length bits - 7 + 7 ≡ place + 7 = omega arith in
    ap (λ n. drop n all) at ∙ sym (drop-drop 7 place all) ∙ ap (drop 7) r.1 ∙ ap (λ (l : List Bool). false ∷ l) none

-- the state after one more bit
pub fits_next : (s : State) (bits : List Bool) (b : Bool) (places : List ℕ) → AreFlags bits places → FitsAt s bits places
    → FitsAt (stepped s b) (bits ++ b ∷ []) (places ++ (if ends_flag (bits ++ b ∷ []) then (length bits - 7) ∷ [] else []))
fits_next s bits b places flags fits = go (ends_flag (bits ++ b ∷ [])) refl places flags fits
  where
    closing : (t : Bool) → ends_flag (bits ++ b ∷ []) ≡ t → t ≡ true → drop (length bits - 7 + 7) (bits ++ b ∷ []) ≡ false ∷ []
    closing t e f = closing_flag bits b (e ∙ f)

    go : (t : Bool) → ends_flag (bits ++ b ∷ []) ≡ t → (places : List ℕ) → AreFlags bits places → FitsAt s bits places
        → FitsAt (stepped s b) (bits ++ b ∷ []) (places ++ (if ends_flag (bits ++ b ∷ []) then (length bits - 7) ∷ [] else []))
    go true e [] flags fits = rw (ends_same s bits b [] flags fits, e, closing true e refl) refl
    go true e (i ∷ places) flags fits = rw (ends_same s bits b (i ∷ places) flags fits, e, last_or-snoc i (length bits - 7) places, closing true e refl) refl
    go false e [] flags fits = rw (ends_same s bits b [] flags fits, e, fits) refl
    go false e (i ∷ places) flags fits =
        let l = last_or i places in
        let inside = flag_fits bits l (last_is bits i places flags.0 flags.1) in
        let text : drop (l + 7) (bits ++ b ∷ []) ≡ drop (l + 7) bits ++ b ∷ [] = drop-append-le (l + 7) bits (b ∷ []) (omega arith) in
        rw (ends_same s bits b (i ∷ places) flags fits, e, append-nil places, text, fits) refl

between_kept : (bits : List Bool) (b : Bool) (places : List ℕ) → AreFlags bits places → between (bits ++ b ∷ []) places ≡ between bits places
unfolding between
between_kept bits b [] flags = refl
between_kept bits b (i ∷ []) flags = refl
between_kept bits b (i ∷ j ∷ places) flags =
    let left = flag_fits bits i flags.0 in
    let right = flag_fits bits j flags.1.0 in
    let tail : drop (i + 8) (bits ++ b ∷ []) ≡ drop (i + 8) bits ++ b ∷ [] = drop-append-le (i + 8) bits (b ∷ []) left in
    let room : j - (i + 8) ≤ length (drop (i + 8) bits) = rw (length-drop (i + 8) bits) (omega arith) in
    rw (tail, take-append-le (j - (i + 8)) (drop (i + 8) bits) (b ∷ []) room, between_kept bits b (j ∷ places) flags.1) refl

between_snoc : (bits : List Bool) (i j : ℕ) (places : List ℕ)
    → between bits (i ∷ places ++ (j ∷ [])) ≡ between bits (i ∷ places) ++ take (j - (last_or i places + 8)) (drop (last_or i places + 8) bits) ∷ []
unfolding between
between_snoc bits i j [] = refl
between_snoc bits i j (k ∷ places) = ap (λ spans. take (k - (i + 8)) (drop (i + 8) bits) ∷ spans) (between_snoc bits k j places)

-- the span that a flag closes
closed_is : (bits : List Bool) (b : Bool) (l : ℕ) → l + 8 ≤ length bits
    → closed (drop (l + 7) bits ++ b ∷ []) ≡ take (length bits - 7 - (l + 8)) (drop (l + 8) (bits ++ b ∷ []))
closed_is bits b l h =
    let size : length (bits ++ b ∷ []) ≡ length bits + 1 = length-append bits (b ∷ []) in
    let text : drop (l + 7) bits ++ b ∷ [] ≡ drop (l + 7) (bits ++ b ∷ []) = sym (drop-append-le (l + 7) bits (b ∷ []) (omega arith)) in
    let text_size : length (drop (l + 7) (bits ++ b ∷ [])) ≡ length (bits ++ b ∷ []) - (l + 7) = length-drop (l + 7) (bits ++ b ∷ []) in
    let count : length (drop (l + 7) (bits ++ b ∷ [])) - 9 ≡ length bits - 7 - (l + 8) = omega arith in
    let behind : drop 1 (drop (l + 7) (bits ++ b ∷ [])) ≡ drop (l + 8) (bits ++ b ∷ []) =
    drop_one (l + 7) (bits ++ b ∷ []) ∙ ap (λ n. drop n (bits ++ b ∷ [])) (let e : suc (l + 7) ≡ l + 8 = omega arith in e) in
    ap closed text ∙ ap (λ n. take n (drop 1 (drop (l + 7) (bits ++ b ∷ [])))) count ∙ ap (take (length bits - 7 - (l + 8))) behind

pub spans_next : (s : State) (bits : List Bool) (b : Bool) (places : List ℕ) → AreFlags bits places → FitsAt s bits places
    → between (bits ++ b ∷ []) (places ++ (if ends_flag (bits ++ b ∷ []) then (length bits - 7) ∷ [] else [])) ≡ between bits places ++ found s b
spans_next s bits b places flags fits = go (ends_flag (bits ++ b ∷ [])) refl places flags fits
  where
    go : (t : Bool) → ends_flag (bits ++ b ∷ []) ≡ t → (places : List ℕ) → AreFlags bits places → FitsAt s bits places
        → between (bits ++ b ∷ []) (places ++ (if ends_flag (bits ++ b ∷ []) then (length bits - 7) ∷ [] else [])) ≡ between bits places ++ found s b
    go true e [] flags fits = rw (ends_same s bits b [] flags fits, e, fits) (between_one (bits ++ b ∷ []) bits (length bits - 7))
    go true e (i ∷ places) flags fits =
        let inside = flag_fits bits (last_or i places) (last_is bits i places flags.0 flags.1) in
        rw (ends_same s bits b (i ∷ places) flags fits, e, fits)
        (between_snoc (bits ++ b ∷ []) i (length bits - 7) places
        ∙ ap (λ spans. spans ++ take (length bits - 7 - (last_or i places + 8)) (drop (last_or i places + 8) (bits ++ b ∷ [])) ∷ [])
        (between_kept bits b (i ∷ places) flags)
        ∙ ap (λ span. between bits (i ∷ places) ++ span ∷ []) (sym (closed_is bits b (last_or i places) inside)))
    go false e places flags fits =
        rw (ends_same s bits b places flags fits, e, append-nil places, append-nil (between bits places)) (between_kept bits b places flags)

pub law_fits : (s : State) (bits : List Bool) (b : Bool) → FitsAt s bits (flag_places bits)
    → FitsAt (stepped s b) (bits ++ b ∷ []) (flag_places (bits ++ b ∷ []))
law_fits s bits b fits = rw (places_snoc bits b) (fits_next s bits b (flag_places bits) (are_below bits (length bits)) fits)

pub law_spans : (s : State) (bits : List Bool) (b : Bool) → FitsAt s bits (flag_places bits) → spans_of (bits ++ b ∷ []) ≡ spans_of bits ++ found s b
law_spans s bits b fits = ap (between (bits ++ b ∷ [])) (places_snoc bits b) ∙ spans_next s bits b (flag_places bits) (are_below bits (length bits)) fits
