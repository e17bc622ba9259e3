-- Reading bits from place to place.
use Rattle.std.proofs.Common.{ℕ, ◌+◌, ◌-◌, ◌<◌, ◌≤◌, ◌≡◌, ◌∙◌, Bool, false, List, [], ◌∷◌, ◌++◌, length, take, drop, refl, ap, sym, arith, get_or}
use Rattle.std.proofs.lemmas.List.{get_or-drop, drop-take, take-take, take-append-drop, length-drop, drop-drop}
use Rattle.std.proofs.Math.Seq.{take-add}
use Rattle.x25_bits.specs.Found.{Class}
use Rattle.x25_bits.specs.code.Held.{Seen, seen_next, seen_found, seen_from, found_from}
use Rattle.x25_bits.specs.code.Reading.{part}
use Rattle.x25_bits.proofs.FeedLemmas.{seen_more, found-append, found_later}

-- of the first bits
pub part_same : (at n : ℕ) (all bits : List Bool) → at ≤ length bits → n ≤ length bits → take (length bits) all ≡ bits → part at n all ≡ part at n bits
part_same at n all bits h k e =
    let split : length bits ≡ at + (length bits - at) = omega arith in
    sym (ap (λ l. take (n - at) (drop at (take l all))) split ∙ ap (take (n - at)) (drop-take at (length bits - at) all)
    ∙ take-take (n - at) (length bits - at) (drop at all) (omega arith))
    ∙ ap (part at n) e

pub part_none : (at : ℕ) (bits : List Bool) → part at at bits ≡ []
part_none at bits = let none : at - at ≡ 0 = omega arith in ap (λ n. take n (drop at bits)) none

inside : (at p : ℕ) (bits : List Bool) → at ≤ p → p < length bits → p - at < length (drop at bits)
inside at p bits h k = rw length-drop (omega arith)

there : (at p : ℕ) (bits : List Bool) (b : Bool) → at ≤ p → b ≡ get_or bits p false → b ≡ get_or (drop at bits) (p - at) false
there at p bits b h e =
    let same : at + (p - at) ≡ p = omega arith in
    e ∙ sym (get_or-drop at bits (p - at) false ∙ ap (λ n. get_or bits n false) same)

-- one bit more
pub read_seen : (v : Seen) (at p : ℕ) (bits : List Bool) (b : Bool) → at ≤ p → p < length bits → b ≡ get_or bits p false
    → seen_from v (part at (p + 1) bits) ≡ seen_next (seen_from v (part at p bits)) b
read_seen v at p bits b h k e =
    let more : p + 1 - at ≡ (p - at) + 1 = omega arith in
    ap (λ n. seen_from v (take n (drop at bits))) more ∙ seen_more v (p - at) (drop at bits) b (inside at p bits h k) (there at p bits b h e)

pub read_found : (v : Seen) (at p : ℕ) (bits : List Bool) (b : Bool) → at ≤ p → p < length bits → b ≡ get_or bits p false
    → found_from v (part at (p + 1) bits) ≡ found_from v (part at p bits) ++ seen_found (seen_from v (part at p bits)) b
read_found v at p bits b h k e =
    let more : p + 1 - at ≡ (p - at) + 1 = omega arith in
    ap (λ n. found_from v (take n (drop at bits))) more ∙ found_later v (p - at) (drop at bits) b (inside at p bits h k) (there at p bits b h e)

left_none : (a b : List Class) → a ++ b ≡ [] → a ≡ []
left_none [] b e = refl
left_none (x ∷ a) b e = cc

-- where nothing is found, nothing is found before
pub found_before : (v : Seen) (at n p : ℕ) (bits : List Bool) → n ≤ p → found_from v (part at p bits) ≡ [] → found_from v (part at n bits) ≡ []
found_before v at n p bits h e =
    let long = take (p - at) (drop at bits) in
    let short : take (n - at) long ≡ part at n bits = take-take (n - at) (p - at) (drop at bits) (omega arith) in
    let split : take (n - at) long ++ drop (n - at) long ≡ long = take-append-drop (n - at) long in
    ap (found_from v) (sym short) ∙ left_none (found_from v (take (n - at) long))
    _ (sym (found-append v (take (n - at) long) (drop (n - at) long)) ∙ ap (found_from v) split ∙ e)

-- one part behind another
pub part_join : (at place next : ℕ) (bits : List Bool) → at ≤ place → place ≤ next → part at next bits ≡ part at place bits ++ part place next bits
part_join at place next bits h k =
    let whole : next - at ≡ (place - at) + (next - place) = omega arith in
    let there : at + (place - at) ≡ place = omega arith in
    ap (λ n. take n (drop at bits)) whole
    ∙ take-add (place - at) (next - place) (drop at bits)
    ∙ ap (λ l. take (place - at) (drop at bits) ++ take (next - place) l) (drop-drop (place - at) at bits ∙ ap (λ n. drop n bits) there)
