-- What a flag finds, by the unstuffed bits that are held.
use Rattle.std.proofs.Common.{ℕ, ◌-◌, ◌/◌, ◌%◌, ◌<◌, ◌≤◌, ◌≡◌, ◌≢◌, ◌∙◌, Bool, true, false, ◌==◌, List, [], ◌∷◌, ◌++◌, length, take, refl, ap, sym, arith}
use Rattle.std.proofs.Common.{length-append, eq-eqb}
use Rattle.std.specs.Prelude.{nat_lt, if◌then◌else◌}
use Rattle.std.proofs.lemmas.List.{length-take, take-append-le, take_all}
use Rattle.std.proofs.lemmas.Bool.Decides.{nat_tests}
use Rattle.x25_bits.specs.Found.{Content, Short, Long, Ragged, octets_by, octets_of, class_by}
use Rattle.x25_bits.specs.code.Held.{kept_found}
use Rattle.x25_bits.proofs.OctetLemmas.{octets_by-take}

-- all of fewer bits than n
pub take_short : (n : ℕ) (bits : List Bool) → length (take n bits) < n → take n bits ≡ bits
take_short n bits h = let size = length-take n bits in take_all n bits (omega arith)

pub kept_more : (n : ℕ) (kept after all : List Bool) (b : Bool) → kept ≡ take n all → length kept < n → after ≡ kept ++ b ∷ [] → after ≡ take n (all ++ b ∷ [])
kept_more n kept after all b e h a =
    let same : take n all ≡ all = take_short n all (rw e at h) in
    let whole : kept ≡ all = e ∙ same in
    let size = length-append all (b ∷ []) in
    let short : length all < n = rw whole at h in
    a ∙ ap (λ l. l ++ b ∷ []) whole ∙ sym (take_all n (all ++ b ∷ []) (omega arith))

pub kept_full : (n : ℕ) (kept all : List Bool) (b : Bool) → kept ≡ take n all → length kept ≡ n → kept ≡ take n (all ++ b ∷ [])
kept_full n kept all b e h =
    let size = length-take n all in
    let long : length (take n all) ≡ n = sym (ap length e) ∙ h in
    e ∙ sym (take-append-le n all (b ∷ []) (omega arith))

-- ---- by the number of bits

whole_kept : (kept all : List Bool) → kept ≡ take 32831 all → length kept < 32831 → kept ≡ all
whole_kept kept all e h = e ∙ take_short 32831 all (rw e at h)

length_found : (all : List Bool) → 6 < length all → length (take (length all - 6) all) ≡ length all - 6
length_found all h = let m = length-take (length all - 6) all in omega arith

pub found_none : (kept all : List Bool) → kept ≡ take 32831 all → length kept ≤ 6 → [] ≡ kept_found all
unfolding kept_found
found_none kept all e h =
    let same = whole_kept kept all e (omega arith) in
    let few : length all ≤ 6 = rw same at h in
    let a : nat_lt 6 (length all) ≡ false = grind (arith, nat_tests) in
    rw a refl

pub found_short : (kept all : List Bool) → kept ≡ take 32831 all → 6 < length kept → length kept - 6 < 32 → Short ∷ [] ≡ kept_found all
unfolding kept_found class_by
found_short kept all e h k =
    let size : length kept ≡ length all = ap length (whole_kept kept all e (omega arith)) in
    let a : nat_lt 6 (length all) ≡ true = grind (arith, nat_tests) in
    let b : nat_lt (length all - 6) 32 ≡ true = grind (arith, nat_tests) in
    rw (a, length_found all (omega arith), b) refl

pub found_long : (kept all : List Bool) → kept ≡ take 32831 all → 32824 < length kept - 6 → Long ∷ [] ≡ kept_found all
unfolding kept_found class_by
found_long kept all e k =
    let size : length kept ≡ length (take 32831 all) = ap length e in
    let less = length-take 32831 all in
    let long : 32831 ≤ length all = omega arith in
    let a : nat_lt 6 (length all) ≡ true = grind (arith, nat_tests) in
    let b : nat_lt (length all - 6) 32 ≡ false = grind (arith, nat_tests) in
    let d : nat_lt 32824 (length all - 6) ≡ true = grind (arith, nat_tests) in
    rw (a, length_found all (omega arith), b, d) refl

found_mid : (all : List Bool) → 32 ≤ length all - 6 → length all - 6 ≤ 32824
    → kept_found all ≡ (if (length all - 6) % 8 == 0 then Content (octets_by ((length all - 6) / 8) (take (length all - 6) all)) else Ragged) ∷ []
unfolding kept_found class_by
found_mid all h k =
    let a : nat_lt 6 (length all) ≡ true = grind (arith, nat_tests) in
    let b : nat_lt (length all - 6) 32 ≡ false = grind (arith, nat_tests) in
    let d : nat_lt 32824 (length all - 6) ≡ false = grind (arith, nat_tests) in
    rw (a, length_found all (omega arith), b, d) refl

pub found_ragged : (kept all : List Bool) → kept ≡ take 32831 all → 32 ≤ length kept - 6 → length kept - 6 ≤ 32824 → (length kept - 6) % 8 ≢ 0 → Ragged ∷ []
    ≡ kept_found all
found_ragged kept all e h k m =
    let size : length kept ≡ length all = ap length (whole_kept kept all e (omega arith)) in
    let odd : ((length all - 6) % 8 == 0) ≡ false = rw (← size) (grind (arith, nat_tests)) in
    sym (found_mid all (omega arith) (omega arith)
    ∙ ap (λ b. (if b then Content (octets_by ((length all - 6) / 8) (take (length all - 6) all)) else Ragged) ∷ []) odd)

pub found_content : (kept all : List Bool) (octets : List ℕ) → kept ≡ take 32831 all → 32 ≤ length kept - 6 → length kept - 6 ≤ 32824 → (length kept - 6) % 8
    ≡ 0
    → octets ≡ octets_of kept → Content octets ∷ [] ≡ kept_found all
found_content kept all octets e h k m o =
    let same = whole_kept kept all e (omega arith) in
    let size : length kept ≡ length all = ap length same in
    let even : ((length all - 6) % 8 == 0) ≡ true = rw (← size) (eq-eqb _ _ m) in
    let count : (length all - 6) / 8 ≡ length all / 8 = omega arith in
    let taken : octets_by ((length all - 6) / 8) (take (length all - 6) all) ≡ octets_of all =
    octets_by-take ((length all - 6) / 8) (length all - 6) all (omega arith) ∙ ap (λ n. octets_by n all) count in
    sym (found_mid all (omega arith) (omega arith)
    ∙ ap (λ b. (if b then Content (octets_by ((length all - 6) / 8) (take (length all - 6) all)) else Ragged) ∷ []) even
    ∙ ap (λ x. Content x ∷ []) (taken ∙ ap octets_of (sym same) ∙ sym o))
