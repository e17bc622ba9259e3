-- A list of calls, of which the first with a leg is changed, or each one.
use Rattle.std.proofs.Common.{◌≡◌, ◌∙◌, ℕ, zero, suc, ◌+◌, ◌<◌, ◌≤◌, List, [], ◌∷◌, length, map, drop, Option, Some, None, slice_set, refl, sym, ap}
use Rattle.std.proofs.Common.{◌++◌, take, true, subst, arith}
use Rattle.std.specs.Prelude.{slice_index_or, slice_get, IfNone}
use Rattle.x25_crossing.specs.Crossing.{PlainCrossing}
use Rattle.x25_crossing.specs.declared.side.Side.{Side}
use Rattle.x25_crossing.specs.Asking.{is_over}
use Rattle.x25_switch.specs.Calls.{PlainCall, with_crossing, further, place_by, place_of, leg_of, changed_nth, changed_at, vacated, called_on, legs_in}
use Rattle.x25_switch.specs.Calls.{AreApart, Holds, Sweeps, None_is, One_is}
use Rattle.x25_switch.specs.Switch.{new_call}
use Rattle.x25_switch.specs.code.Asked.{NotMade}
use Rattle.x25_switch.specs.code.Plain.{plain, plains}
use Rattle.x25_switch.specs.declared.call.Call.{Call}
use Rattle.x25_switch.proofs.ApartLemmas.{called_apart, more_apart, not_made_apart}

-- so many places further
abbrev pub after : ℕ → Option (ℕ × Side) → Option (ℕ × Side)
after n None = None
after n (Some found) = Some (n + found.0, found.1)

after_further : (n : ℕ) (o : Option (ℕ × Side)) → after n (further o) ≡ after (n + 1) o
after_further n None = refl
after_further n (Some found) = let e : n + suc found.0 ≡ (n + 1) + found.0 = omega arith in ap (λ (k : ℕ). Some (k, found.1)) e

pub after_none : (o : Option (ℕ × Side)) → after 0 o ≡ o
after_none None = refl
after_none (Some found) = let e : 0 + found.0 ≡ found.0 = omega arith in ap (λ (k : ℕ). Some (k, found.1)) e

drop_first : {A : Type 0} (n : ℕ) (xs : List A) (d : A) → n < length xs → drop n xs ≡ slice_index_or xs n d ∷ drop (suc n) xs
drop_first zero (x ∷ xs) d low = refl
drop_first (suc n) (x ∷ xs) d low = drop_first n xs d (omega (arith, low))
drop_first n [] d low = absurd (omega (arith, low))

pub drop_one : {A : Type 0} (n : ℕ) (xs : List A) (d : A) → n < length xs → drop n xs ≡ slice_index_or xs n d ∷ drop (n + 1) xs
drop_one n xs d low =
    let one : suc n ≡ n + 1 = omega arith in
    drop_first n xs d low ∙ ap (λ (k : ℕ). slice_index_or xs n d ∷ drop k xs) one

pub drop_past : {A : Type 0} (n : ℕ) (xs : List A) → length xs ≤ n → drop n xs ≡ []
drop_past zero [] few = refl
drop_past zero (x ∷ xs) few = absurd (omega (arith, few))
drop_past (suc n) [] few = refl
drop_past (suc n) (x ∷ xs) few = drop_past n xs (omega (arith, few))

place_at : (line channel n : ℕ) (xs : List Call) (d : Call) → n < length xs → (o : Option Side)
    → leg_of line channel (plain (slice_index_or xs n d)) ≡ o
    → place_of line channel (plains (drop n xs)) ≡ place_by o (place_of line channel (plains (drop (n + 1) xs)))
place_at line channel n xs d low o e =
    ap (λ (ys : List Call). place_of line channel (plains ys)) (drop_one n xs d low)
    ∙ ap (λ (s : Option Side). place_by s (place_of line channel (plains (drop (n + 1) xs)))) e

-- the one at this place hasn't the leg
pub not_at : (line channel n : ℕ) (xs : List Call) (d : Call) → n < length xs → leg_of line channel (plain (slice_index_or xs n d)) ≡ None
    → after n (place_of line channel (plains (drop n xs))) ≡ after (n + 1) (place_of line channel (plains (drop (n + 1) xs)))
not_at line channel n xs d low e =
    ap (after n) (place_at line channel n xs d low None e) ∙ after_further n (place_of line channel (plains (drop (n + 1) xs)))

-- it has
pub found_at : (line channel n : ℕ) (xs : List Call) (d : Call) (side : Side) → n < length xs
    → leg_of line channel (plain (slice_index_or xs n d)) ≡ Some side → Some (n, side) ≡ after n (place_of line channel (plains (drop n xs)))
found_at line channel n xs d side low e =
    let e0 : n ≡ n + 0 = omega arith in
    ap (λ (k : ℕ). Some (k, side)) e0 ∙ sym (ap (after n) (place_at line channel n xs d low (Some side) e))

-- ---- one is changed

pub nth_changed : (change : Side → PlainCrossing → PlainCrossing) (side : Side) (n : ℕ) (xs : List Call) (y d : Call) → n < length xs
    → plain y ≡ with_crossing (change side (plain (slice_index_or xs n d)).crossing) (plain (slice_index_or xs n d))
    → plains (slice_set xs n y) ≡ changed_nth change side n (plains xs)
nth_changed change side zero (x ∷ xs) y d low h = ap (λ (p : PlainCall). p ∷ plains xs) h
nth_changed change side (suc n) (x ∷ xs) y d low h =
    ap (λ (ps : List PlainCall). plain x ∷ ps) (nth_changed change side n xs y d (omega (arith, low)) h)
nth_changed change side n [] y d low h = absurd (omega (arith, low))

-- the one at this place, which is where the leg is
pub changed_there : (change : Side → PlainCrossing → PlainCrossing) (line channel n : ℕ) (side : Side) (xs : List Call) (y d : Call)
    → n < length xs → place_of line channel (plains xs) ≡ Some (n, side) → d ≡ slice_index_or xs n d
    → plain y ≡ with_crossing (change side (plain d).crossing) (plain d)
    → plains (slice_set xs n y) ≡ changed_at change (place_of line channel (plains xs)) (plains xs)
changed_there change line channel n side xs y d low place at h =
    nth_changed change side n xs y d low (h ∙ ap (λ (e : Call). with_crossing (change side (plain e).crossing) (plain e)) at)
    ∙ sym (ap (λ o. changed_at change o (plains xs)) place)

-- ---- each one is changed

abbrev pub left_mapped : (PlainCall → PlainCall) → ℕ → List PlainCall → List PlainCall
left_mapped f zero xs = map f xs
left_mapped f (suc n) [] = []
left_mapped f (suc n) (x ∷ xs) = x ∷ left_mapped f n xs

one_more : (f : PlainCall → PlainCall) (n : ℕ) (xs : List Call) (y d : Call) → n < length xs → plain y ≡ f (plain (slice_index_or xs n d))
    → left_mapped f (suc n) (plains (slice_set xs n y)) ≡ left_mapped f n (plains xs)
one_more f zero (x ∷ xs) y d low h = ap (λ (p : PlainCall). p ∷ map f (plains xs)) h
one_more f (suc n) (x ∷ xs) y d low h = ap (λ (ps : List PlainCall). plain x ∷ ps) (one_more f n xs y d (omega (arith, low)) h)
one_more f n [] y d low h = absurd (omega (arith, low))

pub changed_more : (f : PlainCall → PlainCall) (n : ℕ) (xs : List Call) (y d : Call) → n < length xs → plain y ≡ f (plain (slice_index_or xs n d))
    → left_mapped f (n + 1) (plains (slice_set xs n y)) ≡ left_mapped f n (plains xs)
changed_more f n xs y d low h =
    let more : n + 1 ≡ suc n = omega arith in
    ap (λ (k : ℕ). left_mapped f k (plains (slice_set xs n y))) more ∙ one_more f n xs y d low h

pub all_mapped : (f : PlainCall → PlainCall) (n : ℕ) (xs : List Call) → length xs ≤ n → left_mapped f n (plains xs) ≡ plains xs
all_mapped f zero [] few = refl
all_mapped f zero (x ∷ xs) few = absurd (omega (arith, few))
all_mapped f (suc n) [] few = refl
all_mapped f (suc n) (x ∷ xs) few = ap (λ (ps : List PlainCall). plain x ∷ ps) (all_mapped f n xs (omega (arith, few)))

-- ---- one of them

pub get_plain : (xs : List Call) (n : ℕ) (d : Call) → n < length xs → d ≡ slice_index_or xs n d → slice_get (plains xs) n ≡ Some (plain d)
get_plain [] n d low at = absurd (omega (arith, low))
get_plain (x ∷ xs) zero d low at = ap (λ (e : Call). Some (plain e)) (sym at)
get_plain (x ∷ xs) (suc n) d low at = get_plain xs n d (omega (arith, low)) at

pub set_plains : (xs : List Call) (n : ℕ) (y : Call) → plains (slice_set xs n y) ≡ slice_set (plains xs) n (plain y)
set_plains [] zero y = refl
set_plains [] (suc n) y = refl
set_plains (x ∷ xs) zero y = refl
set_plains (x ∷ xs) (suc n) y = ap (λ (ps : List PlainCall). plain x ∷ ps) (set_plains xs n y)

pub set_same : (xs : List Call) (n : ℕ) (y d : Call) → n < length xs → d ≡ slice_index_or xs n d → plain y ≡ plain d
    → plains (slice_set xs n y) ≡ plains xs
set_same [] n y d low at h = absurd (omega (arith, low))
set_same (x ∷ xs) zero y d low at h = ap (λ (p : PlainCall). p ∷ plains xs) (h ∙ ap plain at)
set_same (x ∷ xs) (suc n) y d low at h = ap (λ (ps : List PlainCall). plain x ∷ ps) (set_same xs n y d (omega (arith, low)) at h)

pub as_none : {A P : Type 0} (o : Option A) → P → IfNone o P
as_none None p = p
as_none (Some a) p = tt

-- one that is over is taken out
one_kept : (x : PlainCall) (old new : List PlainCall) → Sweeps old new → Sweeps (x ∷ old) (x ∷ new)
one_kept x old new (None_is same) = None_is (ap (λ (ps : List PlainCall). x ∷ ps) same)
one_kept x old new (One_is front back c is_over was is) =
    One_is (x ∷ front) back c is_over (ap (λ (ps : List PlainCall). x ∷ ps) was) (ap (λ (ps : List PlainCall). x ∷ ps) is)

pub taken_out : (xs : List Call) (n : ℕ) → Holds (λ (c : PlainCall). is_over c.crossing ≡ true) (slice_get (plains xs) n)
    → Sweeps (plains xs) (plains (take n xs ++ drop (suc n) xs))
taken_out [] n h = absurd (h)
taken_out (x ∷ xs) zero h = One_is [] (plains xs) (plain x) h refl refl
taken_out (x ∷ xs) (suc n) h = one_kept (plain x) (plains xs) (plains (take n xs ++ drop (suc n) xs)) (taken_out xs n h)

-- ---- a call is made, or not

pub made_there : (line channel asked n : ℕ) (xs : List Call) (cs : List PlainCall) (y d : Call) → channel ≡ asked
    → plains xs ≡ vacated line channel cs → n < length xs → d ≡ slice_index_or xs n d → plain y ≡ called_on line channel (plain d)
    → (call : PlainCall) × (slice_get (vacated line asked cs) n ≡ Some call)
    × (plains (slice_set xs n y) ≡ slice_set (vacated line asked cs) n (called_on line asked call))
made_there line channel asked n xs cs y d same is low at h =
    let to : plains xs ≡ vacated line asked cs = is ∙ ap (λ (k : ℕ). vacated line k cs) same in (
      plain d,
      ap (λ (ps : List PlainCall). slice_get ps n) (sym to) ∙ get_plain xs n d low at,
      set_plains xs n y ∙ ap (λ (ps : List PlainCall). slice_set ps n (plain y)) to
          ∙ ap (λ (p : PlainCall). slice_set (vacated line asked cs) n p) (h ∙ ap (λ (k : ℕ). called_on line k (plain d)) same),
    )

pub made_apart : (line channel n : ℕ) (xs : List Call) (y d : Call) → n < length xs → d ≡ slice_index_or xs n d
    → plain y ≡ called_on line channel (plain d) → legs_in line channel (plains xs) ≡ 0 → AreApart (plains xs) → AreApart (plains (slice_set xs n y))
made_apart line channel n xs y d low at h none apart =
    subst AreApart (sym (set_plains xs n y ∙ ap (λ (p : PlainCall). slice_set (plains xs) n p) h))
    (called_apart line channel n (plains xs) (plain d) (get_plain xs n d low at) none apart)

pub not_made_there : (number n : ℕ) (xs : List Call) (y d : Call) → n < length xs → d ≡ slice_index_or xs n d → NotMade number (plain d) (plain y)
    → (call left : PlainCall) × (slice_get (plains xs) n ≡ Some call) × NotMade number call left × (plains (slice_set xs n y) ≡ slice_set (plains xs) n left)
not_made_there number n xs y d low at not = (plain d, plain y, get_plain xs n d low at, not, set_plains xs n y)

pub not_made_leaves_apart : (number n : ℕ) (xs : List Call) (y d : Call) → n < length xs → d ≡ slice_index_or xs n d → NotMade number (plain d) (plain y)
    → AreApart (plains xs) → AreApart (plains (slice_set xs n y))
not_made_leaves_apart number n xs y d low at not apart =
    subst AreApart (sym (set_plains xs n y)) (not_made_apart number n (plains xs) (plain d) (plain y) (get_plain xs n d low at) not apart)

-- ---- a call comes

plains_more : (xs : List Call) (x : Call) → plains (xs ++ x ∷ []) ≡ plains xs ++ plain x ∷ []
plains_more [] x = refl
plains_more (y ∷ xs) x = ap (λ (ps : List PlainCall). plain y ∷ ps) (plains_more xs x)

pub pushed_apart : (octets line channel : ℕ) (xs : List Call) (x : Call) → plain x ≡ new_call octets line channel
    → legs_in line channel (plains xs) ≡ 0 → AreApart (plains xs) → AreApart (plains (xs ++ x ∷ []))
pushed_apart octets line channel xs x is none apart =
    subst AreApart (sym (plains_more xs x ∙ ap (λ (p : PlainCall). plains xs ++ p ∷ []) is))
    (more_apart octets line channel (plains xs) none apart)
