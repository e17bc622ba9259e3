-- A facility field is read exactly where it is facilities one behind another.
use Rattle.x25_packet.proofs.Names.{ℕ, zero, suc, ◌+◌, ◌/◌, ◌<◌, ◌≤◌, ◌≡◌, ◌∙◌, Bool, true, false, List, [], ◌∷◌, ◌++◌, length, get_or, drop, refl, ap, sym}
use Rattle.x25_packet.proofs.Names.{arith, nat_eq, nat_lt, ◌≢◌, inl, inr, cond, ◌||◌, ne_eqb, le-ltb, class_b, IsFacilityField, are_facilities, own_in, Own}
use Rattle.std.proofs.lemmas.Bool.{cases_lt, lt-ltb}
use Rattle.x25_packet.specs.Classes.{Facility, class_a, class_c, class_d, octets_of, IsOfClass, AreOfClass, field_of, more_of, size_of, with_facility}

-- ---- the code's steps

skipped : (n : ℕ) (xs : List ℕ) → n ≤ length xs → are_facilities n xs ≡ are_facilities 0 (drop n xs)
unfolding are_facilities
skipped zero xs h = refl
skipped (suc n) [] h = absurd (omega arith)
skipped (suc n) (x ∷ xs) h = skipped n xs (omega arith)

pub too_few : (n : ℕ) (xs : List ℕ) → length xs < n → are_facilities n xs ≡ false
unfolding are_facilities
too_few zero xs h = absurd (omega arith)
too_few (suc n) [] h = refl
too_few (suc n) (x ∷ xs) h = too_few n xs (omega arith)

own_skipped : (own : Own) (n : ℕ) (xs : List ℕ) → n ≤ length xs → own_in own n xs ≡ own_in own 0 (drop n xs)
unfolding own_in
own_skipped own zero xs h = refl
own_skipped own (suc n) [] h = absurd (omega arith)
own_skipped own (suc n) (x ∷ xs) h = own_skipped own n xs (omega arith)

-- what is behind the first facility
behind : (code second : ℕ) (others rest : List ℕ) → rest ≡ drop (2 + more_of code second) (code ∷ second ∷ others) → rest ≡ drop (more_of code second) others
behind code second others rest same =
    let size : 2 + more_of code second ≡ suc (suc (more_of code second)) = omega arith in same ∙ ap (λ n. drop n (code ∷ second ∷ others)) size

room_for : (code second : ℕ) (others : List ℕ) → 2 + more_of code second ≤ length (code ∷ second ∷ others) → more_of code second ≤ length others
room_for code second others room = omega arith

-- one facility is taken off the front
pub stepped : (xs rest : List ℕ) → size_of xs ≤ length xs → rest ≡ drop (size_of xs) xs → are_facilities 0 rest ≡ are_facilities 0 xs
unfolding are_facilities
stepped [] rest room same = absurd (omega (arith, room))
stepped (code ∷ []) rest room same = absurd (omega (arith, room))
stepped (code ∷ second ∷ others) rest room same =
    ap (are_facilities 0) (behind code second others rest same) ∙ sym (skipped (more_of code second) others (room_for code second others room))

-- none is whole
pub stopped : (xs : List ℕ) → length xs < size_of xs → nat_eq (length xs) 0 ≡ are_facilities 0 xs
unfolding are_facilities
stopped [] short = refl
stopped (code ∷ []) short = refl
stopped (code ∷ second ∷ rest) short =
    let some : nat_eq (length (code ∷ second ∷ rest)) 0 ≡ false = ne_eqb _ _ (λ none. absurd (omega arith)) in
    some ∙ sym (too_few (more_of code second) rest (omega (arith, short)))

taken : (b c : Bool) (x y : Own) → b ≡ false → c ≡ false → cond (b || c) x y ≡ y
taken b c x y e h = rw (e, h) refl

left : (b c : Bool) (x y : Own) → c ≡ true → x ≡ cond (b || c) x y
left true c x y h = refl
left false c x y h = rw h refl

-- what a facility that is no marker says
pub own_stepped : (own : Own) (xs rest : List ℕ) → size_of xs ≤ length xs → rest ≡ drop (size_of xs) xs → get_or xs 0 0 ≢ 0
    → own_in (with_facility own (get_or xs 0 0) (get_or xs 1 0) (get_or xs 2 0)) 0 rest ≡ own_in own 0 xs
unfolding own_in
own_stepped own [] rest room same some = absurd (omega (arith, room))
own_stepped own (code ∷ []) rest room same some = absurd (omega (arith, room))
own_stepped own (code ∷ second ∷ others) rest room same some =
    let next = with_facility own code second (get_or others 0 0) in
    let more = more_of code second in
    let enough = room_for code second others room in
    ap (own_in next 0) (behind code second others rest same) ∙ sym (own_skipped next more others enough)
    ∙ sym (taken (nat_eq code 0) (nat_lt (length others) more) own (own_in next more others) (ne_eqb _ _ some) (le-ltb _ _ enough))

pub own_ends : (own : Own) (xs : List ℕ) → length xs < size_of xs → own ≡ own_in own 0 xs
unfolding own_in
own_ends own [] short = refl
own_ends own (code ∷ []) short = refl
own_ends own (code ∷ second ∷ rest) short =
    left (nat_eq code 0) (nat_lt (length rest) (more_of code second)) own _ (lt-ltb _ _ (omega (arith, short)))

pub own_at_marker : (own : Own) (xs : List ℕ) → size_of xs ≤ length xs → get_or xs 0 0 ≡ 0 → own ≡ own_in own 0 xs
unfolding own_in
own_at_marker own [] room none = absurd (omega (arith, room))
own_at_marker own (code ∷ []) room none = absurd (omega (arith, room))
own_at_marker own (code ∷ second ∷ others) room none = rw none refl

-- ---- what is read is facilities

differ : false ≡ true → ⊥
differ h = cc

more_low : (code second : ℕ) → code < 192 → more_of code second ≡ code / 64
more_low code second low = rw (lt-ltb _ _ low) refl

more_high : (code second : ℕ) → 192 ≤ code → more_of code second ≡ second
more_high code second high = rw (le-ltb _ _ high) refl

-- a facility by its octets
record Classed (code second : ℕ) (value : List ℕ) : Type 0 where
  pub facility : Facility
  pub of_class : IsOfClass facility
  pub octets : octets_of facility ≡ code ∷ second ∷ value

low_classed : (code second : ℕ) (value : List ℕ) → code < 192 → length value ≡ code / 64 → Classed code second value
low_classed code second [] low size = record { facility = class_a code second; of_class = sym size; octets = refl }
low_classed code second (x ∷ []) low size = record { facility = class_b code second x; of_class = sym size; octets = refl }
low_classed code second (x ∷ y ∷ []) low size = record { facility = class_c code second x y; of_class = sym size; octets = refl }
low_classed code second (x ∷ y ∷ z ∷ value) low size = absurd (omega (arith, low, size))

classed : (code second : ℕ) (value : List ℕ) → length value ≡ more_of code second → Classed code second value
classed code second value size = elim (cases_lt code 192) [
  | inl low ↦ low_classed code second value low (size ∙ more_low code second low)
  | inr high ↦ record {
    facility = class_d code value;
    of_class = omega (arith, high);
    octets = ap (λ n. code ∷ n ∷ value) (size ∙ more_high code second high);
  }
]

-- octets of the last facility, and facilities
record Split (more : ℕ) (xs : List ℕ) : Type 0 where
  pub value : List ℕ
  pub size : length value ≡ more
  pub facilities : List Facility
  pub of_class : AreOfClass facilities
  pub joined : xs ≡ value ++ field_of facilities

one_more : (code second : ℕ) (rest : List ℕ) → Split (more_of code second) rest → Split 0 (code ∷ second ∷ rest)
one_more code second rest s =
    let f = classed code second s.value s.size in
    record {
      value = [];
      size = refl;
      facilities = f.facility ∷ s.facilities;
      of_class = (f.of_class, s.of_class);
      joined = ap (λ (r : List ℕ). code ∷ second ∷ r) s.joined ∙ ap (λ (o : List ℕ). o ++ field_of s.facilities) (sym f.octets);
    }

split : (more : ℕ) (xs : List ℕ) → are_facilities more xs ≡ true → Split more xs
unfolding are_facilities
split zero [] h = record { value = []; size = refl; facilities = []; of_class = tt; joined = refl }
split zero (code ∷ []) h = absurd (differ h)
split zero (code ∷ second ∷ rest) h = one_more code second rest (split (more_of code second) rest h)
split (suc more) [] h = absurd (differ h)
split (suc more) (octet ∷ rest) h =
    let s = split more rest h in
    record {
      value = octet ∷ s.value;
      size = ap suc s.size;
      facilities = s.facilities;
      of_class = s.of_class;
      joined = ap (λ (r : List ℕ). octet ∷ r) s.joined;
    }

pub field_found : (field : List ℕ) → are_facilities 0 field ≡ true → IsFacilityField field
field_found field h = let s = split 0 field h in (s.facilities, s.of_class, s.joined ∙ no_value s.value s.size)
  where
    no_value : (value : List ℕ) → length value ≡ 0 → value ++ field_of (split 0 field h).facilities ≡ field_of (split 0 field h).facilities
    no_value [] e = refl
    no_value (x ∷ value) e = absurd (omega (arith, e))

-- ---- facilities are read

behind_value : (value xs : List ℕ) → are_facilities (length value) (value ++ xs) ≡ are_facilities 0 xs
unfolding are_facilities
behind_value [] xs = refl
behind_value (x ∷ value) xs = behind_value value xs

facilities_again : (fs : List Facility) → AreOfClass fs → are_facilities 0 (field_of fs) ≡ true
unfolding are_facilities
facilities_again [] h = refl
facilities_again (class_a code x ∷ fs) h =
    ap (λ n. are_facilities n (field_of fs)) (more_low code x (omega (arith, h.0)) ∙ h.0) ∙ facilities_again fs h.1
facilities_again (class_b code x y ∷ fs) h =
    ap (λ n. are_facilities n (y ∷ field_of fs)) (more_low code x (omega (arith, h.0)) ∙ h.0) ∙ facilities_again fs h.1
facilities_again (class_c code x y z ∷ fs) h =
    ap (λ n. are_facilities n (y ∷ z ∷ field_of fs)) (more_low code x (omega (arith, h.0)) ∙ h.0) ∙ facilities_again fs h.1
facilities_again (class_d code value ∷ fs) h =
    ap (λ n. are_facilities n (value ++ field_of fs)) (more_high code (length value) (omega (arith, h.0)))
    ∙ behind_value value (field_of fs) ∙ facilities_again fs h.1

pub field_again : (field : List ℕ) → IsFacilityField field → are_facilities 0 field ≡ true
field_again field (fs, of_class, e) = ap (are_facilities 0) e ∙ facilities_again fs of_class
