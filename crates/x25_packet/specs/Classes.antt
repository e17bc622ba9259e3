-- Facilities of all classes. ITU-T X.25 (10/96), section 7.
use Rattle.std.specs.Prelude.{ℕ, zero, suc, ◌+◌, ◌/◌, ◌≤◌, ◌≡◌, ◌==◌, ◌||◌, nat_le, nat_lt, Bool, true, false, List, []}
use Rattle.std.specs.Prelude.{◌∷◌, ◌++◌}
use Rattle.std.specs.Prelude.{length, slice_index, if◌then◌else◌, Some, None}
use Rattle.x25_packet.specs.declared.classes.Own.{Own}

-- A facility: a code and its value. The two highest bits of the code are its class: in A, B and C the value is one, two
-- and three octets, in D an octet says how many. Section 7.1.
pub data Facility : Type 0 where
  class_a : ℕ → ℕ → Facility
  class_b : ℕ → ℕ → ℕ → Facility
  class_c : ℕ → ℕ → ℕ → ℕ → Facility
  class_d : ℕ → List ℕ → Facility

abbrev pub octets_of : Facility → List ℕ
octets_of (class_a code first) = code ∷ first ∷ []
octets_of (class_b code first second) = code ∷ first ∷ second ∷ []
octets_of (class_c code first second third) = code ∷ first ∷ second ∷ third ∷ []
octets_of (class_d code value) = code ∷ length value ∷ value

abbrev pub IsOfClass : Facility → Type 0
IsOfClass (class_a code first) = code / 64 ≡ 0
IsOfClass (class_b code first second) = code / 64 ≡ 1
IsOfClass (class_c code first second third) = code / 64 ≡ 2
IsOfClass (class_d code value) = 3 ≤ code / 64

abbrev pub AreOfClass : List Facility → Type 0
AreOfClass [] = Unit {0}
AreOfClass (facility ∷ facilities) = IsOfClass facility × AreOfClass facilities

-- the octets of facilities one behind another
abbrev pub field_of : List Facility → List ℕ
field_of [] = []
field_of (facility ∷ facilities) = octets_of facility ++ field_of facilities

abbrev pub IsFacilityField : List ℕ → Type 0
IsFacilityField field = (facilities : List Facility) × AreOfClass facilities × (field ≡ field_of facilities)

-- ---- the field read from the left

-- how many octets a facility has behind its first two
abbrev pub more_of : ℕ → ℕ → ℕ
more_of code second = if nat_lt code 192 then code / 64 else second

-- how many the first one of a field has, 2 where no two octets are there
abbrev pub size_of : List ℕ → ℕ
size_of [] = 2
size_of (code ∷ []) = 2
size_of (code ∷ second ∷ rest) = 2 + more_of code second

-- with this many octets of the last facility to come, the rest is facilities
unfoldable pub are_facilities : ℕ → List ℕ → Bool
are_facilities zero [] = true
are_facilities zero (code ∷ []) = false
are_facilities zero (code ∷ second ∷ rest) = are_facilities (more_of code second) rest
are_facilities (suc more) [] = false
are_facilities (suc more) (octet ∷ rest) = are_facilities more rest

abbrev pub none_own : Own
none_own = record { fast_select = false; packet_size = None; window_size = None }

-- Fast select is the highest bit of facility 1 (section 7.2.2.6); facility 66 (0x42) is packet sizes, 67 (0x43) window
-- sizes, of the direction from the called end first (sections 7.2.2.1 and 7.2.2.2).
abbrev pub with_facility : Own → ℕ → ℕ → ℕ → Own
with_facility own code second third =
    if code == 1 then record own { fast_select = nat_le 128 second }
    else if code == 66 then record own { packet_size = Some (record { called = second; calling = third }) }
    else if code == 67 then record own { window_size = Some (record { called = second; calling = third }) }
    else own

-- what they ask for, up to a marker: a facility with code 0 (section 7.1); one that is cut off asks for nothing
unfoldable pub own_in : Own → ℕ → List ℕ → Own
own_in own zero [] = own
own_in own zero (code ∷ []) = own
own_in own zero (code ∷ second ∷ rest) =
    if code == 0 || nat_lt (length rest) (more_of code second) then own
    else own_in (with_facility own code second (slice_index rest 0)) (more_of code second) rest
own_in own (suc more) [] = own
own_in own (suc more) (octet ∷ rest) = own_in own more rest

abbrev pub asks_fast_select : List ℕ → Bool
asks_fast_select field = let own = own_in none_own 0 field in own.fast_select
