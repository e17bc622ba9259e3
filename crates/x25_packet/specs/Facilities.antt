-- The facility field: packet sizes and window sizes. ITU-T X.25 (10/96), sections 7.1 and 7.2.2.1; that no other
-- facility is known, that each comes at most once and that packet sizes go first is of the profile.
use Rattle.std.specs.Prelude.{ℕ, ◌≡◌, ◌≤◌, ◌==◌, ◌&&◌, nat_le, Bool, List, [], ◌∷◌, ◌++◌, if◌then◌else◌, Option, Some}
use Rattle.std.specs.Prelude.{None, Result, Ok, Err}
use Rattle.x25_packet.specs.declared.facilities.Facilities.{Facilities}
use Rattle.x25_packet.specs.declared.facilities.Directions.{Directions}
use Rattle.x25_packet.specs.declared.error.PacketError.{PacketError}
use Rattle.x25_packet.specs.declared.error.PacketError.TheVariants.{BadFacility, BadParameter}

-- a facility of two octets: the direction from the called end, then that from the calling end
abbrev pub facility : ℕ → Option Directions → List ℕ
facility code None = []
facility code (Some values) = code ∷ values.called ∷ values.calling ∷ []

-- the octets of the field: code 66 (0x42) is packet size, 67 (0x43) window size
abbrev pub field_of : Facilities → List ℕ
field_of facilities = facility 66 facilities.packet_size ++ facility 67 facilities.window_size

pub record AreWithin (least most : ℕ) (values : Directions) : Type 0 where
  pub called_least : least ≤ values.called
  pub called_most : values.called ≤ most
  pub calling_least : least ≤ values.calling
  pub calling_most : values.calling ≤ most

abbrev pub IfGiven : Option Directions → (Directions → Type 0) → Type 0
IfGiven None P = Unit {0}
IfGiven (Some values) P = P values

-- packet sizes are 2 to a power of 4 to 12 octets, windows 1 to 7 packets
pub record AreAllowed (facilities : Facilities) : Type 0 where
  pub sizes : IfGiven facilities.packet_size (AreWithin 4 12)
  pub windows : IfGiven facilities.window_size (AreWithin 1 7)

-- the octets are a field of facilities that are allowed
abbrev pub IsFacilityField : List ℕ → Type 0
IsFacilityField field = (facilities : Facilities) × AreAllowed facilities × (field ≡ field_of facilities)

-- ---- the field read from the left

abbrev pub is_within : ℕ → ℕ → ℕ → Bool
is_within least most value = nat_le least value && nat_le value most

-- nothing may follow
abbrev pub last : {A : Type 0} → A → List ℕ → Result A PacketError
last value [] = Ok value
last value (code ∷ rest) = Err BadFacility

-- window sizes, or nothing
abbrev pub windows_of : List ℕ → Result (Option Directions) PacketError
windows_of [] = Ok None
windows_of (code ∷ []) = if code == 67 then Err BadParameter else Err BadFacility
windows_of (code ∷ called ∷ []) = if code == 67 then Err BadParameter else Err BadFacility
windows_of (code ∷ called ∷ calling ∷ rest) =
    if code == 67 then (if is_within 1 7 called && is_within 1 7 calling
    then last (Some (record { called = called; calling = calling })) rest
    else Err BadParameter)
    else Err BadFacility

abbrev pub with_sizes : Option Directions → Result (Option Directions) PacketError → Result Facilities PacketError
with_sizes sizes (Ok windows) = Ok (record { packet_size = sizes; window_size = windows })
with_sizes sizes (Err e) = Err e

-- the facilities of a field, or its first error
unfoldable pub facilities_of : List ℕ → Result Facilities PacketError
facilities_of [] = Ok (record { packet_size = None; window_size = None })
facilities_of (code ∷ []) = if code == 66 then Err BadParameter else with_sizes None (windows_of (code ∷ []))
facilities_of (code ∷ called ∷ []) = if code == 66 then Err BadParameter
    else with_sizes None (windows_of (code ∷ called ∷ []))
facilities_of (code ∷ called ∷ calling ∷ rest) =
    if code == 66 then (if is_within 4 12 called && is_within 4 12 calling
    then with_sizes (Some (record { called = called; calling = calling })) (windows_of rest)
    else Err BadParameter)
    else with_sizes None (windows_of (code ∷ called ∷ calling ∷ rest))
