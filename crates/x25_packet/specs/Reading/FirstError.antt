-- Which error octets have that spell no packet: the first ground that applies, from the front. ITU-T X.25 (10/96),
-- section 5; the order of the grounds is of the profile.
use Rattle.std.specs.Prelude.{ℕ, ◌+◌, ◌/◌, ◌%◌, ◌<◌, ◌≡◌, ◌≢◌, ◌⊎◌, true, false, List, [], ◌∷◌, ◌++◌, length, Option}
use Rattle.std.specs.Prelude.{Some, None}
use Rattle.x25_packet.specs.declared.error.PacketError.{PacketError}
use Rattle.x25_packet.specs.declared.error.PacketError.TheVariants.{TooShort, BadFormat, Unidentified, TooLong}
use Rattle.x25_packet.specs.declared.error.PacketError.TheVariants.{BadDigit, BadFacility, BadParameter}
use Rattle.x25_packet.specs.declared.facilities.Facilities.{Facilities}
use Rattle.x25_packet.specs.declared.facilities.Directions.{Directions}
use Rattle.x25_packet.specs.Digits.{hold_digits}
use Rattle.x25_packet.specs.Facilities.{AreAllowed, AreWithin, IsFacilityField, field_of}
use Rattle.x25_packet.specs.Packet.{PlainPacket, call, accept, clear, user_data, interrupt, reset, restart}
use Rattle.x25_packet.specs.Spelling.{IsInRange, IsWithoutD, header_of}

-- ---- in a facility field

-- the code of the last facility, 0 where there is none
abbrev pub last_code : Option Directions → Option Directions → ℕ
last_code None None = 0
last_code (Some sizes) None = 66
last_code sizes (Some windows) = 67

-- codes rise, so that each comes once and sizes go before windows
pub record MayFollow (facilities : Facilities) (code : ℕ) : Type 0 where
  pub rises : last_code facilities.packet_size facilities.window_size < code
  pub known : (code ≡ 66) ⊎ (code ≡ 67)

pub record AreInRange (code : ℕ) (values : Directions) : Type 0 where
  pub sizes : code ≡ 66 → AreWithin 4 12 values
  pub windows : code ≡ 67 → AreWithin 1 7 values

-- behind facilities that are allowed stands a code that isn't, one with too few octets, or one with octets out of range
pub data FieldError : List ℕ → PacketError → Type 0 where
  wrong_code : (before : Facilities) (code : ℕ) (rest : List ℕ)
      → AreAllowed before → ¬ MayFollow before code
      → FieldError (field_of before ++ code ∷ rest) BadFacility
  cut_off : (before : Facilities) (code : ℕ) (rest : List ℕ)
      → AreAllowed before → MayFollow before code → length rest < 2
      → FieldError (field_of before ++ code ∷ rest) BadParameter
  out_of_range : (before : Facilities) (code : ℕ) (values : Directions) (rest : List ℕ)
      → AreAllowed before → MayFollow before code → ¬ AreInRange code values
      → FieldError (field_of before ++ code ∷ values.called ∷ values.calling ∷ rest) BadParameter

-- ---- in a body

-- behind the addresses: the facility field behind its length, and at most `most` octets of user data
pub data BehindError (most : ℕ) : List ℕ → PacketError → Type 0 where
  no_size : BehindError most [] TooShort
  field_missing : (size : ℕ) (rest : List ℕ) → length rest < size → BehindError most (size ∷ rest) TooShort
  in_field : (field user : List ℕ) (e : PacketError) → FieldError field e
      → BehindError most (length field ∷ field ++ user) e
  user_long : (field user : List ℕ) → IsFacilityField field → most < length user
      → BehindError most (length field ∷ field ++ user) TooLong

-- how many digits the address lengths announce, and in how many octets
abbrev pub digits_of : ℕ → ℕ
digits_of lengths = lengths % 16 + lengths / 16

abbrev pub block_of : ℕ → ℕ
block_of lengths = (digits_of lengths + 1) / 2

pub data CallError (most : ℕ) : List ℕ → PacketError → Type 0 where
  no_lengths : CallError most [] TooShort
  digits_missing : (lengths : ℕ) (octets : List ℕ) → length octets < block_of lengths
      → CallError most (lengths ∷ octets) TooShort
  wrong_digit : (lengths : ℕ) (block rest : List ℕ)
      → length block ≡ block_of lengths → hold_digits (digits_of lengths) block ≡ false
      → CallError most (lengths ∷ block ++ rest) BadDigit
  behind_digits : (lengths : ℕ) (block rest : List ℕ) (e : PacketError)
      → length block ≡ block_of lengths → hold_digits (digits_of lengths) block ≡ true → BehindError most rest e
      → CallError most (lengths ∷ block ++ rest) e

-- an ACCEPT has no digits, no empty facility field and no user data
pub data AcceptError : List ℕ → PacketError → Type 0 where
  some_lengths : (lengths : ℕ) (rest : List ℕ) → lengths ≢ 0 → AcceptError (lengths ∷ rest) BadDigit
  no_field : AcceptError (0 ∷ []) TooShort
  zero_size : (rest : List ℕ) → AcceptError (0 ∷ 0 ∷ rest) BadParameter
  behind_lengths : (size : ℕ) (rest : List ℕ) (e : PacketError)
      → size ≢ 0 → BehindError 0 (size ∷ rest) e
      → AcceptError (0 ∷ size ∷ rest) e

-- fewer octets than the least, or more than the most
abbrev pub IsLengthError : ℕ → ℕ → List ℕ → PacketError → Type 0
IsLengthError least most body TooShort = length body < least
IsLengthError least most body TooLong = most < length body
IsLengthError least most body _ = ⊥

abbrev pub IsBodyError : ℕ → PlainPacket → List ℕ → PacketError → Type 0
IsBodyError most (call channel called calling facilities user) body e = CallError most body e
IsBodyError most (accept channel facilities) body e = AcceptError body e
IsBodyError most (clear channel cause diagnostic) body e = IsLengthError 2 2 body e
IsBodyError most (user_data channel marks m ps pr user) body e = IsLengthError 0 4096 body e
IsBodyError most (interrupt channel user) body e = IsLengthError 1 32 body e
IsBodyError most (reset channel cause diagnostic) body e = IsLengthError 2 2 body e
IsBodyError most (restart cause diagnostic) body e = IsLengthError 2 2 body e
IsBodyError most _ body e = IsLengthError 0 0 body e

-- ---- in a packet

-- the general format identifier is 1, or 9 in a data packet with the qualifier
abbrev pub HasFormat : ℕ → ℕ → Type 0
HasFormat first kind = (first / 16 ≡ 1) ⊎ ((first / 16 ≡ 9) × (kind % 2 ≡ 0))

pub data IsFirstError (most : ℕ) : List ℕ → PacketError → Type 0 where
  no_header : (octets : List ℕ) → length octets < 3 → IsFirstError most octets TooShort
  wrong_format : (first second kind : ℕ) (body : List ℕ) → ¬ HasFormat first kind
      → IsFirstError most (first ∷ second ∷ kind ∷ body) BadFormat
  -- no packet begins with these three octets
  no_packet : (first second kind : ℕ) (body : List ℕ)
      → HasFormat first kind → ((v : PlainPacket) → IsInRange most v → header_of v ≢ first ∷ second ∷ kind ∷ [])
      → IsFirstError most (first ∷ second ∷ kind ∷ body) Unidentified
  -- a packet does, and what follows is no body of its type
  in_body : (v : PlainPacket) (body : List ℕ) (e : PacketError)
      → IsInRange most v → IsWithoutD v → IsBodyError most v body e
      → IsFirstError most (header_of v ++ body) e
