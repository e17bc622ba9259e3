-- Which error octets have that spell no frame. ITU-T X.25 (10/96), sections 2.2.9 and 2.3.5.4.
use Rattle.std.specs.Prelude.{ℕ, ◌-◌, ◌<◌, ◌≤◌, ◌≡◌, ◌≢◌, List, length, take, drop, slice_index}
use Rattle.x25_bits.specs.FrameCheck.Sealed.{IsSealed}
use Rattle.x25_bits.specs.declared.role.Role.{Role}
use Rattle.x25_frame.specs.Frame.{PlainFrame}
use Rattle.x25_frame.specs.Spelling.{address_of, is_command, control_of, IsInRange, MayCarry, IsWithin}
use Rattle.x25_frame.specs.declared.error.FrameError.{FrameError}
use Rattle.x25_frame.specs.declared.error.FrameError.TheVariants.{Short, BadFcs, BadAddress, Undefined, NoInfoAllowed}
use Rattle.x25_frame.specs.declared.error.FrameError.TheVariants.{TooLong}

abbrev pub number_of : FrameError → ℕ
number_of Short = 1
number_of BadFcs = 2
number_of BadAddress = 3
number_of (Undefined control) = 4
number_of (NoInfoAllowed control) = 5
number_of TooLong = 6

-- what lies between the control and the frame check sequence
abbrev pub information_in : List ℕ → List ℕ
information_in octets = take (length octets - 4) (drop 2 octets)

-- the address and the control are those of the frame
pub record HasKind (from : Role) (v : PlainFrame) (octets : List ℕ) : Type 0 where
  pub in_range : IsInRange v
  pub address : slice_index octets 0 ≡ address_of from (is_command v)
  pub control : slice_index octets 1 ≡ control_of v

-- four octets or more, of which the last two are the frame check sequence of the rest
pub record IsValid (octets : List ℕ) : Type 0 where
  pub long : 4 ≤ length octets
  pub sealed : IsSealed octets

-- the error is the first that the octets have
abbrev pub IsFirstError : Role → ℕ → List ℕ → FrameError → Type 0
IsFirstError from n1 octets Short = length octets < 4
IsFirstError from n1 octets BadFcs = (4 ≤ length octets) × ¬ IsSealed octets
IsFirstError from n1 octets BadAddress = IsValid octets × (slice_index octets 0 ≢ 1) × (slice_index octets 0 ≢ 3)
IsFirstError from n1 octets (Undefined control) = IsValid octets
    × ((slice_index octets 0 ≢ 1) → slice_index octets 0 ≡ 3)
    × ((v : PlainFrame) → ¬ HasKind from v octets) × (slice_index octets 1 ≡ control)
IsFirstError from n1 octets (NoInfoAllowed control) = IsValid octets
    × ((v : PlainFrame) × HasKind from v octets × ¬ MayCarry v (information_in octets))
    × (slice_index octets 1 ≡ control)
IsFirstError from n1 octets TooLong = IsValid octets
    × ((v : PlainFrame) × HasKind from v octets × MayCarry v (information_in octets)
    × ¬ IsWithin n1 v (information_in octets))
