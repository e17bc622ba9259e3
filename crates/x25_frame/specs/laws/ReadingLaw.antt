-- What octets read as, and the grammar of frames.
use Rattle.std.specs.Prelude.{◌≡◌, ◌<◌, ◌↔◌, ℕ, List, All, Ok, Err}
use Rattle.x25_bits.specs.declared.role.Role.{Role}
use Rattle.x25_frame.specs.Frame.{PlainFrame}
use Rattle.x25_frame.specs.Spelling.{Spells}
use Rattle.x25_frame.specs.Reading.{frame_of}
use Rattle.x25_frame.specs.Error.{IsFirstError}
use Rattle.x25_frame.specs.declared.error.FrameError.{FrameError}

-- octets that spell a frame are read as that frame
abbrev pub ReadsSpelled : Type 0
ReadsSpelled = (from : Role) (n1 : ℕ) (v : PlainFrame) (octets : List ℕ) → Spells from n1 v octets
    → frame_of from n1 octets ≡ Ok v

-- octets are read as a frame exactly where they spell it
abbrev pub ReadsWhatIsSpelled : Type 0
ReadsWhatIsSpelled = (from : Role) (n1 : ℕ) (v : PlainFrame) (octets : List ℕ) → All (λ octet. octet < 256) octets
    → (frame_of from n1 octets ≡ Ok v) ↔ Spells from n1 v octets

-- and else as their first error
abbrev pub ReadsTheFirstError : Type 0
ReadsTheFirstError = (from : Role) (n1 : ℕ) (octets : List ℕ) (e : FrameError) → All (λ octet. octet < 256) octets
    → frame_of from n1 octets ≡ Err e → IsFirstError from n1 octets e
