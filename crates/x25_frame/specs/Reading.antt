-- What octets read as: the frame that they spell, or else their first error.
use Rattle.std.specs.Prelude.{ℕ, ◌+◌, ◌*◌, ◌/◌, ◌%◌, ◌==◌, nat_lt, nat_le, Bool, true, false, not, List, [], ◌∷◌}
use Rattle.std.specs.Prelude.{length, slice_index, if◌then◌else◌, Result, Ok, Err, ◌≡◌}
use Rattle.x25_bits.specs.FrameCheck.Sealed.{is_sealed}
use Rattle.x25_bits.specs.declared.role.Role.{Role}
use Rattle.x25_frame.specs.declared.error.FrameError.{FrameError}
use Rattle.x25_frame.specs.declared.error.FrameError.TheVariants.{Short, BadFcs, BadAddress, Undefined, NoInfoAllowed}
use Rattle.x25_frame.specs.declared.error.FrameError.TheVariants.{TooLong}
use Rattle.x25_frame.specs.declared.frame.Frame.{Frame}
use Rattle.x25_frame.specs.Frame.{PlainFrame, plain, info, rr, rnr, rej, sabm, disc, ua, dm, frmr}
use Rattle.x25_frame.specs.Spelling.{address_of}
use Rattle.x25_frame.specs.Error.{information_in}

-- a frame that has no information
abbrev pub bare : ℕ → List ℕ → PlainFrame → Result PlainFrame FrameError
bare control [] v = Ok v
bare control (o ∷ octets) v = Err (NoInfoAllowed control)

-- by the control without its poll or final bit
abbrev pub unnumbered : Bool → ℕ → ℕ → Bool → List ℕ → Result PlainFrame FrameError
unnumbered true base control pf octets =
    if base == 47 then bare control octets (sabm pf)
    else if base == 67 then bare control octets (disc pf)
    else Err (Undefined control)
unnumbered false base control pf octets =
    if base == 99 then bare control octets (ua pf)
    else if base == 15 then bare control octets (dm pf)
    else if base == 135 then (if length octets == 3 then Ok (frmr pf octets) else Err (NoInfoAllowed control))
    else Err (Undefined control)

-- a command or a response with this control and information
abbrev pub kind_of : ℕ → Bool → ℕ → List ℕ → Result PlainFrame FrameError
kind_of n1 command control octets =
    let nr = control / 32 in
    let pf = control / 16 % 2 == 1 in
    if control % 2 == 0 then (if command
    then (if nat_le (length octets) n1 then Ok (info (control / 2 % 8) nr pf octets) else Err TooLong)
    else Err (Undefined control))
    else if control % 16 == 1 then bare control octets (rr command nr pf)
    else if control % 16 == 5 then bare control octets (rnr command nr pf)
    else if control % 16 == 9 then bare control octets (rej command nr pf)
    else unnumbered command (control % 16 + 32 * nr) control pf octets

-- a valid frame by its address
abbrev pub addressed_frame : Role → ℕ → List ℕ → Result PlainFrame FrameError
addressed_frame from n1 octets =
    let address = slice_index octets 0 in
    let control = slice_index octets 1 in
    if address == address_of from true then kind_of n1 true control (information_in octets)
    else if address == address_of from false then kind_of n1 false control (information_in octets)
    else Err BadAddress

unfoldable pub frame_of : Role → ℕ → List ℕ → Result PlainFrame FrameError
frame_of from n1 octets =
    if nat_lt (length octets) 4 then Err Short
    else if not (is_sealed octets) then Err BadFcs
    else addressed_frame from n1 octets

-- an answer is what the octets read as
abbrev pub Gives : Result Frame FrameError → Result PlainFrame FrameError → Type 0
Gives (Ok v) read = read ≡ Ok (plain v)
Gives (Err e) read = read ≡ Err e
