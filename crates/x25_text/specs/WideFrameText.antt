-- The text that a trace shows of frames where packets are read in all their forms, and of frames that LAPB modulo 8
-- lacks (profile).
use Rattle.std.specs.Prelude.{ℕ, ◌+◌, ◌*◌, ◌/◌, ◌%◌, ◌==◌, ◌&&◌, Bool, true, false, List, [], ◌∷◌, ◌++◌, codes, decimal}
use Rattle.std.specs.Prelude.{slice_index, if◌then◌else◌}
use Rattle.std.specs.Prelude.{Option, Some, None, Result, Ok, Err}
use Rattle.x25_bits.specs.declared.role.Role.{Role}
use Rattle.x25_frame.specs.Error.{information_in}
use Rattle.x25_frame.specs.Frame.{PlainFrame, info}
use Rattle.x25_frame.specs.Spelling.{address_of, bit}
use Rattle.x25_frame.specs.declared.error.FrameError.{FrameError}
use Rattle.x25_frame.specs.declared.error.FrameError.TheVariants.{Undefined}
use Rattle.x25_text.specs.FrameText.{frame_text, fault_text, supervisory_text}
use Rattle.x25_text.specs.Text.{octets_text}
use Rattle.x25_text.specs.WidePacketText.{wide_information_text}

abbrev pub wide_frame_text : Bool → PlainFrame → List ℕ
wide_frame_text long_data (info ns nr p octets) = codes "I cmd P=" ++ decimal (bit p) ++ codes " S=" ++ decimal ns
    ++ codes " R=" ++ decimal nr
    ++ codes " | " ++ wide_information_text long_data octets
wide_frame_text long_data v = frame_text long_data v

-- ---- frames that LAPB modulo 8 lacks: ISO/IEC 13239, and table 2-8 of X.25 for SABME

-- by the control without its poll or final bit
abbrev pub unnumbered_name : Bool → ℕ → Option (List ℕ)
unnumbered_name command base =
    if base == 3 then Some (codes "UI")
    else if base == 175 then Some (codes "XID")
    else if base == 227 then Some (codes "TEST")
    else if command && base == 111 then Some (codes "SABME")
    else if command && base == 15 then Some (codes "SARM")
    else None

abbrev pub poll_text : Bool → Bool → List ℕ
poll_text true pf = codes " cmd P=" ++ decimal (bit pf)
poll_text false pf = codes " rsp F=" ++ decimal (bit pf)

abbrev pub unnumbered_text : Bool → Bool → Option (List ℕ) → Option (List ℕ)
unnumbered_text command pf None = None
unnumbered_text command pf (Some name) = Some (name ++ poll_text command pf)

-- by the control: SREJ has N(R)
abbrev pub other_head : Bool → ℕ → Option (List ℕ)
other_head command control =
    if control % 16 == 13 then Some (codes "SREJ " ++ supervisory_text command (control / 16 % 2 == 1) (control / 32))
    else unnumbered_text command (control / 16 % 2 == 1) (unnumbered_name command (control % 16 + 32 * (control / 32)))

abbrev pub other_information_text : List ℕ → List ℕ
other_information_text [] = []
other_information_text (octet ∷ octets) = codes " info=" ++ octets_text (octet ∷ octets)

abbrev pub headed_text : ℕ → List ℕ → Option (List ℕ) → List ℕ
headed_text control information None = fault_text (Undefined control)
headed_text control information (Some head) = head ++ other_information_text information ++ codes " ~ wide"

-- octets sent by this end whose control is of no frame of LAPB modulo 8
abbrev pub other_frame_text : Role → List ℕ → ℕ → List ℕ
other_frame_text from octets control =
    headed_text control (information_in octets) (other_head (slice_index octets 0 == address_of from true) control)

-- what octets read as, on one line
abbrev pub wide_reading_text : Bool → Role → List ℕ → Result PlainFrame FrameError → List ℕ
wide_reading_text long_data from octets (Ok v) = wide_frame_text long_data v
wide_reading_text long_data from octets (Err (Undefined control)) = other_frame_text from octets control
wide_reading_text long_data from octets (Err error) = fault_text error
