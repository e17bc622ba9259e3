-- The text that a trace shows of a frame and of its error (profile).
use Rattle.std.specs.Prelude.{ℕ, Bool, true, false, List, ◌++◌, codes, decimal, slice_index, Result, Ok, Err}
use Rattle.x25_frame.specs.Frame.{PlainFrame, info, rr, rnr, rej, sabm, disc, ua, dm, frmr}
use Rattle.x25_frame.specs.Spelling.{bit}
use Rattle.x25_frame.specs.declared.error.FrameError.{FrameError}
use Rattle.x25_frame.specs.declared.error.FrameError.TheVariants.{Short, BadFcs, BadAddress, Undefined, NoInfoAllowed}
use Rattle.x25_frame.specs.declared.error.FrameError.TheVariants.{TooLong}
use Rattle.x25_text.specs.Text.{octet_text}
use Rattle.x25_text.specs.PacketText.{information_text}

-- of RR, RNR and REJ: command or response, the poll or final bit, and N(R)
abbrev pub supervisory_text : Bool → Bool → ℕ → List ℕ
supervisory_text true pf nr = codes "cmd P=" ++ decimal (bit pf) ++ codes " R=" ++ decimal nr
supervisory_text false pf nr = codes "rsp F=" ++ decimal (bit pf) ++ codes " R=" ++ decimal nr

-- the three octets of a FRMR
abbrev pub why_text : List ℕ → List ℕ
why_text why = octet_text (slice_index why 0) ++ octet_text (slice_index why 1) ++ octet_text (slice_index why 2)

-- a frame on one line, by whether the user data of a CALL may be long
abbrev pub frame_text : Bool → PlainFrame → List ℕ
frame_text long_data (info ns nr p octets) = codes "I cmd P=" ++ decimal (bit p) ++ codes " S=" ++ decimal ns
    ++ codes " R=" ++ decimal nr
    ++ codes " | " ++ information_text long_data octets
frame_text long_data (rr command nr pf) = codes "RR " ++ supervisory_text command pf nr
frame_text long_data (rnr command nr pf) = codes "RNR " ++ supervisory_text command pf nr
frame_text long_data (rej command nr pf) = codes "REJ " ++ supervisory_text command pf nr
frame_text long_data (sabm p) = codes "SABM cmd P=" ++ decimal (bit p)
frame_text long_data (disc p) = codes "DISC cmd P=" ++ decimal (bit p)
frame_text long_data (ua f) = codes "UA rsp F=" ++ decimal (bit f)
frame_text long_data (dm f) = codes "DM rsp F=" ++ decimal (bit f)
frame_text long_data (frmr f why) = codes "FRMR rsp F=" ++ decimal (bit f) ++ (codes " why=" ++ why_text why)

abbrev pub fault_text : FrameError → List ℕ
fault_text Short = codes "fault 1 short"
fault_text BadFcs = codes "fault 2 fcs"
fault_text BadAddress = codes "fault 3 address"
fault_text (Undefined control) = codes "fault 4 undefined ctl=" ++ octet_text control
fault_text (NoInfoAllowed control) = codes "fault 5 info ctl=" ++ octet_text control
fault_text TooLong = codes "fault 6 long"

-- what octets read as, on one line
abbrev pub reading_text : Bool → Result PlainFrame FrameError → List ℕ
reading_text long_data (Ok v) = frame_text long_data v
reading_text long_data (Err error) = fault_text error
