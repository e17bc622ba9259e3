-- A frame as a value alone, without where its octets lie. ITU-T X.25 (10/96), section 2.3.4.
use Rattle.std.specs.Prelude.{ℕ, Bool, List}
use Rattle.x25_frame.specs.declared.frame.Frame.{Frame}
use Rattle.x25_frame.specs.declared.frame.Frame.TheVariants as code

-- N(S), N(R), the poll bit and the information of an I frame; of a supervisory frame whether it is a command,
-- N(R) and the poll or final bit; of the others that bit, and of FRMR its information
pub data PlainFrame : Type 0 where
  info : ℕ → ℕ → Bool → List ℕ → PlainFrame
  rr : Bool → ℕ → Bool → PlainFrame
  rnr : Bool → ℕ → Bool → PlainFrame
  rej : Bool → ℕ → Bool → PlainFrame
  sabm : Bool → PlainFrame
  disc : Bool → PlainFrame
  ua : Bool → PlainFrame
  dm : Bool → PlainFrame
  frmr : Bool → List ℕ → PlainFrame

abbrev pub plain : Frame → PlainFrame
plain (code.I ns nr p octets) = info ns.number nr.number p octets.now
plain (code.Rr command nr pf) = rr command nr.number pf
plain (code.Rnr command nr pf) = rnr command nr.number pf
plain (code.Rej command nr pf) = rej command nr.number pf
plain (code.Sabm p) = sabm p
plain (code.Disc p) = disc p
plain (code.Ua f) = ua f
plain (code.Dm f) = dm f
plain (code.Frmr f why) = frmr f why
