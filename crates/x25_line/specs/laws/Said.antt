-- What the rules of a peer look at in a frame: one kind for all frames with an N(R), and one for all of which no rule
-- speaks.
use Rattle.std.specs.Prelude.{ℕ, ◌+◌, List, [], ◌∷◌, Option, Some, None, Result, Ok, Err}
use Rattle.x25_frame.specs.Frame.{PlainFrame, info, rr, rnr, rej, sabm, disc, ua}
use Rattle.x25_frame.specs.declared.error.FrameError.{FrameError}
use Rattle.x25_frame.specs.declared.error.FrameError.TheVariants.{Short, BadFcs, BadAddress}

-- an N(S), and the packet that goes with it
pub record Carried : Type 0 where
  pub ns : ℕ
  pub packet : List ℕ

pub data Said : Type 0 where
  -- I, RR, RNR, REJ: an N(R), and perhaps a packet
  Tells : (carried : Option Carried) → (nr : ℕ) → Said
  Sabm : Said
  Disc : Said
  Ua : Said
  -- DM, FRMR, and octets that are passed over
  Else : Said
  -- a frame that LAPB modulo 8 doesn't have, or one that is too long: it is answered by FRMR
  Odd : Said

abbrev pub said : Result PlainFrame FrameError → Said
said (Ok (info ns nr pf packet)) = Tells (Some (record { ns = ns; packet = packet })) nr
said (Ok (rr command nr pf)) = Tells None nr
said (Ok (rnr command nr pf)) = Tells None nr
said (Ok (rej command nr pf)) = Tells None nr
said (Ok (sabm p)) = Sabm
said (Ok (disc p)) = Disc
said (Ok (ua f)) = Ua
said (Ok frame) = Else
said (Err Short) = Else
said (Err BadFcs) = Else
said (Err BadAddress) = Else
said (Err error) = Odd

-- one of a kind, or none

abbrev pub sabm_of : Said → ℕ
sabm_of Sabm = 1
sabm_of said = 0

abbrev pub ua_of : Said → ℕ
ua_of Ua = 1
ua_of said = 0

abbrev pub disc_of : Said → ℕ
disc_of Disc = 1
disc_of said = 0

-- what the rules look at in a frame on the line, and the session in which it was sent, which no end reads
pub record Letter : Type 0 where
  pub session : ℕ
  pub said : Said

abbrev pub letter : ℕ → Said → Letter
letter session said = record { session = session; said = said }

-- how many of a kind are on a line
abbrev pub how_many : (Said → ℕ) → List Letter → ℕ
how_many kind [] = 0
how_many kind (e ∷ es) = kind e.said + how_many kind es
