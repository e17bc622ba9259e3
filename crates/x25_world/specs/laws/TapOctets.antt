-- What is put on the line, as octets.
use Rattle.std.specs.Prelude.{ℕ, ◌≤◌, List, length}
use Rattle.x25_station.specs.{declared.config.Cfg.{Cfg}, laws.ReadLaw.{AreOctets}}
use Rattle.x25_world.specs.World.{OnTap, World}
use Rattle.x25_line.specs.laws.SessionClaims.{Each}

-- the longest I frame: N1, address, control, and the frame check sequence (profile)
abbrev pub longest_frame : ℕ
longest_frame = 4103

pub record AreOfFrame (octets : List ℕ) : Type 0 where
  pub each : AreOctets octets
  pub short : length octets ≤ longest_frame

abbrev pub AreOfFrames : List OnTap → Type 0
AreOfFrames tap = Each (λ (t : OnTap). AreOfFrame t.octets) tap

-- all that was ever put on the line is octets, at most as many as the longest frame has
abbrev pub IsTapOfOctets : Cfg → World → Type 0
IsTapOfOctets cfg w = AreOfFrames w.tap
