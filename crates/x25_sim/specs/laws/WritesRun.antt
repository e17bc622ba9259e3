-- What was written is the transcript of a run of two stations, and what holds of it.
use Rattle.std.specs.Prelude.{◌≡◌, ℕ, Bool, true, false, List, Option}
use Rattle.std.specs.Io.KnownBytes.{Appends}
use Rattle.x25_station.specs.declared.config.Cfg.{Cfg}
use Rattle.x25_world.specs.World.{World}
use Rattle.x25_world.specs.laws.Claims.{ArrivesAll, HasNoProcedureError, IsLawful, IsNamed, IsUpOnce, IsUpAtMostOnce}
use Rattle.x25_world.specs.laws.ConfirmedClaims.{ConfirmedAreHandedUp}
use Rattle.x25_world.specs.laws.SessionClaims.{SessionsKeepOrder}
use Rattle.x25_sim.specs.Telling.{Saying, sayings_text}
use Rattle.x25_sim.specs.Stage.{simulated}
use Rattle.x25_sim.specs.declared.stage.Shown.{Shown}
use Rattle.x25_sim.specs.laws.RunLaw.{entries_in, frames_in, IsInWindow}

-- What was written behind `old` is the text of sayings. The entries among these are the transcript of the two stations
-- to which the script leads, and the frames, where they are asked for, their tap. Of these stations this holds.
pub record Writes (Holds : Cfg → World → Type 0) (cfg : Cfg) (down : Bool) (shown : Shown) (script : List ℕ)
    (old now : Option (List ℕ)) : Type 0 where
  pub sayings : List Saying
  pub text : Appends old now (sayings_text sayings)
  pub entries : entries_in sayings ≡ (simulated cfg down shown script).next.transcript
  pub frames : shown.tap ≡ true → frames_in sayings ≡ (simulated cfg down shown script).next.tap
  pub holds : Holds cfg (simulated cfg down shown script).next

-- the same, as long as neither end goes up a second time
abbrev pub WritesOnce : (Cfg → World → Type 0) → Cfg → Bool → Shown → List ℕ → Option (List ℕ) → Option (List ℕ)
    → Type 0
WritesOnce Holds cfg down shown script old now = IsUpAtMostOnce cfg (simulated cfg down shown script).next
    → Writes Holds cfg down shown script old now

-- the same of a script that begins with the link set up, which isn't set up anew
abbrev pub WritesSetUp : (Cfg → World → Type 0) → Cfg → Bool → Shown → List ℕ → Option (List ℕ) → Option (List ℕ)
    → Type 0
WritesSetUp Holds cfg down shown script old now = down ≡ false → IsUpOnce cfg (simulated cfg down shown script).next
    → Writes Holds cfg down shown script old now

-- What was written is the transcript of a run of two stations of which all claims hold.
pub record WritesRun (cfg : Cfg) (down : Bool) (shown : Shown) (script : List ℕ)
    (old now : Option (List ℕ)) : Type 0 where
  -- as long as neither end goes up a second time
  pub lawful : WritesOnce IsLawful cfg down shown script old now
  pub named : WritesOnce IsNamed cfg down shown script old now
  pub arrives : WritesOnce ArrivesAll cfg down shown script old now
  pub quiet : WritesOnce HasNoProcedureError cfg down shown script old now
  -- of a script that begins with the link set up
  pub window : WritesSetUp IsInWindow cfg down shown script old now
  -- of every script
  pub sessions : Writes SessionsKeepOrder cfg down shown script old now
  pub confirmed : Writes ConfirmedAreHandedUp cfg down shown script old now
