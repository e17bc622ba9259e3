-- What stands in the midst of a script.
use Rattle.std.specs.Prelude.{◌≡◌, ℕ, Bool, false, List, [], ◌++◌, Option}
use Rattle.std.specs.Io.KnownBytes.{Appends}
use Rattle.x25_io.specs.Loose.{asked_lines, asked_text}
use Rattle.x25_io.specs.code.LinesLead.{LinesEnded}
use Rattle.x25_io.specs.code.Runs.{Program}
use Rattle.x25_station.specs.declared.config.Cfg.{Cfg}
use Rattle.x25_world.specs.World.{World}
use Rattle.x25_sim.specs.Telling.{sayings_text}
use Rattle.x25_sim.specs.Stage.{Turn, sim_status, sim_text, simulated, turns}
use Rattle.x25_sim.specs.code.Leaves.{Leaves}
use Rattle.x25_sim.specs.declared.stage.Shown.{Shown}
use Rattle.x25_sim.specs.declared.stage.Stage.{Stage}

-- how a simulation is asked for
pub record Asked : Type 0 where
  pub cfg : Cfg
  pub down : Bool
  pub shown : Shown

-- With `lines` to come the turns of the script are made in the end.
abbrev pub Simulates : Asked → Stage → Option (List ℕ) → Option (List ℕ) → List (List ℕ) → List ℕ → Type 0
Simulates a s old now lines script = Leaves a.cfg a.shown old now s (turns a.cfg a.shown lines) [] false
    (simulated a.cfg a.down a.shown script)

-- Written is all of the text but what is said of the lines to come.
pub record WritesLines (cfg : Cfg) (shown : Shown) (old now : Option (List ℕ)) (lines : List (List ℕ))
    (whole : Turn) : Type 0 where
  pub at : World
  pub part : List ℕ
  pub appends : Appends old now part
  pub same : part ++ sayings_text (turns cfg shown lines at).sayings ≡ sayings_text whole.sayings

-- with `loose` of what the lines of the script ask
abbrev pub program : Cfg → Bool → Shown → Bool → Program
program cfg down shown loose = record {
  text = λ script. sim_text cfg down shown (asked_text loose script);
  status = λ script. sim_status cfg down shown (asked_text loose script);
  Ended = λ old now rest script. LinesEnded (λ lines. WritesLines cfg shown old now (asked_lines loose lines)
      (simulated cfg down shown (asked_text loose script))) rest;
}
