-- What was written, by the text of a script and the laws of all scripts.
use Rattle.std.specs.Io.KnownBytes.{Appends}
use Rattle.x25_io.specs.code.Runs.{OfInput}
use Rattle.x25_sim.{proofs.Names.{◌≡◌, ℕ, Bool, true, false, List, Option, Some, None, Cfg, World, simulated, Shown}, specs.Stage.{sim_text}}
use Rattle.x25_sim.specs.laws.RunLaw.{IsInWindow, OfScripts, OfScriptsSetUp, OfAllScripts, ScriptsAreTold, ScriptsAreTapped}
use Rattle.x25_sim.specs.laws.WritesRun.{Writes, WritesRun, WritesSetUp}
use Rattle.x25_station.specs.Config.{config_refusal}
use Rattle.x25_world.specs.laws.{Claims.{ArrivesAll, HasNoProcedureError, IsLawful, IsNamed}, ConfirmedClaims.{ConfirmedAreHandedUp}, SessionClaims.{SessionsKeepOrder}, SessionWindow.{UpIsInWindow}}
use Rattle.x25_world.specs.laws.SessionClaims.{MeetInStep, AreLawfulWhereMet, AreNamedInSessions, AllArrive, UnmetAreToldNothing, OpenStretchesMeet}

writes : (Holds : Cfg → World → Type 0) (cfg : Cfg) (down : Bool) (shown : Shown) (script : List ℕ) (old now : Option (List ℕ)) → ScriptsAreTold
    → ScriptsAreTapped → Appends old now (sim_text cfg down shown script)
    → Holds cfg (simulated cfg down shown script).next → Writes Holds cfg down shown script old now
writes Holds cfg down shown script old now told taps text holds = record {
  sayings = (simulated cfg down shown script).sayings;
  text = text;
  entries = told cfg down shown script;
  frames = taps cfg down shown script;
  holds = holds;
}

module _ (cfg : Cfg) (fine : config_refusal cfg ≡ None) (shown : Shown) (old now : Option (List ℕ)) (told : ScriptsAreTold) (taps : ScriptsAreTapped) where
  set_up : (Holds : Cfg → World → Type 0) → OfScriptsSetUp Holds → (down : Bool) (script : List ℕ) → Appends old now (sim_text cfg down shown script)
      → WritesSetUp Holds cfg down shown script old now
  set_up Holds law true script text up first = absurd (cc)
  set_up Holds law false script text up first = writes Holds cfg false shown script old now told taps text (law cfg fine shown script first)

  pub run_written : (down : Bool) → OfScripts IsLawful → OfScripts IsNamed → OfScripts ArrivesAll → OfScriptsSetUp IsInWindow → OfAllScripts SessionsKeepOrder
      → OfAllScripts ConfirmedAreHandedUp
      → (read : List ℕ → List ℕ) (input : Option (List ℕ)) → OfInput input (λ script. Appends old now (sim_text cfg down shown (read script)))
      → OfInput input (λ script. WritesRun cfg down shown (read script) old now)
  run_written down lawful named arrives window sessions confirmed read None text = tt
  run_written down lawful named arrives window sessions confirmed read (Some script) text = λ few. record {
    lawful = λ once. writes IsLawful cfg down shown (read script) old now told taps (text few) (lawful cfg fine down shown (read script) once);
    named = λ once. writes IsNamed cfg down shown (read script) old now told taps (text few) (named cfg fine down shown (read script) once);
    arrives = λ once. writes ArrivesAll cfg down shown (read script) old now told taps (text few) (arrives cfg fine down shown (read script) once);
    quiet = λ once. writes HasNoProcedureError cfg down shown (read script) old now told taps (text few) (sessions cfg fine down shown (read script)).quiet;
    window = set_up IsInWindow window down (read script) (text few);
    sessions = writes SessionsKeepOrder cfg down shown (read script) old now told taps (text few) (sessions cfg fine down shown (read script));
    confirmed = writes ConfirmedAreHandedUp cfg down shown (read script) old now told taps (text few) (confirmed cfg fine down shown (read script));
  }

pub all_of_scripts : OfAllScripts MeetInStep → OfAllScripts AreLawfulWhereMet → OfAllScripts AreNamedInSessions → OfAllScripts AllArrive
    → OfAllScripts UnmetAreToldNothing → OfAllScripts OpenStretchesMeet
    → OfAllScripts HasNoProcedureError → OfAllScripts UpIsInWindow → OfAllScripts SessionsKeepOrder
all_of_scripts step lawful named arrives unmet stand quiet window cfg fine down shown script = record {
  step = step cfg fine down shown script;
  lawful = lawful cfg fine down shown script;
  named = named cfg fine down shown script;
  arrives = arrives cfg fine down shown script;
  unmet = unmet cfg fine down shown script;
  stand = stand cfg fine down shown script;
  quiet = quiet cfg fine down shown script;
  window = window cfg fine down shown script;
}
