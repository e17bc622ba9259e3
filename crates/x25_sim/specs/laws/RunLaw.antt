-- What is written for a script is the transcript of a run of the world, beside what was refused.
use Rattle.std.specs.Prelude.{◌≡◌, ℕ, Bool, true, false, List, [], ◌∷◌, Option, Some, None}
use Rattle.x25_station.specs.declared.config.Cfg.{Cfg}
use Rattle.x25_station.specs.Config.{config_refusal}
use Rattle.x25_script.specs.ScriptLine.{connect, relink, PlainLine, command, heal}
use Rattle.x25_io.specs.Lines.{lines_of}
use Rattle.x25_world.specs.World.{World, OnTap, AtEnd, Event, AreAccepted, run, start, established}
use Rattle.x25_world.specs.Healing.{healing, ArrivesByHealing, RestShowsAll}
use Rattle.x25_world.specs.laws.Claims.{AreInOctets, IsUpOnce, IsUpAtMostOnce, NoneConnects}
use Rattle.x25_world.specs.laws.SessionWindow.{StaysInWindow}
use Rattle.x25_sim.specs.Telling.{Saying, enters, taps, reads_nothing, refuses, marks}
use Rattle.x25_sim.specs.Stage.{most_times, asked_in, line_turn, simulated}
use Rattle.x25_sim.specs.declared.stage.Shown.{Shown}

-- the entries among what is said
abbrev pub entries_in : List Saying → List AtEnd
entries_in [] = []
entries_in (enters e ∷ sayings) = e ∷ entries_in sayings
entries_in (taps frame ∷ sayings) = entries_in sayings
entries_in (reads_nothing ∷ sayings) = entries_in sayings
entries_in (refuses error ∷ sayings) = entries_in sayings
entries_in (marks event ∷ sayings) = entries_in sayings

-- the frames among it
abbrev pub frames_in : List Saying → List OnTap
frames_in [] = []
frames_in (enters e ∷ sayings) = frames_in sayings
frames_in (taps frame ∷ sayings) = frame ∷ frames_in sayings
frames_in (reads_nothing ∷ sayings) = frames_in sayings
frames_in (refuses error ∷ sayings) = frames_in sayings
frames_in (marks event ∷ sayings) = frames_in sayings

-- the world from which a script begins: both links are down, or just set up
abbrev pub begins : Cfg → Bool → World
begins cfg true = start
begins cfg false = established cfg

-- not a line by which a user asks that the link be set up
abbrev pub IsNoConnectLine : Option PlainLine → Type 0
IsNoConnectLine (Some (command end connect)) = ⊥
IsNoConnectLine (Some (command end relink)) = ⊥
IsNoConnectLine asked = Unit {0}

-- no such line is among these
abbrev pub NoneAsks : List (List ℕ) → Type 0
NoneAsks [] = Unit {0}
NoneAsks (line ∷ lines) = IsNoConnectLine (asked_in line) × NoneAsks lines

-- these events, each accepted, whose users hand down octets, lead there from where the script begins; and said are the
-- transcript and, where it is asked for, the tap of that run; no event connects where no line asks for it
pub record IsRun (cfg : Cfg) (down : Bool) (shown : Shown) (script : List ℕ) : Type 0 where
  pub events : List Event
  pub accepted : AreAccepted cfg events (begins cfg down)
  pub octets : AreInOctets events
  pub next : (simulated cfg down shown script).next ≡ run cfg events (begins cfg down)
  pub entries : entries_in (simulated cfg down shown script).sayings ≡ (run cfg events (begins cfg down)).transcript
  pub frames : shown.tap ≡ true
      → frames_in (simulated cfg down shown script).sayings ≡ (run cfg events (begins cfg down)).tap
  pub unconnected : NoneAsks (lines_of script) → NoneConnects cfg events (begins cfg down)

abbrev pub ScriptsAreRuns : Type 0
ScriptsAreRuns = (cfg : Cfg) (down : Bool) (shown : Shown) (script : List ℕ) → IsRun cfg down shown script

-- what holds of each world to which a script leads, up to the moment at which an end goes up a second time
abbrev pub OfScripts : (Cfg → World → Type 0) → Type 0
OfScripts Holds = (cfg : Cfg) → config_refusal cfg ≡ None → (down : Bool) (shown : Shown) (script : List ℕ)
    → IsUpAtMostOnce cfg (simulated cfg down shown script).next
    → Holds cfg (simulated cfg down shown script).next

-- the same from a link just set up, which isn't set up anew
abbrev pub OfScriptsSetUp : (Cfg → World → Type 0) → Type 0
OfScriptsSetUp Holds = (cfg : Cfg) → config_refusal cfg ≡ None → (shown : Shown) (script : List ℕ)
    → IsUpOnce cfg (simulated cfg false shown script).next
    → Holds cfg (simulated cfg false shown script).next

-- some events from there lead to this world, along which the links stay in their window
abbrev pub IsInWindow : Cfg → World → Type 0
IsInWindow cfg w = (events : List Event) × (run cfg events (established cfg) ≡ w) × StaysInWindow cfg events w

-- by a script in which no line asks for it the link isn't set up anew
abbrev pub UpOnceUnlessAsked : Type 0
UpOnceUnlessAsked = (cfg : Cfg) → config_refusal cfg ≡ None → (shown : Shown) (script : List ℕ)
    → NoneAsks (lines_of script) → IsUpOnce cfg (simulated cfg false shown script).next

-- the entries among what is said are the transcript of that world
abbrev pub ScriptsAreTold : Type 0
ScriptsAreTold = (cfg : Cfg) (down : Bool) (shown : Shown) (script : List ℕ)
    → entries_in (simulated cfg down shown script).sayings ≡ (simulated cfg down shown script).next.transcript

-- and the frames, where they are asked for, its tap
abbrev pub ScriptsAreTapped : Type 0
ScriptsAreTapped = (cfg : Cfg) (down : Bool) (shown : Shown) (script : List ℕ) → shown.tap ≡ true
    → frames_in (simulated cfg down shown script).sayings ≡ (simulated cfg down shown script).next.tap

-- what holds of each world to which a script leads, over set-up and re-set-up at any moment
abbrev pub OfAllScripts : (Cfg → World → Type 0) → Type 0
OfAllScripts Holds = (cfg : Cfg) → config_refusal cfg ≡ None → (down : Bool) (shown : Shown) (script : List ℕ)
    → Holds cfg (simulated cfg down shown script).next

-- a line `heal` leads to where the schedule of healing leads
abbrev pub HealIsTheSchedule : Type 0
HealIsTheSchedule = (cfg : Cfg) (shown : Shown) (w : World)
    → (line_turn cfg shown heal w).next ≡ run cfg (healing cfg most_times w) w

-- rest behind it shows what it does behind that schedule
abbrev pub HealRestShowsAll : Cfg → World → Type 0
HealRestShowsAll cfg w = (shown : Shown) → RestShowsAll cfg (line_turn cfg shown heal w).next

-- it brings about what that schedule does
abbrev pub HealBringsAll : Cfg → World → Type 0
HealBringsAll cfg w = (shown : Shown) → ArrivesByHealing cfg most_times w (line_turn cfg shown heal w).next
