-- Which states of the definition a station stands for, and what its calls answer.
use Rattle.std.specs.Prelude.{◌≡◌, ℕ, ◌≤◌, [], length, map, Option, Some, None, Result, Ok, Err}
use Rattle.std.specs.Prelude.{OnOk}
use Rattle.std.specs.Prelude.{OnErr, IfErr, IsErrAnd, IsOk}
use Rattle.x25_frame.specs.Spelling.{spelling_of}
use Rattle.x25_link.specs.code.FitsLink.{ShownLink}
use Rattle.x25_layer.specs.declared.layer.Layer as layer_code
use Rattle.x25_station.specs.declared.config.Manner.{Manner}
use Rattle.x25_station.specs.declared.station.Station as code
use Rattle.x25_station.specs.declared.step.Step as code_step
use Rattle.x25_station.specs.declared.error.StationError.{StationError}
use Rattle.x25_station.specs.declared.error.StationError.TheVariants as error
use Rattle.x25_station.specs.Config.{Settings}
use Rattle.x25_station.specs.Station.{Station}
use Rattle.x25_station.specs.Step.{Outcome, Did, Refused}
use Rattle.x25_station.specs.code.FitsParts.{FitsParts}

abbrev pub FitsStation : Settings → code.Station → Station → Type 0
FitsStation c v s = FitsParts c v.manner v.link v.layer v.turn s

-- it stands for what it stood for
abbrev pub FitsStill : code.Station → code.Station → Type 0
FitsStill old new = (c : Settings) (s : Station) → FitsStation c old s → FitsStation c new s

-- ---- what a call leaves and answers, by what the definition says of it

-- an accepted call leaves the station of the step
abbrev pub LeavesParts : {T : Type 0} → Settings → Manner → ShownLink → layer_code.Layer → ℕ → Result T StationError
    → Outcome → Type 0
LeavesParts c manner l y turn result (Did step) = OnOk result (FitsParts c manner l y turn step.near)
LeavesParts c manner l y turn result (Refused e) = Unit {0}

abbrev pub Leaves : {T : Type 0} → Settings → code.Station → Result T StationError → Outcome → Type 0
Leaves c v result outcome = LeavesParts c v.manner v.link v.layer v.turn result outcome

-- the frames are those of the step, as the octets that spell them
abbrev pub Sends : {T : Type 0} → Settings → code_step.Step → Result T StationError → Outcome → Type 0
Sends c out result (Did step) = OnOk result (out.frames ≡ map (spelling_of c.role) step.out)
Sends c out result (Refused e) = Unit {0}

-- the entries are those of the step
abbrev pub Enters : {T : Type 0} → code_step.Step → Result T StationError → Outcome → Type 0
Enters out result (Did step) = OnOk result (out.entries.items ≡ step.entries)
Enters out result (Refused e) = Unit {0}

-- a call is refused for want of memory alone
abbrev pub RefusesForMemory : {T : Type 0} → Result T StationError → Type 0
RefusesForMemory result = IfErr result (λ e. e ≡ error.NoMemory)

-- a call is refused where the definition refuses it, with its error, and else for want of memory alone
abbrev pub Refuses : {T : Type 0} → Result T StationError → Outcome → Type 0
Refuses result (Did step) = RefusesForMemory result
Refuses result (Refused e) = IsErrAnd result (λ found. found ≡ e)

-- it is refused there, and never else
abbrev pub RefusesOnly : {T : Type 0} → Result T StationError → Outcome → Type 0
RefusesOnly result (Did step) = IsOk result
RefusesOnly result (Refused e) = result ≡ Err e

-- nothing is in it
pub record IsEmpty (out : code_step.Step) : Type 0 where
  pub frames : out.frames ≡ []
  pub entries : out.entries.items ≡ []

-- A call does what the definition says of it: of each state that the station stood for it leaves that step's, and
-- answers its frames and entries; or it is refused, the station is as before, and nothing is answered. It answers at
-- most so many frames and entries, whatever they are.
pub record Does (old new : code.Station) (out : code_step.Step) (result : Result Unit StationError)
    (said : Settings → Station → Outcome) : Type 0 where
  pub state : (c : Settings) (s : Station) → FitsStation c old s → Leaves c new result (said c s)
  pub frames : (c : Settings) (s : Station) → FitsStation c old s → Sends c out result (said c s)
  pub entries : (c : Settings) (s : Station) → FitsStation c old s → Enters out result (said c s)
  pub refused : (c : Settings) (s : Station) → FitsStation c old s → Refuses result (said c s)
  pub stays : (c : Settings) (s : Station) → FitsStation c old s → OnErr result (FitsStation c new s)
  pub empty : OnErr result (IsEmpty out)
  pub few_frames : length out.frames ≤ 9
  pub few_entries : length out.entries.items ≤ 3

-- a call that makes a station is refused with this, or else with 70 alone
abbrev pub RefusesWith : {T : Type 0} → Result T StationError → Option StationError → Type 0
RefusesWith result None = RefusesForMemory result
RefusesWith result (Some e) = result ≡ Err e
