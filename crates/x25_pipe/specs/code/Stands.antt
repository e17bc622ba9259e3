-- What is held in the midst of an input: a station of which all was told, and what was told.
use Rattle.std.specs.Prelude.{◌≡◌, ℕ, Bool, ◌||◌, List, ◌++◌, map, Option, Result, Ok, Err, MatchResult}
use Rattle.x25_clock.specs.Clock.{is_heard}
use Rattle.x25_io.specs.code.Written.{AppendsPrefix, Tells}
use Rattle.x25_io.specs.declared.fault.Fault.{Fault}
use Rattle.x25_station.specs.declared.error.StationError.{StationError}
use Rattle.x25_station.specs.declared.station.Station as code
use Rattle.x25_station.specs.declared.step.Step as code_step
use Rattle.x25_station.specs.code.FitsStation as fits
use Rattle.x25_station.specs.Config.{Settings}
use Rattle.x25_station.specs.Station.{Station}
use Rattle.x25_station.specs.Step.{Outcome}
use Rattle.x25_pipe.specs.Pipe.{Saying, enters, sends, Act, Turn, sayings_text, has_refusal}
use Rattle.x25_pipe.specs.declared.pipe.Pipe.{Pipe}

-- The writer held `old` at first and holds `now`.
pub record Stands (c : Settings) (old now : Option (List ℕ)) (p : Pipe) (s : Station) (told : List ℕ)
    (refused : Bool) : Type 0 where
  pub fits : fits.FitsStation c p.station s
  pub role : p.end ≡ c.role
  pub tells : Tells old now p.output told
  pub status : p.is_refused ≡ refused

-- of a turn: it is told, or at a fault a beginning is written
abbrev pub Stood : Settings → Option (List ℕ) → Option (List ℕ) → Pipe → List ℕ → Bool → Result Unit Fault → Turn
    → Type 0
Stood c old now p told refused result t =
    MatchResult result (λ _. Stands c old now p t.next (told ++ sayings_text c.role t.sayings) (refused
    || has_refusal t.sayings))
    (λ _. AppendsPrefix old now (told ++ sayings_text c.role t.sayings))

-- from each station that it stands for, the turn is made
abbrev pub Turns : Settings → Option (List ℕ) → Option (List ℕ) → Option (List ℕ) → Pipe → Pipe → Result Unit Fault
    → (Station → Turn) → Type 0
Turns c old now next p q result turn = (s : Station) (told : List ℕ) (refused : Bool)
    → Stands c old now p s told refused
    → Stood c old next q told refused result (turn s)

-- ---- what comes of a line, but for its mark

-- it is told, and the step has what it answered
pub record IsActed (c : Settings) (old now : Option (List ℕ)) (p : Pipe) (told : List ℕ) (refused : Bool)
    (a : Act) : Type 0 where
  pub stands : Stands c old now p a.next (told ++ sayings_text c.role a.sayings) (refused || has_refusal a.sayings)
  pub timer : p.step.timer ≡ a.timer
  pub entries : p.step.entries.items ≡ a.entries
  pub is_heard : is_heard p.has_come p.step.frames p.step.entries.items ≡ a.is_heard

abbrev pub Acted : Settings → Option (List ℕ) → Option (List ℕ) → Pipe → List ℕ → Bool → Result Unit Fault → Act
    → Type 0
Acted c old now p told refused result a = MatchResult result (λ _. IsActed c old now p told refused a)
    (λ _. AppendsPrefix old now (told ++ sayings_text c.role a.sayings))

abbrev pub Acts : Settings → Option (List ℕ) → Option (List ℕ) → Option (List ℕ) → Pipe → Pipe → Result Unit Fault
    → (Station → Act) → Type 0
Acts c old now next p q result act = (s : Station) (told : List ℕ) (refused : Bool) → Stands c old now p s told refused
    → Acted c old next q told refused result (act s)

-- ---- what a call of the station answered

-- a step, which is the one that the definition says
pub record IsStep (c : Settings) (v : code.Station) (step : code_step.Step) (o : Outcome) : Type 0 where
  pub leaves : fits.Leaves {T = Unit} c v (Ok tt) o
  pub sends : fits.Sends {T = Unit} c step (Ok tt) o
  pub enters : fits.Enters {T = Unit} step (Ok tt) o
  pub accepted : fits.Refuses {T = Unit} (Ok tt) o

-- an error, which is the one that the definition says, or want of memory
abbrev pub IsError : StationError → Outcome → Type 0
IsError error o = fits.Refuses {T = Unit} (Err error) o

-- what is said of a step that was answered
abbrev pub answer_told : code_step.Step → List Saying
answer_told step = map enters step.entries.items ++ map sends step.frames
