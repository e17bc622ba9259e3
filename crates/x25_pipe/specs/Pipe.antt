-- What one station behind a pipe does with what it reads (profile): each line is an event of this end, behind which it
-- pulls what waits, and it is answered by what both tell, entries and then frames, or by a refusal, and then by one
-- mark.
use Rattle.std.specs.Prelude.{ℕ, nat_le, Bool, true, false, List, [], ◌∷◌, ◌++◌, length, map, if◌then◌else◌, Option}
use Rattle.std.specs.Prelude.{Some, None, option_and_then, codes}
use Rattle.std.specs.List.{flat_map, list_any}
use Rattle.x25_bits.specs.Role.{other}
use Rattle.x25_bits.specs.declared.role.Role.{Role}
use Rattle.x25_bits.specs.declared.role.Role.TheVariants.{Dte, Dce}
use Rattle.x25_frame.specs.Spelling.{spelling_of}
use Rattle.x25_transcript.specs.EntryText.{entry_line}
use Rattle.x25_script.specs.ScriptLine.{PlainLine, command, t1, deliver, lose, damage, drain, heal, taken}
use Rattle.x25_script.specs.Reading.{line_in}
use Rattle.x25_decode.specs.Decoding.{sent_in}
use Rattle.x25_io.specs.Lines.{lines_of}
use Rattle.x25_console.specs.Commands.{command_asked}
use Rattle.x25_io.specs.HeldLine.{most_line}
use Rattle.x25_console.specs.Telling.{frame_line, refusal_line, nothing_line}
use Rattle.x25_station.specs.declared.config.Cfg.{Cfg}
use Rattle.x25_station.specs.declared.error.StationError.{StationError}
use Rattle.x25_station.specs.Error.{number_of}
use Rattle.x25_station.specs.Config.{Settings, settings_from}
use Rattle.x25_clock.specs.laws.ClockLaw.{hears}
use Rattle.x25_station.specs.Command.{Requests}
use Rattle.x25_layer.specs.Calls.{PullsAll}
use Rattle.x25_station.specs.Entry.{StationEntry}
use Rattle.x25_station.specs.Station.{Station, new_station}
use Rattle.x25_station.specs.Step.{Step, Outcome, Did, Refused, commands}
use Rattle.x25_station.specs.Station.Told.{awaits_answers, is_idle}
use Rattle.x25_station.specs.laws.TimerLaw as timer
use Rattle.x25_station.specs.laws.TimerLaw.{StationEvent, Comes, Asks, Fires}
use Rattle.x25_station.specs.Timer.{standing, timer_pulled}
use Rattle.x25_station.specs.declared.timer.Timer.{Timer}
use Rattle.x25_station.specs.declared.timer.Timer.TheVariants.{Off, Begins, GoesOn}

-- ---- what a line asks for: this end's commands and T1, and frames of the other end

abbrev pub is_same : Role → Role → Bool
is_same Dte Dte = true
is_same Dte Dce = false
is_same Dce Dte = false
is_same Dce Dce = true

abbrev pub only_of : Role → Role → StationEvent → Option StationEvent
only_of end found event = if is_same end found then Some event else None

-- the events of a station alone; a line has nothing on it to deliver, lose or damage, and the other end isn't here to
-- heal
abbrev pub script_event : Role → PlainLine → Option StationEvent
script_event end (command at asked) = only_of end at (Asks (command_asked asked))
script_event end (t1 at) = only_of end at Fires
script_event end (deliver from) = None
script_event end (lose from place) = None
script_event end (damage from place octets) = None
script_event end (drain count) = None
script_event end heal = None

abbrev pub trace_event : Role → Role × List ℕ → Option StationEvent
trace_event end sent = only_of (other end) sent.0 (Comes sent.1)

-- what is sent in a line of a trace is read so, and any other line as one of a script
abbrev pub read_event : Bool → Role → List ℕ → Option (Role × List ℕ) → Option StationEvent
read_event wide end line None = option_and_then (script_event end) (taken wide (line_in line))
read_event wide end line (Some sent) = trace_event end sent

-- a longer line isn't in the grammar
unfoldable pub event_in : Bool → Role → List ℕ → Option StationEvent
event_in wide end line = if nat_le (length line) most_line then read_event wide end line (sent_in line) else None

-- ---- what waits in the circuits

-- a step, and what is pulled behind it; where that is refused, as while the link isn't up, the step alone
abbrev pub pulled_behind : Step → Outcome → Step
pulled_behind step (Did pulls) = record {
  near = pulls.near;
  out = step.out ++ pulls.out;
  entries = step.entries
      ++ pulls.entries;
}
pulled_behind step (Refused e) = step

-- Behind each step the data packets that wait are pulled, so that none is left to wait where fewer than 8 packets wait
-- in the link; where more do, and behind a command that pulled them itself, none is pulled.
abbrev pub and_pulls : Settings → Step → Step
and_pulls c step = pulled_behind step (commands c step.near (Requests PullsAll))

abbrev pub with_pulls : Settings → Outcome → Outcome
with_pulls c (Did step) = Did (and_pulls c step)
with_pulls c (Refused e) = Refused e

-- ---- what is said of it

pub data Saying : Type 0 where
  enters : (entry : StationEntry) → Saying
  sends : (octets : List ℕ) → Saying
  reads_nothing : Saying
  refuses : (error : StationError) → Saying
  marks : (timer : Timer) → (is_idle : Bool) → (is_due : Bool) → Saying

abbrev pub mark_text : Timer → List ℕ
mark_text Off = codes "off"
mark_text GoesOn = codes "on"
mark_text Begins = codes "start"

-- whether the station is idle, and whether an answer of the other end is due
abbrev pub work_text : Bool → Bool → List ℕ
work_text true false = codes "idle"
work_text true true = codes "due"
work_text false due = codes "busy"

-- a frame is marked by this end, so that the other end takes the line as it is
unfoldable pub saying_line : Role → Saying → List ℕ
saying_line end (enters e) = entry_line end e
saying_line end (sends octets) = frame_line end octets
saying_line end reads_nothing = nothing_line
saying_line end (refuses error) = refusal_line (number_of error)
saying_line end (marks timer is_idle is_due) =
    codes ". " ++ mark_text timer ++ codes " " ++ work_text is_idle is_due ++ codes "\n"

abbrev pub sayings_text : Role → List Saying → List ℕ
sayings_text end sayings = flat_map (saying_line end) sayings

abbrev pub is_refusal : Saying → Bool
is_refusal (enters e) = false
is_refusal (sends octets) = false
is_refusal reads_nothing = true
is_refusal (refuses error) = true
is_refusal (marks timer is_idle is_due) = false

abbrev pub has_refusal : List Saying → Bool
has_refusal sayings = list_any is_refusal sayings

-- ---- turns

-- the station after a line, and what is said, the mark last
pub record Turn : Type 0 where
  pub next : Station
  pub sayings : List Saying

abbrev pub quiet : Station → Turn
quiet s = record { next = s; sayings = [] }

abbrev pub said : Station → List Saying → Turn
said s sayings = record { next = s; sayings = sayings }

-- a turn, and then what is done from where it led
abbrev pub and_then : (Station → Turn) → Turn → Turn
and_then rest t = record { next = (rest t.next).next; sayings = t.sayings ++ (rest t.next).sayings }

-- one mark, and whether the station has work
abbrev pub mark_turn : Settings → Timer → Station → Turn
mark_turn c timer s = said s (marks timer (is_idle c s) (awaits_answers c s) ∷ [])

abbrev pub marked : Settings → Timer → Station → List Saying → Turn
marked c timer s sayings = and_then (mark_turn c timer) (said s sayings)

-- behind no event T1 is as it was
abbrev pub standing_turn : Settings → Station → Turn
standing_turn c s = mark_turn c (standing s) s

abbrev pub step_told : Settings → Step → List Saying
step_told c step = map enters step.entries ++ map sends (map (spelling_of c.role) step.out)

abbrev pub outcome_told : Settings → Outcome → List Saying
outcome_told c (Did step) = step_told c step
outcome_told c (Refused error) = refuses error ∷ []

abbrev pub turn_of : Settings → Timer → Station → Outcome → Turn
turn_of c t s o = marked c t (timer.after s o) (outcome_told c o)

-- what T1 becomes at an event and the pulls behind it
abbrev pub timer_with_pulls : Settings → Station → StationEvent → Outcome → Timer
timer_with_pulls c s event (Did step) = timer_pulled (timer.timer s event (Did step)) step.near (and_pulls c step).near
timer_with_pulls c s event (Refused e) = standing s

abbrev pub pulling_turn : Settings → Station → StationEvent → Outcome → Turn
pulling_turn c s event o = turn_of c (timer_with_pulls c s event o) s (with_pulls c o)

unfoldable pub event_turn : Settings → Station → StationEvent → Turn
event_turn c s event = pulling_turn c s event (timer.outcome c s event)

-- ---- what comes of a line, but for its mark

-- the station behind it and what is said; what T1 became, what entries were told, and whether something was heard
pub record Act : Type 0 where
  pub next : Station
  pub sayings : List Saying
  pub timer : Timer
  pub entries : List StationEntry
  pub is_heard : Bool

abbrev pub entries_told : Outcome → List StationEntry
entries_told (Did step) = step.entries
entries_told (Refused e) = []

abbrev pub act_of : Settings → Station → StationEvent → Outcome → Act
act_of c s event o = record {
  next = timer.after s (with_pulls c o);
  sayings = outcome_told c (with_pulls c o);
  timer = timer_with_pulls c s event o;
  entries = entries_told (with_pulls c o);
  is_heard = hears event (with_pulls c o);
}

unfoldable pub event_act : Settings → Station → StationEvent → Act
event_act c s event = act_of c s event (timer.outcome c s event)

abbrev pub nothing_act : Station → Act
nothing_act s = record {
  next = s;
  sayings = reads_nothing ∷ [];
  timer = standing s;
  entries = [];
  is_heard = false;
}

abbrev pub asked_act : Settings → Station → Option StationEvent → Act
asked_act c s None = nothing_act s
asked_act c s (Some event) = event_act c s event

-- ---- with its mark

abbrev pub asked_turn : Settings → Station → Option StationEvent → Turn
asked_turn c s None = marked c (standing s) s (reads_nothing ∷ [])
asked_turn c s (Some event) = event_turn c s event

unfoldable pub turn : Settings → List ℕ → Station → Turn
turn c line s = asked_turn c s (event_in c.wide c.role line)

-- one line after another
unfoldable pub turns : Settings → List (List ℕ) → Station → Turn
turns c [] s = quiet s
turns c (line ∷ lines) s = and_then (turns c lines) (turn c line s)

-- ---- the whole: the first mark comes before anything is read

unfoldable pub piped : Settings → List ℕ → Turn
piped c input = and_then (turns c (lines_of input)) (standing_turn c new_station)

abbrev pub text_of : Settings → List ℕ → List ℕ
text_of c input = sayings_text c.role (piped c input).sayings

abbrev pub status_of : Settings → List ℕ → ℕ
status_of c input = if has_refusal (piped c input).sayings then 1 else 0

-- what is written for an input
abbrev pub station_text : Role → Cfg → List ℕ → List ℕ
station_text end cfg input = text_of (settings_from end cfg) input

-- a line or an event was refused
abbrev pub station_status : Role → Cfg → List ℕ → ℕ
station_status end cfg input = status_of (settings_from end cfg) input
