-- What a station behind a pipe plays that has a clock, one after another (profile): what lines ask for, what is due and
-- is asked, and its marks. What it says of each; and the lines that a user of a station without a clock writes for it.
use Rattle.std.specs.Prelude.{◌≡◌, ℕ, zero, suc, nat_lt, Bool, true, List, [], ◌∷◌, ◌++◌, map, if◌then◌else◌, Option}
use Rattle.std.specs.Prelude.{Some, None, codes, decimal}
use Rattle.std.specs.List.{flat_map}
use Rattle.x25_bits.specs.declared.role.Role.{Role}
use Rattle.x25_circuit.specs.declared.awaits.Awaits.{Awaits}
use Rattle.x25_clock.specs.declared.due.Due.{Due}
use Rattle.x25_clock.specs.declared.due.Due.TheVariants as due
use Rattle.x25_clock.specs.declared.times.Times.{Times}
use Rattle.x25_clock.specs.Clock.{due_of, most_due, next_of}
use Rattle.x25_clock.specs.Due.{asked_of, event_for}
use Rattle.x25_io.specs.Lines.{lines_of}
use Rattle.x25_script.specs.Reading.Spelling.{end_text}
use Rattle.x25_station.specs.Config.{Settings}
use Rattle.x25_station.specs.Entry.{StationEntry}
use Rattle.x25_station.specs.Station.{Station}
use Rattle.x25_station.specs.Station.Told.{awaits_answers, is_idle}
use Rattle.x25_station.specs.laws.TimerLaw.{StationEvent}
use Rattle.x25_pipe.specs.Pipe.{Saying, asked_act, event_in, saying_line}
use Rattle.x25_pipe.specs.Timed.{Timed, awaited_for, insist_turn, moment_of, new_timed, next_line, time_said, timed}
use Rattle.x25_pipe.specs.Timed.{timed_turn, timeout_line, told_due}
use Rattle.x25_joined.specs.laws.Joined.{entries_in, frames_in}

-- ---- what is played

pub data Play : Type 0 where
  -- a line that says no time
  Answers : (line : List ℕ) → Play
  -- a time before the one that was said last
  Passes : Play
  -- what is due, and what is asked for it
  Insists : (due asked : Due) → Play
  Marks : Play

-- from where it stands then
pub record Played : Type 0 where
  pub at : Timed
  pub play : Play

abbrev pub playing : Timed → Play → Played
playing w play = record { at = w; play = play }

abbrev pub first_due : Settings → Times → (Timed → List Played) → Timed → Option Due → List Played
first_due c times rest w None = []
first_due c times rest w (Some due) =
    playing (told_due times w) (Insists due (asked_of c w.station due))
    ∷ rest (insist_turn c times due (told_due times w)).next

-- what is due, at most so much
abbrev pub due_plays : Settings → Times → ℕ → Timed → List Played
due_plays c times zero w = []
due_plays c times (suc n) w = first_due c times (due_plays c times n) w (due_of (moment_of w.now) w.deadlines)

-- the first time that is said has nothing played
abbrev pub pass_plays : Settings → Times → ℕ → Timed → Option ℕ → List Played
pass_plays c times now w None = []
pass_plays c times now w (Some last) =
    if nat_lt now last then playing w Passes ∷ []
    else due_plays c times (most_due w.deadlines) (record w { now = Some now })

abbrev pub answer_plays : Settings → Times → List ℕ → Timed → Option ℕ → List Played
answer_plays c times line w None = playing w (Answers line) ∷ []
answer_plays c times line w (Some now) = pass_plays c times now w w.now

-- of a line
abbrev pub line_plays : Settings → Times → List ℕ → Timed → List Played
line_plays c times line w =
    answer_plays c times line w (time_said line) ++ playing (timed_turn c times line w).next Marks ∷ []

abbrev pub lines_plays : Settings → Times → List (List ℕ) → Timed → List Played
lines_plays c times [] w = []
lines_plays c times (line ∷ lines) w =
    line_plays c times line w ++ lines_plays c times lines (timed_turn c times line w).next

-- of all that it reads, its first mark first
abbrev pub plays : Settings → Times → List ℕ → List Played
plays c times input = playing (new_timed c) Marks ∷ lines_plays c times (lines_of input) (new_timed c)

-- ---- the event that it is of the station

abbrev pub asked_by : Settings → Play → Option StationEvent
asked_by c (Answers line) = event_in c.wide c.role line
asked_by c Passes = None
asked_by c (Insists due asked) = Some (event_for asked)
asked_by c Marks = None

abbrev pub first_asked : Settings → List Played → Option StationEvent
first_asked c [] = None
first_asked c (p ∷ ps) = asked_by c p.play

-- ---- what is said

-- as without a clock; that a timer has passed; or when something is due next, and whether the station has work
pub data TimedSaying : Type 0 where
  says : (saying : Saying) → TimedSaying
  passes : (awaits : Awaits) → (due : Due) → TimedSaying
  marks_next : (next : Option ℕ) → (is_idle : Bool) → (is_due : Bool) → TimedSaying

abbrev pub timed_line : Role → TimedSaying → List ℕ
timed_line end (says saying) = saying_line end saying
timed_line end (passes awaits due) = timeout_line end awaits due
timed_line end (marks_next next is_idle is_due) = next_line next is_idle is_due

abbrev pub told_act : Settings → Station → Option StationEvent → List TimedSaying
told_act c s event = map says (asked_act c s event).sayings

abbrev pub told_by : Settings → Timed → Play → List TimedSaying
told_by c w (Answers line) = told_act c w.station (asked_by c (Answers line))
told_by c w Passes = told_act c w.station None
told_by c w (Insists due asked) =
    passes (awaited_for c w.station due) due ∷ told_act c w.station (asked_by c (Insists due asked))
told_by c w Marks = marks_next (next_of w.deadlines) (is_idle c w.station) (awaits_answers c w.station) ∷ []

abbrev pub told : Settings → Played → List TimedSaying
told c p = told_by c p.at p.play

-- all that the program says of what it reads
abbrev pub timed_written : Settings → Times → List ℕ → List TimedSaying
timed_written c times input = flat_map (told c) (plays c times input)

-- the station behind it
abbrev pub timed_station : Settings → Times → List ℕ → Station
timed_station c times input = (timed c times input).next.station

-- what of it is said as without a clock
abbrev pub plain_of : TimedSaying → List Saying
plain_of (says saying) = saying ∷ []
plain_of (passes awaits due) = []
plain_of (marks_next next is_idle is_due) = []

abbrev pub plainly : List TimedSaying → List Saying
plainly sayings = flat_map plain_of sayings

-- the entries, and the octets of the frames, among what is said
abbrev pub timed_entries : List TimedSaying → List StationEntry
timed_entries sayings = entries_in (plainly sayings)

abbrev pub timed_frames : List TimedSaying → List (List ℕ)
timed_frames sayings = frames_in (plainly sayings)

-- ---- the lines of a user without a clock

-- what is due, as a line of the user; T1 as one of a script
abbrev pub due_words : Role → Due → List ℕ
due_words end due.T1 = codes "t1 " ++ end_text end
due_words end due.Probe = end_text end ++ (codes " " ++ codes "probe")
due_words end due.Relink = end_text end ++ (codes " " ++ codes "relink")
due_words end (due.Reset h) = end_text end ++ (codes " " ++ (codes "reset " ++ (decimal h ++ [])))
due_words end (due.ResetUnacknowledged h) =
    end_text end ++ (codes " " ++ (codes "reset " ++ (decimal h ++ codes " diag=146")))
due_words end (due.Clear h) = end_text end ++ (codes " " ++ (codes "clear " ++ (decimal h ++ [])))
due_words end (due.Restart h) = end_text end ++ (codes " " ++ (codes "restart" ++ []))

-- T25 asks for a reset with a diagnostic, and a line with one is read with `--wide` alone
abbrev pub IsSaid : Bool → Due → Type 0
IsSaid wide (due.ResetUnacknowledged h) = wide ≡ true
IsSaid wide asked = Unit {0}

abbrev pub IsSaidPlay : Settings → Play → Type 0
IsSaidPlay c (Insists due asked) = IsSaid c.wide asked
IsSaidPlay c play = Unit {0}

abbrev pub AreSaid : Settings → List Played → Type 0
AreSaid c [] = Unit {0}
AreSaid c (p ∷ ps) = IsSaidPlay c p.play × AreSaid c ps

-- a line that says no time stands, and one that says a time is what is due
abbrev pub lines_for : Role → Play → List (List ℕ)
lines_for end (Answers line) = line ∷ []
lines_for end Passes = []
lines_for end (Insists due asked) = due_words end asked ∷ []
lines_for end Marks = []

abbrev pub lines_heard : Role → List Played → List (List ℕ)
lines_heard end ps = flat_map (λ p. lines_for end p.play) ps

abbrev pub as_text : List (List ℕ) → List ℕ
as_text lines = flat_map (λ line. line ++ codes "\n") lines

abbrev pub without_clock : Settings → Times → List ℕ → List ℕ
without_clock c times input = as_text (lines_heard c.role (plays c times input))
