-- What one station behind a pipe does that has a clock (profile). Each line is answered as without one, and behind it
-- the clock heeds what became of the station. A line `@ MS` says the time: with the first one all begins that is
-- awaited, and at each later one what is due is asked for, one after another. A mark says when something is due next.
use Rattle.std.specs.Prelude.{ℕ, zero, suc, ◌^◌, ◌==◌, nat_le, nat_lt, Bool, false, ◌&&◌, ◌||◌, List, [], ◌∷◌}
use Rattle.std.specs.Prelude.{◌++◌, length, if◌then◌else◌, Option, Some, None, codes, decimal}
use Rattle.std.specs.Str.{bytes_eq}
use Rattle.std.specs.Str.Parse.{digits_value}
use Rattle.x25_bits.specs.declared.role.Role.{Role}
use Rattle.x25_bits.specs.declared.role.Role.TheVariants.{Dte, Dce}
use Rattle.x25_circuit.specs.declared.awaits.Awaits.{Awaits}
use Rattle.x25_circuit.specs.declared.awaits.Awaits.TheVariants.{ResetConfirmation}
use Rattle.x25_clock.specs.declared.due.Due.{Due}
use Rattle.x25_clock.specs.declared.due.Due.TheVariants as due
use Rattle.x25_clock.specs.declared.times.Times.{Times}
use Rattle.x25_clock.specs.Clock.{Deadlines, Seen, after_due, begun, due_of, heeded, most_due, next_of}
use Rattle.x25_clock.specs.Clock.{nothing_awaited}
use Rattle.x25_clock.specs.Due.{asked_of, event_for}
use Rattle.x25_io.specs.HeldLine.{most_line}
use Rattle.x25_io.specs.Lines.{lines_of}
use Rattle.x25_layer.specs.code.FitsLayer.{awaited_at, unacknowledged_at}
use Rattle.x25_station.specs.Config.{Settings, layer_settings}
use Rattle.x25_station.specs.Station.{Station, new_station}
use Rattle.x25_station.specs.Station.Told.{awaits_answers, is_at_rest, is_idle}
use Rattle.x25_station.specs.Timer.{tells_link}
use Rattle.x25_transcript.specs.EntryText.{channel_text, end_text}
use Rattle.x25_pipe.specs.Pipe.{Act, asked_act, event_act, event_in, has_refusal, nothing_act, sayings_text}
use Rattle.x25_pipe.specs.Pipe.{work_text}

-- the station, its deadlines, and the time that was said last, where one was
pub record Timed : Type 0 where
  pub station : Station
  pub deadlines : Deadlines
  pub now : Option ℕ

abbrev pub new_timed : Settings → Timed
new_timed c = record { station = new_station; deadlines = nothing_awaited c.channels.count; now = None }

-- the moment at which something happens: 0 before a time is said
abbrev pub moment_of : Option ℕ → ℕ
moment_of None = 0
moment_of (Some last) = last

-- what follows, what is written, and whether something was refused
pub record TimedTurn : Type 0 where
  pub next : Timed
  pub text : List ℕ
  pub is_refused : Bool

abbrev pub writes : Timed → List ℕ → TimedTurn
writes w text = record { next = w; text = text; is_refused = false }

abbrev pub and_then : (Timed → TimedTurn) → TimedTurn → TimedTurn
and_then rest t = record {
  next = (rest t.next).next;
  text = t.text ++ (rest t.next).text;
  is_refused = t.is_refused || (rest t.next).is_refused;
}

-- ---- the clock heeds what comes of a line

abbrev pub seen_at : Settings → Act → Seen
seen_at c a = record {
  timer = a.timer;
  at_rest = is_at_rest a.next;
  restarting = a.next.layer.restarting;
  noted = tells_link a.entries;
  heard = a.is_heard;
  awaited = λ h. awaited_at (layer_settings c) a.next.layer h;
  unacknowledged = λ h. unacknowledged_at (layer_settings c) a.next.layer h;
}

abbrev pub heeds : Settings → Times → Timed → Act → Timed
heeds c times w a = record {
  station = a.next;
  deadlines = heeded times (moment_of w.now) (seen_at c a) w.deadlines;
  now = w.now;
}

abbrev pub act_turn : Settings → Times → Timed → Act → TimedTurn
act_turn c times w a = record {
  next = heeds c times w a;
  text = sayings_text c.role a.sayings;
  is_refused = has_refusal a.sayings;
}

-- ---- what is due

-- the timer that has passed, by the name that it has at that end
abbrev pub timer_text : Role → Awaits → Due → List ℕ
timer_text end awaits due.T1 = codes "T1"
timer_text end awaits due.Probe = codes "T3"
timer_text end awaits (due.Reset h) = codes "T26"
timer_text end awaits (due.ResetUnacknowledged h) = codes "T25"
timer_text Dte awaits due.Relink = codes "T20"
timer_text Dce awaits due.Relink = codes "T10"
timer_text Dte ResetConfirmation (due.Clear h) = codes "T22"
timer_text Dce ResetConfirmation (due.Clear h) = codes "T12"
timer_text Dte awaits (due.Clear h) = codes "T21"
timer_text Dce awaits (due.Clear h) = codes "T11"
timer_text Dte awaits (due.Restart h) = codes "T23"
timer_text Dce awaits (due.Restart h) = codes "T13"

abbrev pub channel_in : Due → List ℕ
channel_in due.T1 = []
channel_in due.Probe = []
channel_in due.Relink = []
channel_in (due.Reset h) = channel_text h
channel_in (due.ResetUnacknowledged h) = channel_text h
channel_in (due.Clear h) = channel_text h
channel_in (due.Restart h) = channel_text h

-- the channel of what is due, and what is awaited there
abbrev pub channel_for : Due → ℕ
channel_for due.T1 = 0
channel_for due.Probe = 0
channel_for due.Relink = 0
channel_for (due.Reset h) = h
channel_for (due.ResetUnacknowledged h) = h
channel_for (due.Clear h) = h
channel_for (due.Restart h) = h

abbrev pub awaited_for : Settings → Station → Due → Awaits
awaited_for c s due = awaited_at (layer_settings c) s.layer (channel_for due)

unfoldable pub timeout_line : Role → Awaits → Due → List ℕ
timeout_line end awaits due = end_text end ++ (codes "timeout " ++ (timer_text end awaits due ++ (channel_in due
    ++ codes "\n")))

-- it is told which timer has passed, and then what is due is asked for, as by the user, or that for which there is room
abbrev pub insist_turn : Settings → Times → Due → Timed → TimedTurn
insist_turn c times due w =
    and_then (λ w. act_turn c times w (event_act c w.station (event_for (asked_of c w.station due))))
    (writes w (timeout_line c.role (awaited_for c w.station due) due))

abbrev pub told_due : Times → Timed → Timed
told_due times w = record w { deadlines = after_due times (moment_of w.now) w.deadlines }

abbrev pub due_first : Settings → Times → (Timed → TimedTurn) → Timed → Option Due → TimedTurn
due_first c times rest w None = writes (told_due times w) []
due_first c times rest w (Some due) = and_then rest (insist_turn c times due (told_due times w))

-- what is due, at most so much
unfoldable pub due_turns : Settings → Times → ℕ → Timed → TimedTurn
due_turns c times zero w = writes w []
due_turns c times (suc n) w = due_first c times (due_turns c times n) w (due_of (moment_of w.now) w.deadlines)

-- ---- a line

-- the number that the figures write, below 2^64 and without leading zeros
unfoldable pub moment_in : List ℕ → Option ℕ
moment_in figures = let number = digits_value 10 figures in
    if nat_lt number (2 ^ 64) && bytes_eq (decimal number) figures then Some number else None

-- `@`, a space and the time in milliseconds
abbrev pub time_in : List ℕ → Option ℕ
time_in [] = None
time_in (mark ∷ []) = None
time_in (mark ∷ space ∷ figures) = if mark == 64 && space == 32 then moment_in figures else None

unfoldable pub time_said : List ℕ → Option ℕ
time_said line = if nat_le (length line) most_line then time_in line else None

-- the first time that is said: what is awaited is awaited from then on
abbrev pub begins : Settings → Times → ℕ → Timed → Timed
begins c times now w = record {
  station = w.station;
  deadlines = begun times now c.channels.count c w.station;
  now = Some now;
}

-- a time before the one that was said last asks for nothing
abbrev pub pass_turn : Settings → Times → ℕ → Timed → Option ℕ → TimedTurn
pass_turn c times now w None = writes (begins c times now w) []
pass_turn c times now w (Some last) =
    if nat_lt now last then act_turn c times w (nothing_act w.station)
    else due_turns c times (most_due w.deadlines) (record w { now = Some now })

abbrev pub answer_turn : Settings → Times → List ℕ → Timed → Option ℕ → TimedTurn
answer_turn c times line w None = act_turn c times w (asked_act c w.station (event_in c.wide c.role line))
answer_turn c times line w (Some now) = pass_turn c times now w w.now

-- ---- its mark: the next moment at which something is due

abbrev pub next_text : Option ℕ → List ℕ
next_text None = codes "-"
next_text (Some moment) = decimal moment

unfoldable pub next_line : Option ℕ → Bool → Bool → List ℕ
next_line next is_idle is_due =
    codes ". " ++ next_text next ++ (codes " " ++ (work_text is_idle is_due ++ codes "\n"))

abbrev pub mark_turn : Settings → Timed → TimedTurn
mark_turn c w = writes w
    (next_line (next_of w.deadlines) (is_idle c w.station) (awaits_answers c w.station))

unfoldable pub timed_turn : Settings → Times → List ℕ → Timed → TimedTurn
timed_turn c times line w = and_then (mark_turn c) (answer_turn c times line w (time_said line))

-- one line after another
unfoldable pub timed_turns : Settings → Times → List (List ℕ) → Timed → TimedTurn
timed_turns c times [] w = writes w []
timed_turns c times (line ∷ lines) w = and_then (timed_turns c times lines) (timed_turn c times line w)

-- ---- the whole: the first mark comes before anything is read

unfoldable pub timed : Settings → Times → List ℕ → TimedTurn
timed c times input = and_then (timed_turns c times (lines_of input)) (mark_turn c (new_timed c))

abbrev pub timed_text : Settings → Times → List ℕ → List ℕ
timed_text c times input = (timed c times input).text

abbrev pub timed_status : Settings → Times → List ℕ → ℕ
timed_status c times input = if (timed c times input).is_refused then 1 else 0
