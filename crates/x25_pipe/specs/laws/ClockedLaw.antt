-- What a pipe does with its clock is what one does who obeys it (`all_done` of x25_clock): each event, and each that is
-- due and asked, with the pull behind it where it is accepted, all at the time that was said last.
use Rattle.std.specs.Prelude.{◌≡◌, ℕ, ◌≤◌, List, [], ◌∷◌, Some, None}
use Rattle.x25_station.specs.Config.{Settings}
use Rattle.x25_station.specs.Step.{Outcome, Did, Refused}
use Rattle.x25_station.specs.laws.SettledLaw.{IsSettled}
use Rattle.x25_station.specs.laws.TimerLaw.{StationEvent}
use Rattle.x25_clock.specs.declared.due.Due.{Due}
use Rattle.x25_clock.specs.declared.times.Times.{Times}
use Rattle.x25_clock.specs.Clock.{due_of}
use Rattle.x25_clock.specs.laws.ClockLaw.{AreTrue, Moment, Watched, watched}
use Rattle.x25_clock.specs.laws.PullLaw.{pull}
use Rattle.x25_clock.specs.laws.WaitLaw.{Deed, Happens, IsAsked, outcome_of, all_done}
use Rattle.x25_pipe.specs.Pipe.{event_act}
use Rattle.x25_pipe.specs.Timed.{Timed, act_turn, insist_turn, moment_of, new_timed, time_said, timed_turn, timed_turns}
use Rattle.x25_pipe.specs.Timed.{told_due}

abbrev pub watched_in : Timed → Watched
watched_in w = record { station = w.station; deadlines = w.deadlines; now = moment_of w.now }

-- a deed, and the pull behind it
abbrev pub with_pull : Deed → Outcome → List Deed
with_pull deed (Did step) = deed ∷ pull ∷ []
with_pull deed (Refused e) = deed ∷ []

abbrev pub done_with_pull : Settings → Times → Deed → Watched → Watched
done_with_pull c times deed w = all_done c times (with_pull deed (outcome_of c deed w)) w

-- of an event that a line asks for
abbrev pub EventIsDone : Type 0
EventIsDone = (c : Settings) (times : Times) (event : StationEvent) (w : Timed) (before : ℕ) → c.window ≤ 7
    → IsSettled c w.station → before ≤ moment_of w.now → AreTrue c times (record (watched_in w) { now = before })
    → watched_in (act_turn c times w (event_act c w.station event)).next
    ≡ done_with_pull c times (Happens 0 event) (watched_in w)

-- of what is told as due, and asked for
abbrev pub DueIsDone : Type 0
DueIsDone = (c : Settings) (times : Times) (due : Due) (w : Timed) (before : ℕ) → c.window ≤ 7
    → IsSettled c w.station → before ≤ moment_of w.now → AreTrue c times (record (watched_in w) { now = before })
    → watched_in (insist_turn c times due (told_due times w)).next
    ≡ done_with_pull c times (IsAsked 0 due) (watched_in w)

-- Behind any lines and one that says a time, no earlier than the last one, nothing is due then.
abbrev pub NothingIsDue : Type 0
NothingIsDue = (c : Settings) (times : Times) (lines : List (List ℕ)) (line : List ℕ) (now : ℕ) →
    let w : Timed = (timed_turns c times lines (new_timed c)).next in
    time_said line ≡ Some now → moment_of w.now ≤ now → due_of now (timed_turn c times line w).next.deadlines ≡ None

-- So what any lines lead to is what some moments do, of which x25_clock says that all deadlines are true.
abbrev pub PipeIsWatched : Type 0
PipeIsWatched = (c : Settings) (times : Times) (lines : List (List ℕ)) → c.window ≤ 7 →
    (moments : List Moment) × (watched c times moments ≡ watched_in (timed_turns c times lines (new_timed c)).next)
