-- That a program `x25 station` with a clock obeys it (profile): where no line says a time behind the moment that the
-- mark before it has, what is due is asked at its moment, as one does of whom the laws of `x25_clock` speak. So what is
-- asked of the program is answered within a bound, and a dead line is told.
use Rattle.std.specs.Prelude.{◌≡◌, ℕ, ◌+◌, ◌^◌, ◌<◌, ◌≤◌, false, List, [], ◌∷◌, Option, Some, None}
use Rattle.std.specs.List.{list_any}
use Rattle.x25_link.specs.declared.phase.Phase.{Phase}
use Rattle.x25_circuit.specs.declared.awaits.Awaits.{Awaits}
use Rattle.x25_layer.specs.code.FitsLayer.{awaited_at}
use Rattle.x25_station.specs.Config.{Settings, layer_settings}
use Rattle.x25_station.specs.laws.EndLaw.{is_answered_on}
use Rattle.x25_station.specs.Station.{Station}
use Rattle.x25_station.specs.Timer.{runs, tells_link}
use Rattle.x25_station.specs.laws.TimerLaw.{StationEvent}
use Rattle.x25_station.specs.laws.UnheardLaw.{MayAsk}
use Rattle.x25_station.specs.laws.WayOutLaw.{rank}
use Rattle.x25_clock.specs.declared.times.Times.{Times}
use Rattle.x25_clock.specs.Clock.{next_of}
use Rattle.x25_clock.specs.laws.ClockLaw.{Watched}
use Rattle.x25_clock.specs.laws.SilenceLaw.{IsQuiet, longest_silence}
use Rattle.x25_clock.specs.laws.WaitLaw.{Deed, all_done, AreObeyed, AreSet, IsNotPast, longest_wait}
use Rattle.x25_pipe.specs.Timed.{Timed, moment_of, new_timed, time_said, timed_turn, timed_turns}
use Rattle.x25_joined.specs.laws.Played.{Played, asked_by, lines_plays, timed_entries, told}

-- ---- the lines that it reads

-- of a time that a line says: the next moment, as the mark before that line has it, doesn't pass
abbrev pub IsInTime : Timed → Option ℕ → Type 0
IsInTime w None = Unit {0}
IsInTime w (Some now) = IsNotPast now (next_of w.deadlines)

abbrev pub AreInTime : Settings → Times → List (List ℕ) → Timed → Type 0
AreInTime c times [] w = Unit {0}
AreInTime c times (line ∷ lines) w = IsInTime w (time_said line)
    × AreInTime c times lines (timed_turn c times line w).next

-- ---- the clock is obeyed

-- where a program stands, at a time
abbrev pub watched_at : ℕ → Timed → Watched
watched_at now w = record { station = w.station; deadlines = w.deadlines; now = now }

-- The deeds of one who obeys lead from one, at the time that was said last, to the other, the last of them at some
-- time; and from then on the next moment didn't pass.
pub record Obeys (c : Settings) (times : Times) (now : ℕ) (w v : Timed) : Type 0 where
  pub deeds : List Deed
  pub obeyed : AreObeyed c times deeds (watched_at now w)
  pub since : ℕ
  pub leads : all_done c times deeds (watched_at now w) ≡ watched_at since v
  pub in_time : since ≤ moment_of v.now
  pub not_past : IsNotPast (moment_of v.now) (next_of v.deadlines)

-- after any lines
abbrev pub after : Settings → Times → List (List ℕ) → Timed
after c times lines = (timed_turns c times lines (new_timed c)).next

-- After any lines by which a time was said: lines that come in time are the deeds of one who obeys.
abbrev pub ClockIsObeyed : Type 0
ClockIsObeyed = (c : Settings) (times : Times) (now : ℕ) (lines more : List (List ℕ)) →
    let w : Timed = after c times lines in
    c.window ≤ 7 → w.now ≡ Some now → AreInTime c times more w
    → Obeys c times now w (timed_turns c times more w).next

-- ---- the answer is told

-- no answer to what the channel awaits is written, that of no restart, no LinkUp and no LinkDown
abbrev pub IsUntold : Settings → ℕ → List Played → Type 0
IsUntold c h [] = Unit {0}
IsUntold c h (p ∷ ps) =
    (list_any (is_answered_on h (awaited_at (layer_settings c) p.at.station.layer h)) (timed_entries (told c p))
    ≡ false)
    × IsUntold c h ps

-- After any lines by which a time was said: where a channel awaits an answer, or a restart is under way, a program that
-- reads lines in time writes the answer, LinkUp or LinkDown before it may have been awaited for too long.
abbrev pub AnswerIsWritten : Type 0
AnswerIsWritten = (c : Settings) (times : Times) (h now : ℕ) (lines more : List (List ℕ)) →
    let w : Timed = after c times lines in
    let awaits : Awaits = awaited_at (layer_settings c) w.station.layer h in
    let longest : ℕ = longest_wait times w.station.layer.restarting awaits in
    c.window ≤ 7 → AreSet times awaits → w.now ≡ Some now → now + longest < 2 ^ 64 → 2 ≤ rank c w.station h
    → AreInTime c times more w → IsUntold c h (lines_plays c times more w)
    → moment_of (timed_turns c times more w).next.now ≤ now + longest

-- ---- a dead line is told

-- what comes is noise, or UA is awaited
abbrev pub IsQuietAt : Settings → Station → Option StationEvent → Type 0
IsQuietAt c s None = Unit {0}
IsQuietAt c s (Some event) = IsQuiet c s event

-- The link is up as each is played, or UA is awaited; nothing comes but noise, or while UA is awaited; and no LinkUp
-- and no LinkDown is written.
abbrev pub IsSilent : Settings → Phase → List Played → Type 0
IsSilent c phase [] = Unit {0}
IsSilent c phase (p ∷ ps) = (p.at.station.link.phase ≡ phase) × IsQuietAt c p.at.station (asked_by c p.play)
    × (tells_link (timed_entries (told c p)) ≡ false) × IsSilent c phase ps

-- After any lines by which a time was said: a program that reads lines in time writes LinkUp or LinkDown before nothing
-- was heard for too long.
abbrev pub SilenceIsWritten : Type 0
SilenceIsWritten = (c : Settings) (times : Times) (phase : Phase) (now : ℕ) (lines more : List (List ℕ)) →
    let w : Timed = after c times lines in
    let v : Timed = (timed_turns c times more w).next in
    let longest : ℕ = longest_silence times c.retries (runs w.station) in
    MayAsk phase → 1 ≤ c.window → c.window ≤ 7 → 0 < times.t1 → 0 < times.t3 → w.now ≡ Some now
    → now + longest < 2 ^ 64
    → AreInTime c times more w → IsSilent c phase (lines_plays c times more w) → v.station.link.phase ≡ phase
    → moment_of v.now ≤ now + longest
