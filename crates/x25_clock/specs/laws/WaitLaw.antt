-- One who obeys his clock (profile): no moment passes at which something is due, and what is due is asked at once. How
-- long an answer is then awaited, whatever the other end does, and whatever else is asked. That memory is refused isn't
-- spoken of.
use Rattle.std.specs.Prelude.{◌≡◌, ℕ, ◌+◌, ◌^◌, ◌<◌, ◌≤◌, Bool, true, false, List, [], ◌∷◌, Option, Some, None}
use Rattle.x25_circuit.specs.declared.awaits.Awaits.{Awaits}
use Rattle.x25_circuit.specs.declared.awaits.Awaits.TheVariants.{Nothing, Acceptance, ResetConfirmation}
use Rattle.x25_circuit.specs.declared.awaits.Awaits.TheVariants.{ClearConfirmation, InterruptConfirmation}
use Rattle.x25_layer.specs.code.FitsLayer.{awaited_at, unacknowledged_at}
use Rattle.x25_station.specs.Config.{Settings, layer_settings}
use Rattle.x25_station.specs.Station.{Station}
use Rattle.x25_station.specs.Step.{Outcome, Did, Refused}
use Rattle.x25_station.specs.Timer.{tells_link}
use Rattle.x25_station.specs.laws.TimerLaw as timer
use Rattle.x25_station.specs.laws.WayOutLaw.{rank}
use Rattle.x25_clock.specs.declared.due.Due.{Due}
use Rattle.x25_clock.specs.declared.times.Times.{Times}
use Rattle.x25_clock.specs.Clock.{next_of, due_of, after_due}
use Rattle.x25_clock.specs.Due.{asked_of, event_for}
use Rattle.x25_clock.specs.laws.ClockLaw.{Moment, Watched, heeds, watched}

-- so much later an event of the station happens; or this is due, and is asked
pub data Deed : Type 0 where
  Happens : (later : ℕ) → (event : timer.StationEvent) → Deed
  IsAsked : (later : ℕ) → (due : Due) → Deed

abbrev pub later_by : Deed → ℕ
later_by (Happens later event) = later
later_by (IsAsked later due) = later

-- what happens to the station then
abbrev pub event_of : Settings → Deed → Station → timer.StationEvent
event_of c (Happens later event) s = event
event_of c (IsAsked later due) s = event_for (asked_of c s due)

-- the deadlines as the event finds them: where something is asked its time has begun anew
abbrev pub found_by : Times → Deed → Watched → Watched
found_by times (Happens later event) w = record w { now = w.now + later }
found_by times (IsAsked later due) w =
    record w { deadlines = after_due times (w.now + later) w.deadlines; now = w.now + later }

-- it happens, and is heeded
abbrev pub outcome_of : Settings → Deed → Watched → Outcome
outcome_of c deed w = timer.outcome c w.station (event_of c deed w.station)

abbrev pub done : Settings → Times → Deed → Watched → Watched
done c times deed w = heeds c times (w.now + later_by deed) (event_of c deed w.station) (outcome_of c deed w)
    (found_by times deed w)

abbrev pub all_done : Settings → Times → List Deed → Watched → Watched
all_done c times [] w = w
all_done c times (deed ∷ deeds) w = all_done c times deeds (done c times deed w)

-- ---- to obey

-- what is asked is due
abbrev pub IsFounded : Deed → Watched → Type 0
IsFounded (Happens later event) w = Unit {0}
IsFounded (IsAsked later due) w = due_of (w.now + later) w.deadlines ≡ Some due

-- the next moment at which something is due doesn't pass
abbrev pub IsNotPast : ℕ → Option ℕ → Type 0
IsNotPast now None = Unit {0}
IsNotPast now (Some moment) = now ≤ moment

abbrev pub IsOnTime : Deed → Watched → Type 0
IsOnTime deed w = IsNotPast (w.now + later_by deed) (next_of w.deadlines)

abbrev pub AreObeyed : Settings → Times → List Deed → Watched → Type 0
AreObeyed c times [] w = Unit {0}
AreObeyed c times (deed ∷ deeds) w =
    IsFounded deed w × IsOnTime deed w × AreObeyed c times deeds (done c times deed w)

-- ---- to wait

abbrev pub tells : Outcome → Bool
tells (Did step) = tells_link step.entries
tells (Refused e) = false

-- a channel awaits an answer, or a restart is under way, before each of these and after it, and none tells LinkUp or
-- LinkDown
abbrev pub AwaitsAll : Settings → Times → ℕ → List Deed → Watched → Type 0
AwaitsAll c times h [] w = 2 ≤ rank c w.station h
AwaitsAll c times h (deed ∷ deeds) w = (2 ≤ rank c w.station h) × (tells (outcome_of c deed w) ≡ false)
    × AwaitsAll c times h deeds (done c times deed w)

-- how long it may: until its time passes, T22 that of a reset, T23 that of clearing, and T20 that of the restart
abbrev pub longest_wait : Times → Bool → Awaits → ℕ
longest_wait times true awaits = times.t20
longest_wait times false Nothing = 0
longest_wait times false Acceptance = times.t21 + (times.t23 + times.t20)
longest_wait times false ResetConfirmation = times.t22 + (times.t23 + times.t20)
longest_wait times false ClearConfirmation = times.t23 + times.t20
longest_wait times false InterruptConfirmation = times.t26 + (times.t22 + (times.t23 + times.t20))

-- none is for ever, that of an interrupt where one is awaited
pub record AreSet (times : Times) (awaits : Awaits) : Type 0 where
  pub t20 : 0 < times.t20
  pub t21 : 0 < times.t21
  pub t22 : 0 < times.t22
  pub t23 : 0 < times.t23
  pub t26 : awaits ≡ InterruptConfirmation → 0 < times.t26

-- After any moments: one who obeys from there on, while a channel awaits an answer, does so no longer than that.
abbrev pub NothingWaits : Type 0
NothingWaits = (c : Settings) (times : Times) (h : ℕ) (moments : List Moment) (deeds : List Deed) →
    let w : Watched = watched c times moments in
    let awaits : Awaits = awaited_at (layer_settings c) w.station.layer h in
    let longest : ℕ = longest_wait times w.station.layer.restarting awaits in
    AreSet times awaits → w.now + longest < 2 ^ 64
    → AreObeyed c times deeds w → AwaitsAll c times h deeds w → (all_done c times deeds w).now ≤ w.now + longest

-- ---- a data packet that isn't acknowledged

-- the first that isn't is the same, with P(S) n, while the other end is ready to receive, before each of these and
-- after it, and none tells LinkUp or LinkDown
abbrev pub StaysFirst : Settings → Times → ℕ → ℕ → List Deed → Watched → Type 0
StaysFirst c times h n [] w = unacknowledged_at (layer_settings c) w.station.layer h ≡ Some n
StaysFirst c times h n (deed ∷ deeds) w = (unacknowledged_at (layer_settings c) w.station.layer h ≡ Some n)
    × (tells (outcome_of c deed w) ≡ false) × StaysFirst c times h n deeds (done c times deed w)

-- After any moments: one who obeys from there on has P(R) moved, RNR, or the end of the stretch, no later than T25,
-- where that isn't for ever.
abbrev pub WindowRotates : Type 0
WindowRotates = (c : Settings) (times : Times) (h n : ℕ) (moments : List Moment) (deeds : List Deed) →
    let w : Watched = watched c times moments in
    0 < times.t25 → w.now + times.t25 < 2 ^ 64
    → AreObeyed c times deeds w → StaysFirst c times h n deeds w → (all_done c times deeds w).now ≤ w.now + times.t25
