-- That the end of a wait is told (profile): where a channel awaits an answer, or a restart is under way, each step
-- leaves that as it is, or tells what became of it.
use Rattle.std.specs.Prelude.{◌≡◌, ℕ, ◌≤◌, ◌==◌, ◌⊎◌, ◌&&◌, Bool, true, false}
use Rattle.std.specs.List.{list_any}
use Rattle.x25_circuit.specs.declared.awaits.Awaits.{Awaits}
use Rattle.x25_circuit.specs.declared.awaits.Awaits.TheVariants.{Acceptance, ResetConfirmation, ClearConfirmation}
use Rattle.x25_circuit.specs.declared.awaits.Awaits.TheVariants.{InterruptConfirmation}
use Rattle.x25_circuit.specs.Calling.{Clears, Resets}
use Rattle.x25_circuit.specs.Notice.{PlainNotice, connected, collided, cleared, clear_done, was_reset, reset_done}
use Rattle.x25_circuit.specs.Notice.{interrupt_done, fault}
use Rattle.x25_layer.specs.laws.Transcript.{Said, Asked, Told}
use Rattle.x25_layer.specs.code.FitsLayer.{awaited_at}
use Rattle.x25_station.specs.Config.{Settings, layer_settings}
use Rattle.x25_station.specs.Entry.{StationEntry, of_channel, restart_asked, link_up, link_down, was_restarted}
use Rattle.x25_station.specs.Entry.{restart_confirmed, at_fault}
use Rattle.x25_station.specs.Station.{Station}
use Rattle.x25_station.specs.Step.{Outcome, Did, Refused}
use Rattle.x25_station.specs.laws.TimerLaw as timer
use Rattle.x25_station.specs.laws.WayOutLaw.{rank, AwaitsStill}

-- ---- what is said on a channel

-- the answer to what is awaited: a DCE that hears of a collision has its own call refused, and a RESET ends the stretch
-- to which an interrupt belongs
abbrev pub is_answer : Awaits → PlainNotice → Bool
is_answer Acceptance (connected params) = true
is_answer Acceptance collided = true
is_answer Acceptance (cleared cause diagnostic) = true
is_answer ResetConfirmation reset_done = true
is_answer ResetConfirmation (cleared cause diagnostic) = true
is_answer ClearConfirmation clear_done = true
is_answer InterruptConfirmation interrupt_done = true
is_answer InterruptConfirmation (was_reset cause diagnostic) = true
is_answer InterruptConfirmation (cleared cause diagnostic) = true
is_answer awaits notice = false

abbrev pub is_answer_in : Awaits → Said → Bool
is_answer_in awaits (Asked request) = false
is_answer_in awaits (Told notice) = is_answer awaits notice

-- that it is cleared or reset, by its user or for an error of procedure
abbrev pub leaves_in : Said → Bool
leaves_in (Asked (Clears cause diagnostic)) = true
leaves_in (Asked (Resets cause diagnostic)) = true
leaves_in (Told (fault diagnostic)) = true
leaves_in said = false

-- ---- and by an entry

-- the answer on that channel, that of a restart, LinkUp or LinkDown
abbrev pub is_answered_on : ℕ → Awaits → StationEntry → Bool
is_answered_on h awaits (of_channel e) = e.channel == h && is_answer_in awaits e.said
is_answered_on h awaits (was_restarted cause diagnostic) = true
is_answered_on h awaits restart_confirmed = true
is_answered_on h awaits link_up = true
is_answered_on h awaits (link_down reason) = true
is_answered_on h awaits entry = false

-- that the channel is cleared or reset, or all are restarted, by the user or for an error of procedure
abbrev pub is_left_on : ℕ → StationEntry → Bool
is_left_on h (of_channel e) = e.channel == h && leaves_in e.said
is_left_on h (restart_asked cause diagnostic) = true
is_left_on h (at_fault diagnostic) = true
is_left_on h entry = false

-- ---- the law

-- what is awaited is what was; or the step tells that this is cleared, reset or restarted, and awaits an answer to
-- that; or it tells the answer
abbrev pub IsTold : Settings → Station → ℕ → Outcome → Type 0
IsTold c s h (Did step) = AwaitsStill c s step.near h
    ⊎ (((2 ≤ rank c step.near h) × (list_any (is_left_on h) step.entries ≡ true))
    ⊎ (list_any (is_answered_on h (awaited_at (layer_settings c) s.layer h)) step.entries ≡ true))
IsTold c s h (Refused e) = Unit {0}

-- Whatever comes and whatever is asked, of a channel that awaits an answer, or where a restart is under way.
abbrev pub EndIsTold : Type 0
EndIsTold = (c : Settings) (s : Station) (h : ℕ) (event : timer.StationEvent) → 2 ≤ rank c s h
    → IsTold c s h (timer.outcome c s event)
