-- That one who obeys his clock is told the answer (profile): on the channel, that of a restart, or LinkUp or LinkDown.
use Rattle.std.specs.Prelude.{◌≡◌, ℕ, ◌+◌, ◌^◌, ◌<◌, ◌≤◌, Bool, false, List, [], ◌∷◌}
use Rattle.std.specs.List.{list_any}
use Rattle.x25_circuit.specs.declared.awaits.Awaits.{Awaits}
use Rattle.x25_layer.specs.code.FitsLayer.{awaited_at}
use Rattle.x25_station.specs.Config.{Settings, layer_settings}
use Rattle.x25_station.specs.Station.{Station}
use Rattle.x25_station.specs.Step.{Outcome, Did, Refused}
use Rattle.x25_station.specs.laws.EndLaw.{is_answered_on}
use Rattle.x25_station.specs.laws.WayOutLaw.{rank}
use Rattle.x25_clock.specs.declared.times.Times.{Times}
use Rattle.x25_clock.specs.laws.ClockLaw.{Moment, Watched, watched}
use Rattle.x25_clock.specs.laws.WaitLaw.{Deed, outcome_of, done, all_done, AreObeyed, AreSet, longest_wait, tells}

-- the step tells the answer to what the channel awaits, or that of a restart
abbrev pub answers : Settings → ℕ → Station → Outcome → Bool
answers c h s (Did step) = list_any (is_answered_on h (awaited_at (layer_settings c) s.layer h)) step.entries
answers c h s (Refused e) = false

-- none of these tells an answer, LinkUp or LinkDown
abbrev pub IsUntold : Settings → Times → ℕ → List Deed → Watched → Type 0
IsUntold c times h [] w = Unit {0}
IsUntold c times h (deed ∷ deeds) w = (tells (outcome_of c deed w) ≡ false)
    × (answers c h w.station (outcome_of c deed w) ≡ false) × IsUntold c times h deeds (done c times deed w)

-- After any moments: where a channel awaits an answer, or a restart is under way, one who obeys from there on is told
-- no answer, and neither LinkUp nor LinkDown, no longer than an answer may be awaited.
abbrev pub AnswerIsTold : Type 0
AnswerIsTold = (c : Settings) (times : Times) (h : ℕ) (moments : List Moment) (deeds : List Deed) →
    let w : Watched = watched c times moments in
    let awaits : Awaits = awaited_at (layer_settings c) w.station.layer h in
    let longest : ℕ = longest_wait times w.station.layer.restarting awaits in
    AreSet times awaits → w.now + longest < 2 ^ 64 → 2 ≤ rank c w.station h
    → AreObeyed c times deeds w → IsUntold c times h deeds w → (all_done c times deeds w).now ≤ w.now + longest
