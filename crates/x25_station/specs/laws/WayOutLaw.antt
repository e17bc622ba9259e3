-- What leads on where the other end doesn't answer (profile): an interrupt that isn't confirmed is reset, what else
-- isn't answered is cleared, then all is restarted, then the link is set up anew, and that ends, up or down. No clause
-- speaks of what the other end does.
use Rattle.std.specs.Prelude.{◌≡◌, ℕ, suc, ◌+◌, ◌<◌, ◌≤◌, ◌⊎◌, Bool, true, false, [], ◌∷◌, Some, None}
use Rattle.x25_link.specs.declared.phase.Phase.{Phase}
use Rattle.x25_link.specs.declared.phase.Phase.TheVariants.{Down, Waiting, Up, Closed}
use Rattle.x25_link.specs.declared.phase.Reason.TheVariants.{Local, Retries}
use Rattle.x25_link.specs.Outgoing.{waits}
use Rattle.x25_link.specs.Station.{is_up}
use Rattle.x25_circuit.specs.declared.awaits.Awaits.{Awaits}
use Rattle.x25_circuit.specs.declared.awaits.Awaits.TheVariants.{Nothing, Acceptance, ResetConfirmation}
use Rattle.x25_circuit.specs.declared.awaits.Awaits.TheVariants.{ClearConfirmation, InterruptConfirmation}
use Rattle.x25_circuit.specs.Calling.{Clears, Resets}
use Rattle.x25_layer.specs.Layer.{rested}
use Rattle.x25_layer.specs.Calls.{Asks, Restarts}
use Rattle.x25_layer.specs.code.FitsLayer.{awaited_at, unacknowledged_at}
use Rattle.x25_station.specs.Command.{Requests, Relinks}
use Rattle.x25_station.specs.Config.{Settings, layer_settings}
use Rattle.x25_station.specs.Entry.{relink_asked, link_down}
use Rattle.x25_station.specs.Station.{Station}
use Rattle.x25_station.specs.Step.{Step, Outcome, Did, Refused, commands, fires}
use Rattle.x25_station.specs.Timer.{tells_link}
use Rattle.x25_station.specs.laws.TimerLaw as timer

-- ---- how many steps are left where nothing is answered

-- p2 and p5 of a DTE, and p3 of a DCE; d2, and d3; p6, and p7; and j2, and j4, in p4 with d1
abbrev pub rank_in : Awaits → ℕ
rank_in Nothing = 0
rank_in Acceptance = 4
rank_in ResetConfirmation = 4
rank_in ClearConfirmation = 3
rank_in InterruptConfirmation = 5

-- while UA is awaited it is 1, and in r2 of a DTE and r3 of a DCE it is 2
abbrev pub rank_of : Phase → Bool → Awaits → ℕ
rank_of Down restarting awaits = 0
rank_of Waiting restarting awaits = 1
rank_of Up true awaits = 2
rank_of Up false awaits = rank_in awaits
rank_of Closed restarting awaits = 0

-- the rank of a channel
abbrev pub rank : Settings → Station → ℕ → ℕ
rank c s h = rank_of s.link.phase s.layer.restarting (awaited_at (layer_settings c) s.layer h)

-- ---- the steps

-- Where an interrupt isn't confirmed `reset` is accepted, but for 256 packets that wait in the link.
abbrev pub ResetLeadsOn : Type 0
ResetLeadsOn = (c : Settings) (s : Station) (h : ℕ) → rank c s h ≡ 5 → waits s.link.outgoing < 256
    → (step : Step) × (commands c s (Requests (Asks h (Resets 0 0))) ≡ Did step) × (rank c step.near h ≡ 4)

-- Where a data packet isn't acknowledged, while the other end is ready to receive, `reset` is accepted too, but for 256
-- packets that wait in the link, and then none is: the stretch ends.
abbrev pub RotationLeadsOn : Type 0
RotationLeadsOn = (c : Settings) (s : Station) (h n : ℕ) → is_up s.link.phase ≡ true
    → unacknowledged_at (layer_settings c) s.layer h ≡ Some n → waits s.link.outgoing < 256
    → (step : Step) × (commands c s (Requests (Asks h (Resets 0 146))) ≡ Did step)
    × (unacknowledged_at (layer_settings c) step.near.layer h ≡ None)

-- Where a call or a reset isn't answered `clear` is accepted, but for 256 packets that wait in the link.
abbrev pub ClearLeadsOn : Type 0
ClearLeadsOn = (c : Settings) (s : Station) (h : ℕ) → rank c s h ≡ 4 → waits s.link.outgoing < 256
    → (step : Step) × (commands c s (Requests (Asks h (Clears 0 0))) ≡ Did step) × (rank c step.near h ≡ 3)

-- In r1 of a link that is up `restart` is accepted, but for 256 packets, whatever is awaited.
abbrev pub RestartLeadsOn : Type 0
RestartLeadsOn = (c : Settings) (s : Station) → is_up s.link.phase ≡ true → s.layer.restarting ≡ false
    → waits s.link.outgoing < 256
    → (step : Step) × (commands c s (Requests (Restarts 0 0)) ≡ Did step) × ((h : ℕ) → rank c step.near h ≡ 2)

-- Of a station that is up relink is accepted, whatever is awaited and whatever waits: LinkDown is told, all channels
-- are in p1, no restart is under way, and UA is awaited, with all tries left.
pub record IsLeftBehind (s : Station) (step : Step) : Type 0 where
  pub phase : step.near.link.phase ≡ Waiting
  pub tries : step.near.link.tries ≡ 0
  pub layer : step.near.layer ≡ rested s.layer
  pub entries : step.entries ≡ relink_asked ∷ link_down Local ∷ []

abbrev pub RelinkLeadsOn : Type 0
RelinkLeadsOn = (c : Settings) (s : Station) → is_up s.link.phase ≡ true
    → (step : Step) × (commands c s Relinks ≡ Did step) × IsLeftBehind s step

-- T1 fires so many times, one firing after another, each accepted
pub data Fired (c : Settings) : ℕ → Station → Step → Type 0 where
  once : (s : Station) (step : Step) → fires c s ≡ Did step → Fired c 1 s step
  again : (n : ℕ) (s : Station) (step last : Step) → fires c s ≡ Did step → Fired c n step.near last
      → Fired c (suc n) s last

-- Where UA is awaited and so many tries are left, one firing more than these leads to Down, and LinkDown is told.
pub record GivesUp (c : Settings) (n : ℕ) (s : Station) : Type 0 where
  pub last : Step
  pub fired : Fired c n s last
  pub down : last.near.link.phase ≡ Down
  pub entries : last.entries ≡ link_down Retries ∷ []

abbrev pub FiringLeadsOn : Type 0
FiringLeadsOn = (c : Settings) (n : ℕ) (s : Station) → s.link.phase ≡ Waiting → s.link.tries + n ≡ c.retries
    → GivesUp c (suc n) s

-- ---- and none leads back

-- the link is up still, and what is awaited on a channel is what was
pub record AwaitsStill (c : Settings) (s next : Station) (h : ℕ) : Type 0 where
  pub up : is_up next.link.phase ≡ true
  pub restarting : next.layer.restarting ≡ s.layer.restarting
  pub awaits : awaited_at (layer_settings c) next.layer h ≡ awaited_at (layer_settings c) s.layer h

abbrev pub is_call : Awaits → Bool
is_call Acceptance = true
is_call awaits = false

-- fewer steps are left, and no call of this end is awaited
pub record IsNearer (c : Settings) (s next : Station) (h : ℕ) : Type 0 where
  pub low : rank c next h < rank c s h
  pub no_call : is_call (awaited_at (layer_settings c) next.layer h) ≡ false

abbrev pub LeadsOn : Settings → Station → ℕ → Outcome → Type 0
LeadsOn c s h (Did step) = tells_link step.entries ≡ false → AwaitsStill c s step.near h ⊎ IsNearer c s step.near h
LeadsOn c s h (Refused e) = Unit {0}

-- Whatever comes and whatever is asked, a channel of rank 2 or more awaits what it did, or its rank is lower and it
-- awaits no acceptance, or the step tells LinkUp or LinkDown.
abbrev pub NothingLeadsBack : Type 0
NothingLeadsBack = (c : Settings) (s : Station) (h : ℕ) (event : timer.StationEvent) → 2 ≤ rank c s h
    → LeadsOn c s h (timer.outcome c s event)
