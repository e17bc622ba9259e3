-- What is seen of a command that a station accepts, and of a firing of its timer T1.
use Rattle.x25_link.specs.{Link.{gives_up}, declared.phase.Phase.{Phase}, declared.phase.Phase.TheVariants.{Closed}}
use Rattle.x25_peer.proofs.Names.{◌≡◌, ◌==◌, List, Bool, true, false, if◌then◌else◌, Option, Some, None, refl, sym, ap, subst, PlainPacket, PlainGiven}
use Rattle.x25_peer.proofs.Names.{LinkError, timer_step, LayerRequest, Settings, layer_settings, link_settings, StationEntry, Station, Step, LinkSettings}
use Rattle.x25_peer.proofs.Names.{LinkStation, is_up}
use Rattle.std.proofs.Common.{◌+◌, nat_lt}
use Rattle.x25_circuit.specs.Calling.{Sends}
use Rattle.x25_layer.specs.{Calls.{Asks, LayerOutcome, Accepted, Declined, layer_outcome}, Layer.{Layer}, laws.Rounds.{Refuses, went}}
use Rattle.x25_link.specs.{Hearing.{quiet, leaves}, Link.{alone, closed_by, asks_again, connect_refusal, relink_refusal}, Outgoing.{waits}, Station.{with_near}}
use Rattle.x25_link.specs.declared.phase.{Phase.{Phase}, Phase.TheVariants.{Down, Up}, Reason.TheVariants.{Retries}}
use Rattle.x25_station.specs.{Command.{may_ask}, Giving.{suits, is_taken, view_given, not_taken}, Station.{view_of}}
use Rattle.x25_station.specs.Step.{Outcome, Did, Refused, unless, requests, did, entries_of_outcome, gave, gives, where_asked}
use Rattle.x25_station.specs.declared.error.StationError.{StationError}
use Rattle.x25_layer.specs.declared.error.LayerError.TheVariants as layer_error
use Rattle.x25_station.specs.declared.error.StationError.TheVariants as error

abbrev step_in : Step → Outcome → Step
step_in k (Did step) = step
step_in k (Refused e) = k

refused_did : {A : Type 0} (e : StationError) (step : Step) → Refused e ≡ Did step → A
refused_did e step is = absurd (subst (λ o. elim o as (λ _. Type 0) [ Did x ↦ ⊥ | Refused y ↦ Unit {0} ]) is tt)

-- what something is given beside is no message
pub suits_asks : (wide : Bool) (g : PlainGiven) (request : LayerRequest) → suits g request ≡ true → may_ask wide request ≡ true
suits_asks wide g (Asks h (Sends marks user)) is = absurd (cc)
suits_asks wide g (Asks h request) is = refl
suits_asks wide g request is = refl

-- What is seen of a command that is accepted: the link is up, what is given is taken, and the layer accepts it.
pub record IsGranted (up taken : Bool) (o : LayerOutcome) (told : List StationEntry) (step : Step) : Type 0 where
  pub is_up : up ≡ true
  pub is_taken : taken ≡ true
  pub next : Layer
  pub own : Option PlainPacket
  pub accepted : o ≡ Accepted next own
  pub entries : step.entries ≡ told

entries_did : (step next : Step) → Did next ≡ Did step → step.entries ≡ next.entries
entries_did step next is = ap (λ o. (step_in next o).entries) (sym is)

-- what isn't refused for its link is done
pub unless_did : (refusal : Option LinkError) (done step : Step) → unless refusal done ≡ Did step → (refusal ≡ None) × (done ≡ step)
unless_did None done step is = (refl, ap (step_in done) is)
unless_did (Some e) done step is = refused_did (error.Link e) step is

-- that is seen of a request that was done
pub did_granted : (c : Settings) (s : Station) (request : LayerRequest) (step : Step) → requests c s request ≡ Did step
    → (let o = layer_outcome (layer_settings c) (waits s.link.outgoing == 256) s.layer request in
    IsGranted (is_up s.link.phase) (may_ask c.wide request) o (entries_of_outcome (layer_settings c) s.layer request o) step)
did_granted c s request step is = by (is_up s.link.phase) (may_ask c.wide request)
    (layer_outcome (layer_settings c) (waits s.link.outgoing == 256) s.layer request) is
  where
    entries : LayerOutcome → List StationEntry
    entries o = entries_of_outcome (layer_settings c) s.layer request o

    by : (up may : Bool) (o : LayerOutcome)
        → where_asked may (did c (alone s.link) (entries o)
        (if up then went (view_of (link_settings c) s.turn s.link) (layer_settings c) o else Refuses layer_error.NotUp)) ≡ Did step
        → IsGranted up may o (entries o) step
    by true true (Accepted next own) is = record { is_up = refl; is_taken = refl; next = next; own = own; accepted = refl; entries = entries_did step _ is }
    by false true o is = refused_did (error.Layer layer_error.NotUp) step is
    by true false (Accepted next own) is = refused_did not_taken step is
    by false false o is = refused_did (error.Layer layer_error.NotUp) step is
    by true true (Declined e) is = refused_did (error.Layer e) step is
    by true false (Declined e) is = refused_did (error.Layer e) step is

-- and of one with something given beside it
pub gave_granted : (c : Settings) (s : Station) (g : PlainGiven) (request : LayerRequest) (step : Step) → gives c s g request ≡ Did step
    → (let o = layer_outcome (layer_settings c) (waits s.link.outgoing == 256) s.layer request in
    IsGranted (is_up s.link.phase) (is_taken c g request) o (entries_of_outcome (layer_settings c) s.layer request o) step)
gave_granted c s g request step is = by (is_up s.link.phase) (is_taken c g request)
    (layer_outcome (layer_settings c) (waits s.link.outgoing == 256) s.layer request) is
  where
    entries : LayerOutcome → List StationEntry
    entries o = entries_of_outcome (layer_settings c) s.layer request o

    by : (up taken : Bool) (o : LayerOutcome)
        → gave c g taken (alone s.link) (entries o)
        (if up then went (view_given (link_settings c) g s.turn s.link) (layer_settings c) o else Refuses layer_error.NotUp) ≡ Did step
        → IsGranted up taken o (entries o) step
    by true true (Accepted next own) is = record { is_up = refl; is_taken = refl; next = next; own = own; accepted = refl; entries = entries_did step _ is }
    by true false (Accepted next own) is = refused_did not_taken step is
    by true taken (Declined e) is = refused_did (error.Layer e) step is
    by false taken o is = refused_did (error.Layer layer_error.NotUp) step is

-- ---- of the link

-- connect is accepted in Down alone
pub connects_in_down : (p : Phase) → connect_refusal p ≡ None → p ≡ Down
connects_in_down Down is = refl
connects_in_down p is = absurd (cc)

-- relink is accepted in Up alone
pub relinks_in_up : (p : Phase) → relink_refusal p ≡ None → is_up p ≡ true
relinks_in_up Up is = refl
relinks_in_up p is = absurd (cc)

-- a firing of T1 hands nothing up and notes no LinkUp
pub timer_silent : (c : LinkSettings) (s : LinkStation) → ((timer_step c s).packet ≡ None) × ((timer_step c s).notes.up ≡ false)
timer_silent c s = by (nat_lt s.tries c.retries)
  where
    last : (p : Phase) → let k = closed_by c.window (gives_up p (alone s)) in (k.packet ≡ None) × (k.notes.up ≡ false)
    last Closed = (refl, refl)
    last p = (refl, refl)

    by : (b : Bool) → let k = closed_by c.window
        (if b then quiet (asks_again s.phase (with_near (alone s) (record s { tries = s.tries + 1 }))) else gives_up s.phase (alone s)) in (k.packet ≡ None)
        × (k.notes.up ≡ false)
    by true = (refl, refl)
    by false = last s.phase
