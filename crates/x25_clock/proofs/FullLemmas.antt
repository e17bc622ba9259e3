-- At most 256 packets wait in the link; and where 256 do, the link is set up anew in place of a reset, a clear or a
-- restart.
use Rattle.x25_clock.proofs.Names.{◌≡◌, ℕ, ◌==◌, List, [], ◌∷◌, Bool, true, false, if◌then◌else◌, refl, ap, ◌∙◌, is_channel, is_up, Settings}
use Rattle.x25_clock.proofs.Names.{layer_settings, Station, Outcome, Did, Refused, Times, Moment, Watched, watched_by, watched_from, Deed, Happens, IsAsked}
use Rattle.x25_clock.proofs.Names.{arith, done, event_of}
use Rattle.x25_circuit.specs.Calling.{Clears, Resets, outcome as circuit_outcome}
use Rattle.x25_clock.specs.Due.{asked_of, event_for, lacks_room}
use Rattle.x25_layer.specs.Calls.{LayerRequest, LayerOutcome, Asks, Restarts, Declined, if_at_once, outcome_in, outcome_on, layer_outcome}
use Rattle.x25_layer.specs.{Layer.{LayerSettings, Layer}, laws.Rounds.{LinkView, Refuses, went}}
use Rattle.x25_link.specs.{Link.{alone}, Outgoing.{waits}}
use Rattle.x25_station.specs.{Command.{Requests}, Config.{link_settings}, Entry.{StationEntry}, Station.{new_station, view_of}, Step.{did, entries_of_outcome}}
use Rattle.x25_clock.specs.declared.due.Due.TheVariants as due
use Rattle.x25_layer.specs.declared.error.LayerError.TheVariants as layer_error
use Rattle.x25_station.specs.declared.error.StationError.TheVariants as error
use Rattle.x25_station.specs.{laws.KeepLaw.{IsKept, KeptBy, ReceiveKeeps, CommandKeeps, TimerKeeps}}
use Rattle.x25_station.specs.laws.TimerLaw as timer
use Rattle.x25_clock.specs.laws.ClockLaw as moment

module _ (c : Settings) (s : Station) (up : is_up s.link.phase ≡ true) (ready : s.layer.restarting ≡ false) (full : (waits s.link.outgoing == 256) ≡ true) where
  abbrev lc : LayerSettings
  lc = layer_settings c

  abbrev l : Layer
  l = s.layer

  abbrev view : LinkView
  view = view_of (link_settings c) s.turn s.link

  abbrev entries : LayerRequest → List StationEntry
  entries request = entries_of_outcome lc l request (layer_outcome lc (waits s.link.outgoing == 256) l request)

  -- of a request of the layer, by what it comes to on a full queue
  refused_as : (request : LayerRequest) → outcome_in lc true false l.restarts l.circuits request ≡ Declined layer_error.QueueFull
      → did c (alone s.link) (entries request) (if is_up s.link.phase
      then went view lc (layer_outcome lc (waits s.link.outgoing == 256) l request) else Refuses layer_error.NotUp)
      ≡ Refused (error.Layer layer_error.QueueFull)
  refused_as request is =
      ap (λ (b : Bool). did c (alone s.link) (entries request) (if b then went view lc (layer_outcome lc (waits s.link.outgoing == 256) l request)
      else Refuses layer_error.NotUp)) up
      ∙ ap (λ (b : Bool). did c (alone s.link) (entries request) (went view lc (layer_outcome lc b l request))) full
      ∙ ap (λ (b : Bool). did c (alone s.link) (entries request) (went view lc (outcome_in lc true b l.restarts l.circuits request))) ready
      ∙ ap (λ (o : LayerOutcome). did c (alone s.link) (entries request) (went view lc o)) is

  reset_refused : (h diagnostic : ℕ) → is_channel c.channels h ≡ true
      → timer.outcome c s (timer.Asks (Requests (Asks h (Resets 0 diagnostic)))) ≡ Refused (error.Layer layer_error.QueueFull)
  reset_refused h diagnostic configured = refused_as (Asks h (Resets 0 diagnostic))
      (ap (λ (b : Bool). if b then if_at_once true true (outcome_on l.restarts l.circuits h (circuit_outcome lc.circuit (l.circuits h) (Resets 0 diagnostic)))
      else Declined layer_error.NoSuchChannel) configured)

  clear_refused : (h : ℕ) → is_channel c.channels h ≡ true → timer.outcome c s (event_for (due.Clear h)) ≡ Refused (error.Layer layer_error.QueueFull)
  clear_refused h configured = refused_as (Asks h (Clears 0 0))
      (ap (λ (b : Bool). if b then if_at_once true true (outcome_on l.restarts l.circuits h (circuit_outcome lc.circuit (l.circuits h) (Clears 0 0)))
      else Declined layer_error.NoSuchChannel) configured)

  restart_refused : (h : ℕ) → timer.outcome c s (event_for (due.Restart h)) ≡ Refused (error.Layer layer_error.QueueFull)
  restart_refused h = refused_as (Restarts 0 0) refl

  pub reset_relinks : (h : ℕ) → is_channel c.channels h ≡ true → asked_of c s (due.Reset h) ≡ due.Relink
  reset_relinks h configured = ap (λ (o : Outcome). if lacks_room o then due.Relink else due.Reset h) (reset_refused h 0 configured)

  pub rotation_relinks : (h : ℕ) → is_channel c.channels h ≡ true → asked_of c s (due.ResetUnacknowledged h) ≡ due.Relink
  rotation_relinks h configured = ap (λ (o : Outcome). if lacks_room o then due.Relink else due.ResetUnacknowledged h) (reset_refused h 146 configured)

  pub clear_relinks : (h : ℕ) → is_channel c.channels h ≡ true → asked_of c s (due.Clear h) ≡ due.Relink
  clear_relinks h configured = ap (λ (o : Outcome). if lacks_room o then due.Relink else due.Clear h) (clear_refused h configured)

  pub restart_relinks : (h : ℕ) → asked_of c s (due.Restart h) ≡ due.Relink
  restart_relinks h = ap (λ (o : Outcome). if lacks_room o then due.Relink else due.Restart h) (restart_refused h)

-- what is accepted is asked itself
pub reset_asked : (c : Settings) (s : Station) (h : ℕ) (o : Outcome) → timer.outcome c s (event_for (due.Reset h)) ≡ o → lacks_room o ≡ false
    → asked_of c s (due.Reset h) ≡ due.Reset h
reset_asked c s h o is good = ap (λ (o : Outcome). if lacks_room o then due.Relink else due.Reset h) is
    ∙ ap (λ (b : Bool). if b then due.Relink else due.Reset h) good

pub rotation_asked : (c : Settings) (s : Station) (h : ℕ) (o : Outcome) → timer.outcome c s (event_for (due.ResetUnacknowledged h)) ≡ o → lacks_room o ≡ false
    → asked_of c s (due.ResetUnacknowledged h) ≡ due.ResetUnacknowledged h
rotation_asked c s h o is good = ap (λ (o : Outcome). if lacks_room o then due.Relink else due.ResetUnacknowledged h) is
    ∙ ap (λ (b : Bool). if b then due.Relink else due.ResetUnacknowledged h) good

pub clear_asked : (c : Settings) (s : Station) (h : ℕ) (o : Outcome) → timer.outcome c s (event_for (due.Clear h)) ≡ o → lacks_room o ≡ false
    → asked_of c s (due.Clear h) ≡ due.Clear h
clear_asked c s h o is good = ap (λ (o : Outcome). if lacks_room o then due.Relink else due.Clear h) is
    ∙ ap (λ (b : Bool). if b then due.Relink else due.Clear h) good

pub restart_asked : (c : Settings) (s : Station) (h : ℕ) (o : Outcome) → timer.outcome c s (event_for (due.Restart h)) ≡ o → lacks_room o ≡ false
    → asked_of c s (due.Restart h) ≡ due.Restart h
restart_asked c s h o is good = ap (λ (o : Outcome). if lacks_room o then due.Relink else due.Restart h) is
    ∙ ap (λ (b : Bool). if b then due.Relink else due.Restart h) good

-- ---- what waits

pub record Keeps : Type 0 where
  pub receive : ReceiveKeeps
  pub command : CommandKeeps
  pub timer : TimerKeeps

module _ (laws : Keeps) (c : Settings) (times : Times) where
  kept_by : (s : Station) (event : timer.StationEvent) → IsKept s → KeptBy (timer.outcome c s event)
  kept_by s (timer.Comes octets) h = laws.receive c s octets h
  kept_by s (timer.Asks command) h = laws.command c s command h
  kept_by s timer.Fires h = laws.timer c s h

  kept_after : (s : Station) (o : Outcome) → IsKept s → KeptBy o → IsKept (timer.after s o)
  kept_after s (Did step) before h = h
  kept_after s (Refused e) before h = before

  pub event_kept : (s : Station) (event : timer.StationEvent) → IsKept s → IsKept (timer.after s (timer.outcome c s event))
  event_kept s event h = kept_after s (timer.outcome c s event) h (kept_by s event h)

  pub deed_kept : (w : Watched) (deed : Deed) → IsKept w.station → IsKept (done c times deed w).station
  deed_kept w (Happens later event) h = event_kept w.station event h
  deed_kept w (IsAsked later what) h = event_kept w.station (event_of c (IsAsked later what) w.station) h

  pub moments_kept : (moments : List Moment) (w : Watched) → IsKept w.station → IsKept (watched_from c times moments w).station
  moments_kept [] w h = h
  moments_kept (moment.Happens later event ∷ moments) w h =
      moments_kept moments (watched_by c times (moment.Happens later event) w) (event_kept w.station event h)
  moments_kept (moment.IsDue later ∷ moments) w h = moments_kept moments (watched_by c times (moment.IsDue later) w) h

pub new_kept : IsKept new_station
new_kept = record { few = omega arith; rests = λ down. refl }
