-- What a move of a layer's end leaves of a stretch that is open after it, and what it adds to the transcript.
use Rattle.x25_world.proofs.Names.{◌≡◌, ℕ, List, [], ◌∷◌, ◌++◌, Option, Some, None, Bool, true, false, ◌==◌, if◌then◌else◌, refl, sym, subst, append-nil}
use Rattle.x25_world.proofs.Names.{eqb-true, cond_both, PlainPacket, restart, restart_conf, channel_of, Circuit, is_open, answers, Done, Calls, outcome}
use Rattle.x25_world.proofs.Names.{LayerSettings, Layer, answers_on, drops, answers_in, layer_answers, LayerRequest, Dials, Restarts, PullsAll, LayerOutcome}
use Rattle.x25_world.proofs.Names.{Accepted, where_room, outcome_on, dialled, free_channel, outcome_in, layer_outcome, layer_pulled, LayerError, Entry}
use Rattle.x25_world.proofs.Names.{requested, pulled_in, moves_in, entries_asked, OwnMove, Pulls, Takes, as_move, alone, own_moves}
use Rattle.x25_circuit.specs.{Calling.{Outcome, Refused}, Cause.{may_restart_for}}
use Rattle.x25_layer.specs.{Calls.{Asks, Declined, puts_at_once, if_at_once, outcome_ready}, Layer.{put_at, restarting_from}, Ranges.{is_channel}}
use Rattle.x25_layer.specs.laws.{Apart.{Requests, GoesDown, coming}, TwoLayers.{entries_told}}
use Rattle.x25_world.proofs.Continues.{never, AfterPacket, AfterCall, stays_heard, stays_called, packet_heard, AfterOutcome, outcome_called, pulled_called}
use Rattle.x25_world.proofs.sessions.SessionTrace.{TakesNone}
use Rattle.x25_circuit.specs.declared.error.CircuitError.TheVariants as circuit_error
use Rattle.x25_layer.specs.declared.error.LayerError.TheVariants as error
use Rattle.x25_layer.specs.laws.TwoLayers as layer

pub record LayerGoes (R : Circuit → Circuit → Type 0) (l next : Layer) (k : ℕ) : Type 0 where
  pub circuit : R (l.circuits k) (next.circuits k)
  pub restarts : is_open (next.circuits k) ≡ true → next.restarts ≡ l.restarts

-- the circuit of a channel alone goes on
put_goes : (R : Circuit → Circuit → Type 0) → ((x : Circuit) → R x x) → (circuits : ℕ → Circuit) (h k : ℕ) {y : Circuit} → R (circuits h) y
    → R (circuits k) (put_at circuits h y k)
put_goes R stays circuits h k {y} goes =
    cond_both (k == h) y (circuits k) (λ x. R (circuits k) x) (λ is. subst (λ j. R (circuits j) y) (sym (eqb-true k h is)) goes) (λ _. stays (circuits k))

module _ (c : LayerSettings) (l : Layer) (k : ℕ) where
  abbrev Heard : Layer → Type 0
  Heard next = LayerGoes AfterPacket l next k

  abbrev Called : Layer → Type 0
  Called next = LayerGoes AfterCall l next k

  -- ---- a packet

  packet_on : (h : ℕ) (p : PlainPacket) (b : Bool)
      → Heard (if b then answers_on l.restarts l.circuits h (answers c.circuit (l.circuits h) p) else drops false l.restarts l.circuits).next
  packet_on h p true = record { circuit = put_goes AfterPacket stays_heard l.circuits h k (packet_heard c.circuit (l.circuits h) p); restarts = λ is. refl }
  packet_on h p false = record { circuit = stays_heard (l.circuits k); restarts = λ is. refl }

  pub layer_heard : (p : PlainPacket) → Heard (layer_answers c l p).next
  layer_heard p = by l.restarting p
    where
      by : (restarting : Bool) (p : PlainPacket) → Heard (answers_in c restarting l.restarts l.circuits p).next
      by true (restart cause diagnostic) = record { circuit = λ is. never is; restarts = λ is. never is }
      by true restart_conf = record { circuit = λ is. never is; restarts = λ is. never is }
      by true p = record { circuit = stays_heard (l.circuits k); restarts = λ is. refl }
      by false (restart cause diagnostic) = record { circuit = λ is. never is; restarts = λ is. never is }
      by false restart_conf = record { circuit = λ is. never is; restarts = λ is. never is }
      by false p = packet_on (channel_of p) p (is_channel c.channels (channel_of p))

  -- ---- a call of the user

  abbrev AfterLayerOutcome : LayerOutcome → Type 0
  AfterLayerOutcome (Accepted next packet) = Called next
  AfterLayerOutcome (Declined error) = Unit {0}

  layer_if : (b : Bool) (o : LayerOutcome) (e : LayerError) → AfterLayerOutcome o → AfterLayerOutcome (if b then o else Declined e)
  layer_if true o e h = h
  layer_if false o e h = tt

  where_room_called : (full : Bool) (o : LayerOutcome) → AfterLayerOutcome o → AfterLayerOutcome (where_room full o)
  where_room_called true o h = tt
  where_room_called false o h = h

  at_once_called : (at_once full : Bool) (o : LayerOutcome) → AfterLayerOutcome o → AfterLayerOutcome (if_at_once at_once full o)
  at_once_called true full o h = where_room_called full o h
  at_once_called false full o h = h

  on_called : (h : ℕ) (o : Outcome) → AfterOutcome (l.circuits h) o → AfterLayerOutcome (outcome_on l.restarts l.circuits h o)
  on_called h (Done next packet) goes = record { circuit = put_goes AfterCall stays_called l.circuits h k goes; restarts = λ is. refl }
  on_called h (Refused e) goes = tt

  request_called : (full : Bool) (request : LayerRequest) → AfterLayerOutcome (outcome_ready c full l.restarts l.circuits request)
  request_called full (Asks h request) =
      layer_if (is_channel c.channels h) _ error.NoSuchChannel
      (at_once_called (puts_at_once request) full
      _ (on_called h (outcome c.circuit (l.circuits h) request) (outcome_called c.circuit (l.circuits h) request)))
  request_called full (Dials called calling user proposal) = free (free_channel c.circuit.role l.circuits c.channels)
    where
      free : (o : Option ℕ) → AfterLayerOutcome (dialled c full l.restarts l.circuits o called calling user proposal)
      free None = tt
      free (Some h) = where_room_called full
          _ (on_called h (outcome c.circuit (l.circuits h) (Calls called calling user proposal))
          (outcome_called c.circuit (l.circuits h) (Calls called calling user proposal)))
  request_called full (Restarts cause diagnostic) = where_room_called full _ (may (may_restart_for c.circuit.role cause))
    where
      may : (b : Bool) → AfterLayerOutcome
          (if b then Accepted (restarting_from l.restarts l.circuits) (Some (restart cause diagnostic))
          else Declined (error.Circuit circuit_error.BadParameter))
      may true = record { circuit = λ is. never is; restarts = λ is. never is }
      may false = tt
  request_called full PullsAll = record { circuit = stays_called (l.circuits k); restarts = λ is. refl }

  layer_called : (full : Bool) (request : LayerRequest) → AfterLayerOutcome (layer_outcome c full l request)
  layer_called full request = by l.restarting
    where
      by : (restarting : Bool) → AfterLayerOutcome (outcome_in c full restarting l.restarts l.circuits request)
      by true = tt
      by false = request_called full request

  layer_stays : Called l
  layer_stays = record { circuit = stays_called (l.circuits k); restarts = λ is. refl }

  layer_pulls : (h : ℕ) → Called (layer_pulled c l h).next
  layer_pulls h = record { circuit = put_goes AfterCall stays_called l.circuits h k (pulled_called c.circuit (l.circuits h)); restarts = λ is. refl }

-- ---- an end

pub end_heard : (c : LayerSettings) (e : layer.End) (p : PlainPacket) (k : ℕ) → LayerGoes AfterPacket e.layer (own_moves c e (Takes p)).layer k
end_heard c e p k = by e.is_out
  where
    by : (gone : Bool) → LayerGoes AfterPacket e.layer (moves_in c (alone e (p ∷ [])) gone layer.HandsUp).near.layer k
    by true = record { circuit = stays_heard (e.layer.circuits k); restarts = λ is. refl }
    by false = layer_heard c e.layer k p

pub end_called : (c : LayerSettings) (e : layer.End) (what : OwnMove) (k : ℕ) → TakesNone what → LayerGoes AfterCall e.layer (own_moves c e what).layer k
end_called c e what k none = by e.is_out what none
  where
    after : (request : LayerRequest) (o : LayerOutcome) → AfterLayerOutcome c e.layer k o
        → LayerGoes AfterCall e.layer (requested c (alone e []) request o).near.layer k
    after request (Accepted next packet) h = h
    after request (Declined error) h = layer_stays c e.layer k

    pulls : (h : ℕ) (b : Bool) → LayerGoes AfterCall e.layer (if b then pulled_in (alone e []) (layer_pulled c e.layer h) else alone e []).near.layer k
    pulls h true = layer_pulls c e.layer k h
    pulls h false = layer_stays c e.layer k

    by : (gone : Bool) (what : OwnMove) → TakesNone what → LayerGoes AfterCall e.layer (moves_in c (alone e (coming what)) gone (as_move what)).near.layer k
    by true what none = layer_stays c e.layer k
    by false (Requests full request) none = after request (layer_outcome c full e.layer request) (layer_called c e.layer k full request)
    by false (Pulls h) none = pulls h (is_channel c.channels h)
    by false (Takes p) none = absurd none
    by false GoesDown none = record { circuit = λ is. never is; restarts = λ is. never is }

-- the transcript grows
pub end_enters : (c : LayerSettings) (e : layer.End) (what : OwnMove) → (more : List Entry) × ((own_moves c e what).entries ≡ e.entries ++ more)
end_enters c e what = by e.is_out what
  where
    none : (more : List Entry) × (e.entries ≡ e.entries ++ more)
    none = ([], sym (append-nil e.entries))

    after : (request : LayerRequest) (o : LayerOutcome) → (more : List Entry) × ((requested c (alone e []) request o).near.entries ≡ e.entries ++ more)
    after request (Accepted next packet) = (entries_asked c e.layer next request, refl)
    after request (Declined error) = none

    pulls : (h : ℕ) (b : Bool) → (more : List Entry)
        × ((if b then pulled_in (alone e []) (layer_pulled c e.layer h) else alone e []).near.entries ≡ e.entries ++ more)
    pulls h true = ([], refl)
    pulls h false = none

    by : (gone : Bool) (what : OwnMove) → (more : List Entry) × ((moves_in c (alone e (coming what)) gone (as_move what)).near.entries ≡ e.entries ++ more)
    by true what = none
    by false (Requests full request) = after request (layer_outcome c full e.layer request)
    by false (Pulls h) = pulls h (is_channel c.channels h)
    by false (Takes p) = (let a = layer_answers c e.layer p in (entries_told a.next a.notices, refl))
    by false GoesDown = none
