-- A call that puts a packet at once is refused where 256 packets wait.
use Rattle.x25_station.proofs.Names.{◌≡◌, ℕ, List, ◌++◌, Option, Some, None, Bool, true, false, nat_lt, nat_le, if◌then◌else◌, length, refl, subst, Done}
use Rattle.x25_station.proofs.Names.{Request, Sends, send_in, outcome, CircuitSettings, Talk, Circuit, outgoing, cut, State, Free, Calling, Arriving, Collision}
use Rattle.x25_station.proofs.Names.{Open, Resetting, Clearing, LayerRequest, Asks, Dials, Restarts, PullsAll, LayerOutcome, Accepted, Declined, free_channel}
use Rattle.x25_station.proofs.Names.{puts_at_once, if_at_once, outcome_on, dialled, outcome_in, outcome_ready, layer_outcome, LayerSettings, Layer, is_channel}
use Rattle.x25_station.proofs.Names.{PlainPacket, Marks}
use Rattle.x25_circuit.specs.{Calling.{Outcome, Refused, keeps_on, send_open}, Circuit.{waits}}
use Rattle.x25_circuit.specs.declared.error.CircuitError.TheVariants as circuit
use Rattle.x25_layer.specs.declared.error.LayerError.TheVariants as error

-- nothing is put at once
abbrev PutsNone : LayerOutcome → Type 0
PutsNone (Accepted next None) = Unit {0}
PutsNone (Accepted next (Some p)) = ⊥
PutsNone (Declined e) = Unit {0}

abbrev GivesNone : Outcome → Type 0
GivesNone (Done next None) = Unit {0}
GivesNone (Done next (Some p)) = ⊥
GivesNone (Refused e) = Unit {0}

on_none : (restarts : ℕ) (circuits : ℕ → Circuit) (h : ℕ) (o : Outcome) → GivesNone o → PutsNone (outcome_on restarts circuits h o)
on_none restarts circuits h (Done next None) none = tt
on_none restarts circuits h (Done next (Some p)) none = absurd none
on_none restarts circuits h (Refused e) none = tt

by_if : (b : Bool) (u v : Outcome) → GivesNone u → GivesNone v → GivesNone (if b then u else v)
by_if true u v p q = p
by_if false u v p q = q

send_open_none : (c : CircuitSettings) (x : Circuit) (q : Marks) (user : List ℕ) → GivesNone (send_open c x x.talk q user)
send_open_none c x q user = by_if (nat_le (length user) c.longest) _ (Refused circuit.TooLong)
    (by_if (nat_lt (waits x) 8) (keeps_on x (sending c x q user) None) (Refused circuit.Full) tt tt) tt
  where
    sending : CircuitSettings → Circuit → Marks → List ℕ → Talk
    sending c x q user = record {
      sent = x.talk.sent;
      taken = x.talk.taken;
      acked = x.talk.acked;
      rest = x.talk.rest ++ cut (outgoing x).size q user;
      int_out = x.talk.int_out;
      peer_ready = x.talk.peer_ready;
      own_ready = x.talk.own_ready;
    }

send_none : (c : CircuitSettings) (x : Circuit) (q : Marks) (user : List ℕ) → GivesNone (outcome c x (Sends q user))
send_none c x q user = at x.state
  where
    at : (s : State) → GivesNone (send_in c x s q user)
    at Open = send_open_none c x q user
    at Free = tt
    at Calling = tt
    at Arriving = tt
    at Collision = tt
    at Resetting = tt
    at Clearing = tt

-- where 256 packets wait

if_channel : (b : Bool) (u : LayerOutcome) → PutsNone u → PutsNone (if b then u else Declined error.NoSuchChannel)
if_channel true u none = none
if_channel false u none = tt

asks_none : (c : LayerSettings) (restarts : ℕ) (circuits : ℕ → Circuit) (h : ℕ) (request : Request)
    → PutsNone (if_at_once (puts_at_once request) true (outcome_on restarts circuits h (outcome c.circuit (circuits h) request)))
asks_none c restarts circuits h (Sends q user) = on_none restarts circuits h (outcome c.circuit (circuits h) (Sends q user))
    (send_none c.circuit (circuits h) q user)
asks_none c restarts circuits h v = tt

ready_none : (c : LayerSettings) (restarts : ℕ) (circuits : ℕ → Circuit) (request : LayerRequest) → PutsNone (outcome_ready c true restarts circuits request)
ready_none c restarts circuits (Asks h request) =
    if_channel (is_channel c.channels h) (if_at_once (puts_at_once request) true (outcome_on restarts circuits h (outcome c.circuit (circuits h) request)))
    (asks_none c restarts circuits h request)
ready_none c restarts circuits (Dials called calling user proposal) = by (free_channel c.circuit.role circuits c.channels)
  where
    by : (o : Option ℕ) → PutsNone (dialled c true restarts circuits o called calling user proposal)
    by None = tt
    by (Some h) = tt
ready_none c restarts circuits (Restarts cause diagnostic) = tt
ready_none c restarts circuits PullsAll = tt

full_none : (c : LayerSettings) (l : Layer) (request : LayerRequest) → PutsNone (layer_outcome c true l request)
full_none c l request = by l.restarting
  where
    by : (b : Bool) → PutsNone (outcome_in c true b l.restarts l.circuits request)
    by true = tt
    by false = ready_none c l.restarts l.circuits request

-- a packet is put at once only where fewer wait
pub has_room : (c : LayerSettings) (is_full : Bool) (l : Layer) (request : LayerRequest) (next : Layer) (p : PlainPacket) → layer_outcome c is_full l request
    ≡ Accepted next (Some p) → is_full ≡ false
has_room c true l request next p found = absurd (subst (λ (o : LayerOutcome). PutsNone o) found (full_none c l request))
has_room c false l request next p found = refl
