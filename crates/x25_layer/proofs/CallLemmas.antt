-- The calls of the user: the circuit of a channel is asked, and its packet goes on that channel.
use Rattle.x25_layer.proofs.Names.{◌≡◌, ◌⊎◌, inl, inr, ℕ, suc, ◌-◌, ◌<◌, ◌≤◌, List, [], length, Option, Some, None, Bool, true, false, nat_le, if◌then◌else◌}
use Rattle.x25_layer.proofs.Names.{get_or, set, refl, sym, ap, subst, ◌∙◌, arith, Result, Ok, Err, and_parts, PlainPacket, restart, Proposal, Circuit, Outcome}
use Rattle.x25_layer.proofs.Names.{Done, Refused, Request, Calls, Accepts, Sends, outcome, FitsCircuit, is_number, LayerError, LayerSettings, Layer, is_channel}
use Rattle.x25_layer.proofs.Names.{put_at, packet_on, is_ready, LayerRequest, Asks, Dials, Restarts, LayerOutcome, Accepted, Declined, free_channel}
use Rattle.x25_layer.proofs.Names.{puts_at_once, where_room, if_at_once, dialled, restarted_for, outcome_in, layer_outcome, outcome_on, FitsCircuits, FitsLayer}
use Rattle.x25_layer.proofs.Names.{leb-true, may_restart_for, plain_sent, CircuitError, Requested, with_circuit, declined_for, restarting_from, spelled, Gives}
use Rattle.std.proofs.{Common.{◌≢◌, OnOk, IsErrAnd}, Math.ListN.{length-set}}
use Rattle.x25_circuit.specs.Request.{refusal_of, asks_memory, may_ask_memory, AnswersRequest, MayPut}
use Rattle.x25_layer.proofs.FitLemmas.{read_at}
use Rattle.x25_layer.{proofs.PullLemmas.{fits_put, fits_same}, specs.Asking.{AsksCircuit, refusal_on}, specs.Calls.{asked_where}, specs.Error.{of_circuit}}
use Rattle.x25_layer.specs.{code.Answering.{Does, Answers}, declared.link_state.LinkState.{LinkState}}
use Rattle.x25_circuit.specs.declared.circuit.Circuit as circuit_code
use Rattle.x25_circuit.specs.declared.error.CircuitError.TheVariants as circuit_error
use Rattle.x25_layer.specs.declared.layer.Layer as code
use Rattle.x25_layer.specs.declared.error.LayerError.TheVariants as error

-- a channel's number is from 1 to their count
pub configured : (n h : ℕ) → is_number n h ≡ true → (1 ≤ h) × (h ≤ n)
configured n h is = (leb-true 1 h (and_parts (nat_le 1 h) (nat_le h n) is).0, leb-true h n (and_parts (nat_le 1 h) (nat_le h n) is).1)

-- the circuit that a look-up for a channel finds
pub found_at : (c : LayerSettings) (v : code.Layer) (l : Layer) (h place : ℕ) (x : circuit_code.Circuit) → FitsLayer c v l
    → is_number (length v.circuits.items) h ≡ true → place ≡ h → x ≡ get_or v.circuits.items (place - 1) x
    → (suc (place - 1) ≡ h) × FitsCircuit c.circuit x (l.circuits h)
found_at c v l h place x fits is same read =
    let within = configured (length v.circuits.items) h is in
    let at : suc (place - 1) ≡ h = omega (arith, within, same) in
    let low : place - 1 < length v.circuits.items = omega (arith, within, same) in
    (at, subst (λ (k : ℕ). FitsCircuit c.circuit x (l.circuits k)) at (fits.circuits (place - 1) x (read_at v.circuits.items (place - 1) x low read)))

-- ---- another circuit at one place

-- a layer, all else of which but its circuits is as it was
pub record IsLike (v v₂ : code.Layer) : Type 0 where
  pub role : v₂.role ≡ v.role
  pub long_data : v₂.long_data ≡ v.long_data
  pub ranges : v₂.ranges ≡ v.ranges
  pub restarting : v₂.restarting ≡ v.restarting
  pub restarts : v₂.restarts ≡ v.restarts

-- a layer whose circuits are as they were too
pub layer_same : (c : LayerSettings) (v v₂ : code.Layer) (l : Layer) → IsLike v v₂ → v₂.circuits.items ≡ v.circuits.items → FitsLayer c v l → FitsLayer c v₂ l
layer_same c v v₂ l like items fits = record {
  role = like.role ∙ fits.role;
  long_data = like.long_data ∙ fits.long_data;
  message = fits.message;
  ranges = like.ranges ∙ fits.ranges;
  channels = ap (λ (vs : List circuit_code.Circuit). length vs) items ∙ fits.channels;
  restarting = like.restarting ∙ fits.restarting;
  restarts = like.restarts ∙ fits.restarts;
  circuits = subst (λ (vs : List circuit_code.Circuit). FitsCircuits c vs l.circuits) (sym items) fits.circuits;
}

pub layer_put : (c : LayerSettings) (v v₂ : code.Layer) (l : Layer) (h : ℕ) (i : ℕ) (y : circuit_code.Circuit) (next : Circuit) → FitsLayer c v l → suc i ≡ h
    → IsLike v v₂ → v₂.circuits.items ≡ set v.circuits.items i y
    → FitsCircuit c.circuit y next → FitsLayer c v₂ (with_circuit l h next)
layer_put c v v₂ l h i y next fits at like items fit = record {
  role = like.role ∙ fits.role;
  long_data = like.long_data ∙ fits.long_data;
  message = fits.message;
  ranges = like.ranges ∙ fits.ranges;
  channels = ap (λ (vs : List circuit_code.Circuit). length vs) items ∙ length-set v.circuits.items i y ∙ fits.channels;
  restarting = like.restarting ∙ fits.restarting;
  restarts = like.restarts ∙ fits.restarts;
  circuits = subst (λ (vs : List circuit_code.Circuit). FitsCircuits c vs (put_at l.circuits h next)) (sym items)
      (subst (λ (k : ℕ). FitsCircuits c (set v.circuits.items i y) (put_at l.circuits k next)) at
      (fits_put c v.circuits.items l.circuits i y next fits.circuits fit));
}

pub layer_kept : (c : LayerSettings) (v v₂ : code.Layer) (l : Layer) (h i : ℕ) (y : circuit_code.Circuit) → FitsLayer c v l → suc i ≡ h → IsLike v v₂
    → v₂.circuits.items ≡ set v.circuits.items i y
    → FitsCircuit c.circuit y (l.circuits h) → FitsLayer c v₂ l
layer_kept c v v₂ l h i y fits at like items fit = record {
  role = like.role ∙ fits.role;
  long_data = like.long_data ∙ fits.long_data;
  message = fits.message;
  ranges = like.ranges ∙ fits.ranges;
  channels = ap (λ (vs : List circuit_code.Circuit). length vs) items ∙ length-set v.circuits.items i y ∙ fits.channels;
  restarting = like.restarting ∙ fits.restarting;
  restarts = like.restarts ∙ fits.restarts;
  circuits = subst (λ (vs : List circuit_code.Circuit). FitsCircuits c vs l.circuits) (sym items)
      (fits_same c v.circuits.items l.circuits i y fits.circuits (subst (λ (k : ℕ). FitsCircuit c.circuit y (l.circuits k)) (sym at) fit));
}

-- ---- what the circuit answers

pub asks_ok : (c : LayerSettings) (v v₂ : code.Layer) (l : Layer) (h i : ℕ) (y : circuit_code.Circuit) (packet : Option Requested) (o : Outcome)
    → FitsLayer c v l → suc i ≡ h → IsLike v v₂ → v₂.circuits.items ≡ set v.circuits.items i y
    → AnswersRequest c.circuit y (Ok packet) o → AsksCircuit c v₂ (Ok packet) l h o
asks_ok c v v₂ l h i y packet (Done next p) fits at like items a = (layer_put c v v₂ l h i y next fits at like items a.0, a.1)
asks_ok c v v₂ l h i y packet (Refused e) fits at like items a = cc

named : (e : CircuitError) → (e ≡ circuit_error.NoMemory → ⊥) → of_circuit e ≡ error.Circuit e
named circuit_error.NoMemory other = absurd (other refl)
named e other = refl

circuit_err_is : (e f : CircuitError) → ◌≡◌ {A = Result (Option Requested) CircuitError} (Err e) (Err f) → e ≡ f
circuit_err_is e f same = cc

some_is_none : (e : CircuitError) → refusal_of (Refused e) ≡ None → ⊥
some_is_none e is = cc

-- want of memory of the layer is that of its circuit
pub memory_is : (e : CircuitError) → of_circuit e ≡ error.NoMemory → e ≡ circuit_error.NoMemory
memory_is circuit_error.NoMemory is = refl
memory_is e is = absurd (cc)

pub asks_err : (c : LayerSettings) (v : code.Layer) (l : Layer) (h : ℕ) (y : circuit_code.Circuit) (e : CircuitError) (o : Outcome)
    → AnswersRequest c.circuit y (Err e) o → (e ≡ circuit_error.NoMemory → refusal_of o ≡ None)
    → AsksCircuit c v (Err (of_circuit e)) l h o
asks_err c v l h y e (Done next p) a accepted = ap of_circuit a
asks_err c v l h y e (Refused f) a accepted =
    let same : e ≡ f = circuit_err_is e f a in
    ap (λ (x : LayerError). Err x) (ap of_circuit same ∙ named f (λ none. some_is_none f (accepted (same ∙ none))))

-- the layer after an accepted call, before the pulls
pub record IsAccepted (c : LayerSettings) (v : code.Layer) (l : Layer) (h : ℕ) (packet : Option Requested) (o : Outcome) : Type 0 where
  pub next : Layer
  pub fits : FitsLayer c v next
  pub accepted : outcome_on l.restarts l.circuits h o ≡ Accepted next (packet_on h (plain_sent packet))

pub is_accepted : (c : LayerSettings) (v : code.Layer) (l : Layer) (h : ℕ) (packet : Option Requested) (o : Outcome) → l.restarting ≡ false
    → AsksCircuit c v (Ok packet) l h o → IsAccepted c v l h packet o
is_accepted c v l h packet (Done next p) ready a = record {
  next = is_ready l.restarts (put_at l.circuits h next);
  fits = subst (λ (b : Bool). FitsLayer c v (record { restarting = b; restarts = l.restarts; circuits = put_at l.circuits h next })) ready a.0;
  accepted = ap (λ (q : Option PlainPacket). Accepted (is_ready l.restarts (put_at l.circuits h next)) (packet_on h q)) (sym a.1);
}
is_accepted c v l h packet (Refused e) ready a = cc

-- what an accepted call of the circuit leaves, with its packet to be put
pub accepted : (T : Type 0) (u : T) (c : LayerSettings) (v v₂ : code.Layer) (l : Layer) (h : ℕ) (packet : Option Requested) (o : Outcome)
    → IsAccepted c v l h packet o → IsLike v v₂ → v₂.circuits.items ≡ v.circuits.items
    → v₂.sheet ≡ spelled (packet_on h (plain_sent packet)) → Gives c v₂ (Ok u) (outcome_on l.restarts l.circuits h o)
accepted T u c v v₂ l h packet o a like items put =
    subst (λ (r : LayerOutcome). Gives c v₂ (Ok u) r) (sym a.accepted) (layer_same c v v₂ a.next like items a.fits, put)

-- a message puts none at once
pub put_later : (request : Request) (h : ℕ) (packet : Option Requested) (octets : List ℕ) → MayPut request packet → octets
    ≡ spelled (packet_on h (plain_sent packet)) → puts_at_once request ≡ false → octets ≡ []
put_later (Sends marks user) h packet octets none put later = put ∙ ap (λ (o : Option Requested). spelled (packet_on h (plain_sent o))) none
put_later request h packet octets may put later = absurd (cc)

-- so that a link that is full only for what is put at once takes what is to be put
pub takes_it : (b full : Bool) (octets : List ℕ) → (b ≡ true → full ≡ false) → (b ≡ false → octets ≡ []) → (octets ≡ []) ⊎ (full ≡ false)
takes_it true full octets free later = inr (free refl)
takes_it false full octets free later = inl (later refl)

pub on_ok : {T E : Type 0} (r : Result T E) {P : Type 0} → P → OnOk r P
on_ok (Ok x) p = p
on_ok (Err e) p = tt

pub on_ok_then : {T E : Type 0} (r : Result T E) {P Q : Type 0} → (P → Q) → OnOk r P → OnOk r Q
on_ok_then (Ok x) by p = by p
on_ok_then (Err e) by p = tt

-- a refusal of the circuit is one of the layer, as it is handed on
pub declined : {T : Type 0} (r : Result T LayerError) (c : LayerSettings) (v v₂ : code.Layer) (l : Layer) (h : ℕ) (e : LayerError) (o : Outcome)
    → AsksCircuit c v (Err e) l h o → IsErrAnd r (λ f. f ≡ e)
    → Gives c v₂ r (outcome_on l.restarts l.circuits h o)
declined (Ok x) c v v₂ l h e o a is = absurd is
declined (Err f) c v v₂ l h e (Done next p) a is = is ∙ a
declined (Err f) c v v₂ l h e (Refused d) a is = cc

-- a refusal of the circuit, as one of the layer
pub refused_on : (o : Outcome) (e : CircuitError) → Some e ≡ refusal_of o → Some (error.Circuit e) ≡ refusal_on o
refused_on (Done next p) e is = cc
refused_on (Refused f) e is = cc

pub accepted_on : (o : Outcome) → None ≡ refusal_of o → None ≡ refusal_on o
accepted_on (Done next p) is = refl
accepted_on (Refused f) is = cc

-- what the circuit refuses the layer does
pub refusal_goes : (restarts : ℕ) (circuits : ℕ → Circuit) (h : ℕ) (o : Outcome) → refusal_on o ≡ declined_for (outcome_on restarts circuits h o)
refusal_goes restarts circuits h (Done next p) = refl
refusal_goes restarts circuits h (Refused e) = refl

-- ---- a call with a channel

-- where nothing of the link or layer refuses it, the circuit of the channel is asked
pub asked_goes : (c : LayerSettings) (is_up is_full : Bool) (l : Layer) (h : ℕ) (request : Request) → is_up ≡ true → l.restarting ≡ false
    → is_channel c.channels h ≡ true → (puts_at_once request ≡ true → is_full ≡ false)
    → asked_where c is_up is_full l (Asks h request) ≡ outcome_on l.restarts l.circuits h (outcome c.circuit (l.circuits h) request)
asked_goes c is_up is_full l h request up ready is free =
    ap (λ (b : Bool). if b then layer_outcome c is_full l (Asks h request) else Declined error.NotUp) up
    ∙ ap (λ (b : Bool). outcome_in c is_full b l.restarts l.circuits (Asks h request)) ready
    ∙ ap (λ (b : Bool). if b then if_at_once (puts_at_once request) is_full good else Declined error.NoSuchChannel) is
    ∙ at_once (puts_at_once request) refl
  where
    good : LayerOutcome
    good = outcome_on l.restarts l.circuits h (outcome c.circuit (l.circuits h) request)

    at_once : (b : Bool) → puts_at_once request ≡ b → if_at_once b is_full good ≡ good
    at_once true puts = ap (λ (b : Bool). where_room b good) (free puts)
    at_once false puts = refl

-- ---- a new call

-- where nothing of the link or layer refuses it, the circuit of the free channel is asked
pub dial_goes : (c : LayerSettings) (is_up is_full : Bool) (l : Layer) (called calling user : List ℕ) (proposal : Proposal) (h : ℕ) → is_up ≡ true
    → l.restarting ≡ false → free_channel c.circuit.role l.circuits c.channels ≡ Some h
    → is_full ≡ false → asked_where c is_up is_full l (Dials called calling user proposal)
    ≡ outcome_on l.restarts l.circuits h (outcome c.circuit (l.circuits h) (Calls called calling user proposal))
dial_goes c is_up is_full l called calling user proposal h up ready is free =
    ap (λ (b : Bool). if b then layer_outcome c is_full l (Dials called calling user proposal) else Declined error.NotUp) up
    ∙ ap (λ (b : Bool). outcome_in c is_full b l.restarts l.circuits (Dials called calling user proposal)) ready
    ∙ ap (λ (o : Option ℕ). dialled c is_full l.restarts l.circuits o called calling user proposal) is
    ∙ ap (λ (b : Bool). where_room b (outcome_on l.restarts l.circuits h (outcome c.circuit (l.circuits h) (Calls called calling user proposal)))) free

-- ---- a restart

pub restart_goes : (c : LayerSettings) (is_up is_full : Bool) (l : Layer) (cause diagnostic : ℕ) (b : Bool) → is_up ≡ true → l.restarting ≡ false → is_full
    ≡ false → may_restart_for c.circuit.role cause ≡ b
    → asked_where c is_up is_full l (Restarts cause diagnostic)
    ≡ (if b then Accepted (restarting_from l.restarts l.circuits) (Some (restart cause diagnostic)) else Declined (error.Circuit circuit_error.BadParameter))
restart_goes c is_up is_full l cause diagnostic b up ready free given =
    ap (λ (a : Bool). if a then layer_outcome c is_full l (Restarts cause diagnostic) else Declined error.NotUp) up
    ∙ ap (λ (a : Bool). outcome_in c is_full a l.restarts l.circuits (Restarts cause diagnostic)) ready
    ∙ ap (λ (a : Bool). where_room a (restarted_for c.circuit.role l.restarts l.circuits cause diagnostic)) free
    ∙ ap (λ (a : Bool). if a then Accepted (restarting_from l.restarts l.circuits) (Some (restart cause diagnostic))
    else Declined (error.Circuit circuit_error.BadParameter)) given

pub restart_full : (c : LayerSettings) (is_up is_full : Bool) (l : Layer) (cause diagnostic : ℕ) → is_up ≡ true → l.restarting ≡ false → is_full ≡ true
    → asked_where c is_up is_full l (Restarts cause diagnostic) ≡ Declined error.QueueFull
restart_full c is_up is_full l cause diagnostic up ready full =
    ap (λ (a : Bool). if a then layer_outcome c is_full l (Restarts cause diagnostic) else Declined error.NotUp) up
    ∙ ap (λ (a : Bool). outcome_in c is_full a l.restarts l.circuits (Restarts cause diagnostic)) ready
    ∙ ap (λ (a : Bool). where_room a (restarted_for c.circuit.role l.restarts l.circuits cause diagnostic)) full

pub err_is : {T : Type 0} (e f : LayerError) → ◌≡◌ {A = Result T LayerError} (Err e) (Err f) → e ≡ f
err_is e f same = cc

-- a refusal answers no channel either
pub dial_err : (c : LayerSettings) (v : code.Layer) (e : LayerError) (o : LayerOutcome) → Gives {T = Unit {0}} c v (Err e) o → Gives {T = ℕ} c v (Err e) o
dial_err c v e (Accepted next packet) g = g
dial_err c v e (Declined f) g = ap (λ (x : LayerError). Err x) (err_is e f g)

-- nor an acceptance what it is
pub dial_ok : (c : LayerSettings) (v : code.Layer) (h : ℕ) (o : LayerOutcome) → Gives {T = Unit {0}} c v (Ok tt) o → Gives {T = ℕ} c v (Ok h) o
dial_ok c v h (Accepted next packet) g = g
dial_ok c v h (Declined f) g = cc

-- an error that is handed on
pub same_err : {T : Type 0} (r : Result T LayerError) (e f : LayerError) → IsErrAnd r (λ x. x ≡ e) → r ≡ Err f → e ≡ f
same_err (Ok x) e f is same = absurd is
same_err (Err g) e f is same = sym is ∙ err_is g f same

-- ---- where memory may be missing

-- what one circuit asks memory for
pub asks_some : (v : circuit_code.Circuit) (request : Request) → asks_memory v request ≡ true → may_ask_memory request ≡ true
asks_some v (Sends q user) asks = refl
asks_some v (Calls called calling user proposal) asks = refl
asks_some v (Accepts answer) asks = refl
asks_some v request asks = absurd (cc)

-- ---- a refusal that is known before anything is done

pub refuses_all : (T : Type 0) (v : code.Layer) (e : LayerError) (asks : Bool) (said : LayerSettings → Layer → LayerOutcome) → e ≢ error.NoMemory
    → ((c : LayerSettings) (l : Layer) → FitsLayer c v l → said c l ≡ Declined e)
    → Does {T = T} v v (Err e) asks said
refuses_all T v e asks said named is = record {
  gives = λ c l fits. subst (λ (o : LayerOutcome). Gives {T = T} c v (Err e) o) (sym (is c l fits)) refl;
  stays = λ c l fits. fits;
  short = tt;
  missing = λ none. absurd (named (err_is e error.NoMemory none));
}

-- a request that is refused with this error changes nothing
pub refuses : (T : Type 0) (v : code.Layer) (e : LayerError) (link : LinkState) (request : LayerRequest) → e ≢ error.NoMemory
    → ((c : LayerSettings) (l : Layer) → FitsLayer c v l → asked_where c link.is_up link.is_full l request ≡ Declined e)
    → Answers {T = T} v v (Err e) link request
refuses T v e link request named is = record { does = refuses_all T v e _ _ named is; up = tt; free = tt }
