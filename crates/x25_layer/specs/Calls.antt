-- The calls of the user of a layer, their refusals in order (profile), and the channel that a new call takes.
use Rattle.std.specs.Prelude.{ℕ, zero, suc, List, Option, Some, None, Bool, true, false, if◌then◌else◌}
use Rattle.x25_bits.specs.declared.role.Role.{Role}
use Rattle.x25_bits.specs.declared.role.Role.TheVariants.{Dte, Dce}
use Rattle.x25_packet.specs.Packet.{PlainPacket, restart}
use Rattle.x25_circuit.specs.Params.{Proposal}
use Rattle.x25_circuit.specs.Circuit.{Circuit, is_free}
use Rattle.x25_circuit.specs.declared.error.CircuitError.TheVariants as circuit_error
use Rattle.x25_circuit.specs.Cause.{may_restart_for}
use Rattle.x25_circuit.specs.Calling.{Outcome, Done, Refused, Request, Calls, Sends, outcome, Pulled, pulled}
use Rattle.x25_circuit.specs.Request.{may_ask_memory}
use Rattle.x25_layer.specs.declared.error.LayerError.{LayerError}
use Rattle.x25_layer.specs.declared.error.LayerError.TheVariants as error
use Rattle.x25_layer.specs.declared.ranges.Ranges.{Ranges}
use Rattle.x25_layer.specs.Ranges.{may_call}
use Rattle.x25_layer.specs.Layer.{LayerSettings, Layer, is_channel, put_at, packet_on, is_ready, restarting_from}

-- a call of a circuit on a channel; a new call, which takes a free channel, with the packet sizes and windows that it
-- proposes; a restart, with a cause and a diagnostic; and that the data packets which wait be pulled, which puts no
-- packet of its own
pub data LayerRequest : Type 0 where
  Asks : (channel : ℕ) → (request : Request) → LayerRequest
  Dials : (called : List ℕ) → (calling : List ℕ) → (user : List ℕ) → (proposal : Proposal) → LayerRequest
  Restarts : (cause : ℕ) → (diagnostic : ℕ) → LayerRequest
  PullsAll : LayerRequest

-- the layer after the call, and the packet to send, where there is one; or why it is refused
pub data LayerOutcome : Type 0 where
  Accepted : (next : Layer) → (packet : Option PlainPacket) → LayerOutcome
  Declined : (error : LayerError) → LayerOutcome

-- the lowest free channel of those up to a number
abbrev pub first_of : Option ℕ → Bool → ℕ → Option ℕ
first_of (Some k) free h = Some k
first_of None free h = if free then Some h else None

abbrev pub lowest_free : (ℕ → Circuit) → ℕ → Option ℕ
lowest_free circuits zero = None
lowest_free circuits (suc n) = first_of (lowest_free circuits n) (is_free (circuits (suc n))) (suc n)

-- the highest free channel of those up to a number
abbrev pub highest_free : (ℕ → Circuit) → ℕ → Option ℕ
highest_free circuits zero = None
highest_free circuits (suc n) = if is_free (circuits (suc n)) then Some (suc n) else highest_free circuits n

-- A DTE calls on the highest free channel and a DCE on the lowest (sections 4.1.2 and 4.1.3), so that they seldom
-- collide.
abbrev pub first_free : Role → (ℕ → Circuit) → ℕ → Option ℕ
first_free Dte circuits n = highest_free circuits n
first_free Dce circuits n = lowest_free circuits n

abbrev pub where_callable : Role → Ranges → Option ℕ → Option ℕ
where_callable role channels None = None
where_callable role channels (Some h) = if may_call role channels h then Some h else None

-- where that one is kept for calls of the other end (Annex A), all that are free are
abbrev pub free_channel : Role → (ℕ → Circuit) → Ranges → Option ℕ
free_channel role circuits channels = where_callable role channels (first_free role circuits channels.count)

-- a message puts no packet at once, so a full queue doesn't refuse it
abbrev pub puts_at_once : Request → Bool
puts_at_once (Sends marks user) = false
puts_at_once request = true

-- whether memory may be asked for it in a circuit
abbrev pub asks_memory : LayerRequest → Bool
asks_memory (Asks h request) = may_ask_memory request
asks_memory (Dials called calling user proposal) = true
asks_memory request = false

abbrev pub where_room : Bool → LayerOutcome → LayerOutcome
where_room true good = Declined error.QueueFull
where_room false good = good

abbrev pub if_at_once : Bool → Bool → LayerOutcome → LayerOutcome
if_at_once true is_full good = where_room is_full good
if_at_once false is_full good = good

-- the circuit of a channel does what is asked; the others are as they were
abbrev pub outcome_on : ℕ → (ℕ → Circuit) → ℕ → Outcome → LayerOutcome
outcome_on restarts circuits h (Done next packet) = Accepted (is_ready restarts (put_at circuits h next))
    (packet_on h packet)
outcome_on restarts circuits h (Refused e) = Declined (error.Circuit e)

abbrev pub dialled : LayerSettings → Bool → ℕ → (ℕ → Circuit) → Option ℕ → List ℕ → List ℕ → List ℕ → Proposal
    → LayerOutcome
dialled c is_full restarts circuits None called calling user proposal = Declined error.NoFreeChannel
dialled c is_full restarts circuits (Some h) called calling user proposal =
    where_room is_full (outcome_on restarts circuits h
    (outcome c.circuit (circuits h) (Calls called calling user proposal)))

abbrev pub restarted_for : Role → ℕ → (ℕ → Circuit) → ℕ → ℕ → LayerOutcome
restarted_for role restarts circuits cause diagnostic =
    if may_restart_for role cause
    then Accepted (restarting_from restarts circuits) (Some (restart cause diagnostic))
    else Declined (error.Circuit circuit_error.BadParameter)

abbrev pub outcome_ready : LayerSettings → Bool → ℕ → (ℕ → Circuit) → LayerRequest → LayerOutcome
outcome_ready c is_full restarts circuits (Asks h request) =
    if is_channel c.channels h
    then if_at_once (puts_at_once request) is_full
    (outcome_on restarts circuits h (outcome c.circuit (circuits h) request))
    else Declined error.NoSuchChannel
outcome_ready c is_full restarts circuits (Dials called calling user proposal) =
    dialled c is_full restarts circuits (free_channel c.circuit.role circuits c.channels) called calling user proposal
outcome_ready c is_full restarts circuits (Restarts cause diagnostic) = where_room is_full
    (restarted_for c.circuit.role restarts circuits cause diagnostic)
outcome_ready c is_full restarts circuits PullsAll = Accepted (is_ready restarts circuits) None

abbrev pub outcome_in : LayerSettings → Bool → Bool → ℕ → (ℕ → Circuit) → LayerRequest → LayerOutcome
outcome_in c is_full true restarts circuits request = Declined error.Restarting
outcome_in c is_full false restarts circuits request = outcome_ready c is_full restarts circuits request

-- where the link is up; the test says whether 256 packets wait
abbrev pub layer_outcome : LayerSettings → Bool → Layer → LayerRequest → LayerOutcome
layer_outcome c is_full l request = outcome_in c is_full l.restarting l.restarts l.circuits request

-- refused with 9 where the link isn't up
abbrev pub asked_where : LayerSettings → Bool → Bool → Layer → LayerRequest → LayerOutcome
asked_where c is_up is_full l request = if is_up then layer_outcome c is_full l request else Declined error.NotUp

-- why it is refused, if it is
abbrev pub declined_for : LayerOutcome → Option LayerError
declined_for (Accepted next packet) = None
declined_for (Declined e) = Some e

-- ---- the next data packet of a channel

pub record LayerPulled : Type 0 where
  pub next : Layer
  pub packet : Option PlainPacket

abbrev pub pulled_on : Layer → ℕ → Pulled → LayerPulled
pulled_on l h p = record {
  next = record {
    restarting = l.restarting;
    restarts = l.restarts;
    circuits = put_at l.circuits h p.next;
  };
  packet = packet_on h p.packet;
}

abbrev pub layer_pulled : LayerSettings → Layer → ℕ → LayerPulled
layer_pulled c l h = pulled_on l h (pulled c.circuit (l.circuits h))
