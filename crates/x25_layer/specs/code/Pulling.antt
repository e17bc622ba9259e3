-- A step in the search for the next data packet.
use Rattle.std.specs.Prelude.{◌≡◌, ℕ, ◌<◌, ◌≤◌, List, length, Option, Some, None, Bool, true, false}
use Rattle.x25_packet.specs.Packet.{PlainPacket}
use Rattle.x25_packet.specs.Spelling.{spelling_of}
use Rattle.x25_circuit.specs.declared.circuit.Circuit as circuit_code
use Rattle.x25_circuit.specs.Circuit.{CircuitSettings, Circuit}
use Rattle.x25_circuit.specs.Calling.{pulled}
use Rattle.x25_circuit.specs.code.FitsCircuit.{FitsCircuit, clears_of, resets_of}
use Rattle.x25_layer.specs.Layer.{LayerSettings, packet_on, put_at}
use Rattle.x25_layer.specs.code.FitsLayer.{FitsCircuits}

-- these octets, which are to be put, spell the packet, or it is known that there is none
abbrev pub IsPut : Bool → List ℕ → Option PlainPacket → Type 0
IsPut true octets None = ⊥
IsPut true octets (Some packet) = octets ≡ spelling_of packet
IsPut false octets packet = packet ≡ None

-- The next data packet of a circuit is to be put, where it may send one.
pub record PullsOne (channel : ℕ) (old new : circuit_code.Circuit) (sheet : List ℕ) (is_put : Bool) : Type 0 where
  pub next : (c : CircuitSettings) (x : Circuit) → FitsCircuit c old x → FitsCircuit c new (pulled c x).next
  pub put : (c : CircuitSettings) (x : Circuit) → FitsCircuit c old x
      → IsPut is_put sheet (packet_on channel (pulled c x).packet)
  pub long : is_put ≡ true → length sheet ≤ 4099
  pub clears : clears_of new ≡ clears_of old
  pub resets : resets_of new ≡ resets_of old

-- the next data packet of the circuit of a channel
abbrev pub next_packet : LayerSettings → (ℕ → Circuit) → ℕ → Option PlainPacket
next_packet c f k = packet_on k (pulled c.circuit (f k)).packet

-- the packet of this channel is the next
pub record GoesTo (c : LayerSettings) (f : ℕ → Circuit) (vs : List circuit_code.Circuit) (sheet : List ℕ)
    (behind channel : ℕ) : Type 0 where
  pub between : (k : ℕ) → behind < k → k < channel → next_packet c f k ≡ None
  pub circuits : FitsCircuits c vs (put_at f channel (pulled c.circuit (f channel)).next)
  pub put : IsPut true sheet (next_packet c f channel)

-- there is none
pub record GoesNowhere (c : LayerSettings) (f : ℕ → Circuit) (vs : List circuit_code.Circuit) (behind : ℕ)
    : Type 0 where
  pub between : (k : ℕ) → behind < k → k ≤ length vs → next_packet c f k ≡ None
  pub circuits : FitsCircuits c vs f
