-- What a reply says, as values alone, and that it is the answer of the table.
use Rattle.std.specs.Prelude.{◌≡◌, ℕ, Bool, true, false, List, [], ◌∷◌, Option, Some, None, Result, Ok, Err}
use Rattle.x25_packet.specs.Views.{called_of, calling_of, user_of}
use Rattle.x25_packet.specs.declared.packet.Packet.{Packet}
use Rattle.x25_packet.specs.declared.error.PacketError.{PacketError}
use Rattle.x25_packet.specs.Packet.{PlainPacket, plain}
use Rattle.x25_packet.specs.Spelling.{IsInRange}
use Rattle.x25_circuit.specs.declared.circuit.Circuit as circuit
use Rattle.x25_circuit.specs.declared.notice.Notice.{Notice}
use Rattle.x25_circuit.specs.declared.notice.Notice.TheVariants as code
use Rattle.x25_circuit.specs.declared.notice.Reply.{Reply}
use Rattle.x25_circuit.specs.declared.requested.Requested.{Requested}
use Rattle.x25_circuit.specs.declared.owed.Owed.{Owed}
pub use Rattle.x25_circuit.specs.code.Owed.{packet_owed, plain_requested}
use Rattle.x25_circuit.specs.Circuit.{CircuitSettings, Circuit}
use Rattle.x25_circuit.specs.Hearing.{Answer}
use Rattle.x25_circuit.specs.code.FitsCircuit.{FitsCircuit, user_octets}
use Rattle.x25_circuit.specs.Notice.{PlainNotice, incoming, connected, collided, cleared, clear_done, was_reset}
use Rattle.x25_circuit.specs.Notice.{reset_done, delivered, interrupted, interrupt_done, fault}

-- a notice, where the octets of a message are these
abbrev pub plain_notice : List ℕ → Notice → PlainNotice
plain_notice message (code.Incoming a params body) = incoming (record {
  called = called_of a body.now;
  calling = calling_of a body.now;
  user = user_of a body.now;
  params = params;
})
plain_notice message (code.Connected params) = connected params
plain_notice message (code.Cleared cause diagnostic) = cleared cause diagnostic
plain_notice message code.ClearDone = clear_done
plain_notice message (code.WasReset cause diagnostic) = was_reset cause diagnostic
plain_notice message code.ResetDone = reset_done
plain_notice message (code.Delivered marks) = delivered (record { marks = marks; user = message })
plain_notice message (code.Interrupted user) = interrupted user.now
plain_notice message code.InterruptDone = interrupt_done
plain_notice message (code.Fault diagnostic) = fault diagnostic

-- whether it tells a message
abbrev pub is_message : Notice → Bool
is_message (code.Delivered marks) = true
is_message notice = false

abbrev pub tells_message : Option Notice → Bool
tells_message None = false
tells_message (Some notice) = is_message notice

abbrev pub plain_notices : List ℕ → Option Notice → List PlainNotice
plain_notices message None = []
plain_notices message (Some notice) = plain_notice message notice ∷ []

-- a call of this end that was dropped is told first
abbrev pub notices_of : List ℕ → Bool → Option Notice → List PlainNotice
notices_of message true notice = collided ∷ plain_notices message notice
notices_of message false notice = plain_notices message notice

-- what octets were read as
abbrev pub plain_read : Result Packet PacketError → Result PlainPacket PacketError
plain_read (Ok packet) = Ok (plain packet)
plain_read (Err e) = Err e

-- what a request of the user sends, where it sends a packet
abbrev pub plain_sent : Option Requested → Option PlainPacket
plain_sent None = None
plain_sent (Some packet) = Some (plain_requested packet)

-- what is owed, where something is, on channel 1
abbrev pub plain_owed : Option Owed → Option PlainPacket
plain_owed None = None
plain_owed (Some owed) = Some (packet_owed 1 owed)

-- the packet, where there is one, can be spelled
abbrev pub IsSendable : Option PlainPacket → Type 0
IsSendable None = Unit {0}
IsSendable (Some packet) = IsInRange 128 packet

-- where there is one, it brings no user data for a message
abbrev pub IsControl : Option PlainPacket → Type 0
IsControl None = Unit {0}
IsControl (Some packet) = user_octets packet ≡ []

-- the reply says these, where the octets of a message are those before them
pub record Says (message : List ℕ) (reply : Reply) (packet : Option PlainPacket) (told : List PlainNotice)
    : Type 0 where
  pub owed : plain_owed reply.packet ≡ packet
  pub notices : notices_of message reply.collided reply.notice ≡ told

-- ---- a packet that came

-- It is answered so, by a packet that can be spelled, and no message is told.
pub record RepliesBy (old new : circuit.Circuit) (reply : Reply)
    (said : CircuitSettings → Circuit → Answer) : Type 0 where
  pub next : (c : CircuitSettings) (x : Circuit) → FitsCircuit c old x → FitsCircuit c new (said c x).next
  pub says : (c : CircuitSettings) (x : Circuit) → FitsCircuit c old x
      → Says [] reply (said c x).owed (said c x).notices
  pub range : IsSendable (plain_owed reply.packet)
  pub told : tells_message reply.notice ≡ false

-- It is answered so, where the octets of a message were these and are those behind them: where none is told they are as
-- they were.
pub record RepliesWith (old new : circuit.Circuit) (reply : Reply) (before after : List ℕ)
    (said : CircuitSettings → Circuit → Answer)
    : Type 0 where
  pub next : (c : CircuitSettings) (x : Circuit) → FitsCircuit c old x → FitsCircuit c new (said c x).next
  pub says : (c : CircuitSettings) (x : Circuit) → FitsCircuit c old x
      → Says after reply (said c x).owed (said c x).notices
  pub range : IsSendable (plain_owed reply.packet)
  pub kept : tells_message reply.notice ≡ false → after ≡ before
