-- A peer's channel between two restarts, whatever station it is: the calls within the handshake of CLEAR. ITU-T X.25
-- (10/96), sections 4.1.7 to 4.1.9.
use Rattle.std.specs.Prelude.{ℕ, suc, [], ◌∷◌}
use Rattle.x25_handshakes.specs.laws.Handshake.{Side, Live, Left, At, PeerStep, live, left}
use Rattle.x25_handshakes.specs.laws.Stretch.{Packet, Clear, ClearConf}
use Rattle.x25_handshakes.specs.laws.PeerCalls.{PeerCall, fresh_peer_call, CallDeed, MayDoCall, does_call}
use Rattle.x25_handshakes.specs.laws.PeerCalls.{call_packet_of, call_taking}
use Rattle.x25_bits.specs.declared.role.Role.{Role}

abbrev pub fresh_peer_channel : At PeerCall
fresh_peer_channel = live 0 fresh_peer_call

-- ---- what it sends by itself

pub data ChannelDeed : Type 0 where
  InCall : (deed : CallDeed) → ChannelDeed
  Clears : ChannelDeed

-- what belongs to the call, or CLEAR at any moment, in p1 too; and nothing while its CLEAR is out (section 4.1.7)
abbrev pub MayDoChannel : Side PeerCall → ChannelDeed → Type 0
MayDoChannel (Live y) (InCall d) = MayDoCall y.stage d
MayDoChannel (Live y) Clears = Unit {0}
MayDoChannel (Left y) d = ⊥

abbrev pub does_channel : ℕ → Side PeerCall → ChannelDeed → At PeerCall
does_channel e (Live y) (InCall d) = live e (does_call y.stage y.made y.indicated d)
does_channel e (Live y) Clears = left e y
does_channel e (Left y) d = left e y

abbrev pub channel_packet_of : Side PeerCall → ChannelDeed → Packet
channel_packet_of (Live y) (InCall d) = call_packet_of y.stage d
channel_packet_of (Live y) Clears = Clear
channel_packet_of (Left y) d = Clear

-- ---- what it makes of what comes

abbrev pub in_call : ℕ → PeerStep PeerCall Packet → PeerStep (At PeerCall) Packet
in_call e s = record { next = live e s.next; out = s.out }

-- it confirms CLEAR, and is in p1 again (section 4.1.8)
abbrev pub live_channel_taking : Role → ℕ → PeerCall → Packet → PeerStep (At PeerCall) Packet
live_channel_taking r e y Clear = record { next = live (suc e) fresh_peer_call; out = ClearConf ∷ [] }
live_channel_taking r e y p = in_call e (call_taking r y.stage y.made y.indicated p)

-- while its own CLEAR is out, CLEAR or its confirmation ends that, and all else is dropped (sections 4.1.7 and 4.1.9)
abbrev pub left_channel_taking : ℕ → PeerCall → Packet → PeerStep (At PeerCall) Packet
left_channel_taking e y Clear = record { next = live (suc e) fresh_peer_call; out = [] }
left_channel_taking e y ClearConf = record { next = live (suc e) fresh_peer_call; out = [] }
left_channel_taking e y p = record { next = left e y; out = [] }

abbrev pub channel_taking : Role → ℕ → Side PeerCall → Packet → PeerStep (At PeerCall) Packet
channel_taking r e (Live y) p = live_channel_taking r e y p
channel_taking r e (Left y) p = left_channel_taking e y p
