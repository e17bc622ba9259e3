-- A peer's packet layer, whatever station it is: its channels within the handshake of RESTART. ITU-T X.25 (10/96),
-- section 3.3.
use Rattle.std.specs.Prelude.{ℕ, suc, [], ◌∷◌, if◌then◌else◌, ◌==◌}
use Rattle.x25_handshakes.specs.laws.Handshake.{Side, Live, Left, At, PeerStep, live, left}
use Rattle.x25_handshakes.specs.laws.Layers.{LayerPacket, On, Restart, RestartConf, addressed}
use Rattle.x25_handshakes.specs.laws.PeerCalls.{PeerCall}
use Rattle.x25_handshakes.specs.laws.PeerChannel.{fresh_peer_channel, ChannelDeed, MayDoChannel, does_channel}
use Rattle.x25_handshakes.specs.{laws.PeerChannel.{channel_packet_of, channel_taking}, laws.Stretch.{Packet}}
use Rattle.x25_bits.specs.declared.role.Role.{Role}

-- the channels of a peer, by number
abbrev pub PeerChannels : Type 0
PeerChannels = ℕ → At PeerCall

abbrev pub put_peer : PeerChannels → ℕ → At PeerCall → PeerChannels
put_peer y h a k = if k == h then a else y k

abbrev pub peer_fresh : PeerChannels
peer_fresh h = fresh_peer_channel

-- ---- what it sends by itself

pub data LayerDeed : Type 0 where
  InChannel : (channel : ℕ) → (deed : ChannelDeed) → LayerDeed
  Restarts : LayerDeed

-- what belongs to a channel, or RESTART at any moment; and nothing while its RESTART is out (section 3.3.1)
abbrev pub MayDoLayer : Side PeerChannels → LayerDeed → Type 0
MayDoLayer (Live y) (InChannel h d) = MayDoChannel (y h).side d
MayDoLayer (Live y) Restarts = Unit {0}
MayDoLayer (Left y) d = ⊥

abbrev pub does_layer : ℕ → Side PeerChannels → LayerDeed → At PeerChannels
does_layer e (Live y) (InChannel h d) = live e (put_peer y h (does_channel (y h).epoch (y h).side d))
does_layer e (Live y) Restarts = left e y
does_layer e (Left y) d = left e y

abbrev pub layer_packet_of : Side PeerChannels → LayerDeed → LayerPacket
layer_packet_of (Live y) (InChannel h d) = On h (channel_packet_of (y h).side d)
layer_packet_of (Live y) Restarts = Restart
layer_packet_of (Left y) d = Restart

-- ---- what it makes of what comes

abbrev pub in_channel : ℕ → PeerChannels → ℕ → PeerStep (At PeerCall) Packet → PeerStep (At PeerChannels) LayerPacket
in_channel e y h s = record { next = live e (put_peer y h s.next); out = addressed h s.out }

-- it confirms RESTART, and all channels begin anew (section 3.3.2)
abbrev pub ready_taking : Role → ℕ → PeerChannels → LayerPacket → PeerStep (At PeerChannels) LayerPacket
ready_taking r e y (On h p) = in_channel e y h (channel_taking r (y h).epoch (y h).side p)
ready_taking r e y Restart = record { next = live (suc e) peer_fresh; out = RestartConf ∷ [] }
ready_taking r e y RestartConf = record { next = live e y; out = [] }

-- while its own RESTART is out, RESTART or its confirmation ends that, and all else is dropped (sections 3.3.1 and
-- 3.3.3)
abbrev pub restarting_taking : ℕ → PeerChannels → LayerPacket → PeerStep (At PeerChannels) LayerPacket
restarting_taking e y (On h p) = record { next = left e y; out = [] }
restarting_taking e y Restart = record { next = live (suc e) peer_fresh; out = [] }
restarting_taking e y RestartConf = record { next = live (suc e) peer_fresh; out = [] }

abbrev pub layer_taking : Role → ℕ → Side PeerChannels → LayerPacket → PeerStep (At PeerChannels) LayerPacket
layer_taking r e (Live y) p = ready_taking r e y p
layer_taking r e (Left y) p = restarting_taking e y p
