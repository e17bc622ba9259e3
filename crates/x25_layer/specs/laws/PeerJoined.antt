-- A layer over a link that keeps order, and any peer that keeps the rules of `PeerLayer` and those below it
-- (docs/PEER.md), from the link's set-up on, as long as it is up.
use Rattle.std.specs.Prelude.{◌≡◌, List, [], ◌∷◌, ◌++◌, Bool, true}
use Rattle.x25_bits.specs.declared.role.Role.{Role}
use Rattle.x25_packet.specs.Packet.{PlainPacket}
use Rattle.x25_packet.specs.Spelling.{channel_of, HasChannel}
use Rattle.x25_handshakes.specs.laws.Handshake.{Live, At, PeerStep, live}
use Rattle.x25_handshakes.specs.laws.Layers.{On, LayerPacket}
use Rattle.x25_handshakes.specs.laws.PeerLayer.{PeerChannels, peer_fresh, LayerDeed, MayDoLayer, does_layer}
use Rattle.x25_handshakes.specs.laws.PeerLayer.{layer_packet_of, layer_taking, ready_taking}
use Rattle.x25_handshakes.specs.laws.PeerLayers.{other_role, AreElsewhere}
use Rattle.x25_layer.specs.declared.ranges.Ranges.{Ranges}
use Rattle.x25_layer.specs.Layer.{is_channel, goes_up}
use Rattle.x25_layer.specs.laws.Bare.{bare, bare_layer, bare_layers}
use Rattle.x25_layer.specs.laws.TwoLayers.{End, TwoLayers, Move, GoesDown, moves, started}
use Rattle.x25_layer.specs.laws.TwoLayers.{settings_of}

-- The end of our layer, the peer, and the packets in flight from our layer and to it.
pub record PeerJoined : Type 0 where
  pub near : End
  pub peer : At PeerChannels
  pub out : List PlainPacket
  pub back : List PlainPacket

-- the link has come up, and our layer has sent its RESTART
abbrev pub start : Role → Bool → Ranges → PeerJoined
start r long_data channels =
    let near = started (goes_up (settings_of r long_data channels)) in
    record { near = near; peer = live 0 peer_fresh; out = near.given; back = [] }

-- our layer's end, as two layers have it: a move of the near end changes nothing of the far one
abbrev pub our_end : PeerJoined → TwoLayers
our_end w = record { near = w.near; far = w.near; out = w.out; back = w.back }

abbrev pub with_peer : At PeerChannels → TwoLayers → PeerJoined
with_peer y v = record { near = v.near; peer = y; out = v.out; back = v.back }

-- a packet is of a channel that our layer has, or of none
abbrev pub IsConfigured : Ranges → PlainPacket → Type 0
IsConfigured channels p = HasChannel p → is_channel channels (channel_of p) ≡ true

abbrev pub AreConfigured : Ranges → List PlainPacket → Type 0
AreConfigured channels [] = Unit {0}
AreConfigured channels (p ∷ ps) = IsConfigured channels p × AreConfigured channels ps

-- these packets are what the peer's step puts
pub record Answers (channels : Ranges) (packets : List PlainPacket)
    (s : PeerStep (At PeerChannels) LayerPacket) : Type 0 where
  pub are : bare_layers channels.message packets ≡ s.out
  pub configured : AreConfigured channels packets

-- What the peer may do, as it stands, with these packets in flight to it: how it stands then, which are left, and what
-- it puts. Causes, diagnostics, addresses and user data of what it sends are free.
pub data PeerMoves (r : Role) (channels : Ranges) (x : At PeerChannels) (out : List PlainPacket) : At PeerChannels
    → List PlainPacket → List PlainPacket → Type 0 where
  -- it sends a packet
  Does : (deed : LayerDeed) (p : PlainPacket) → MayDoLayer x.side deed
      → bare_layer channels.message p ≡ layer_packet_of x.side deed → IsConfigured channels p
      → PeerMoves r channels x out (does_layer x.epoch x.side deed) out (p ∷ [])
  -- it takes the packet in front
  Hears : (p : PlainPacket) (rest packets : List PlainPacket) → out ≡ p ∷ rest
      → Answers channels packets (layer_taking (other_role r) x.epoch x.side (bare_layer channels.message p))
      → PeerMoves r channels x out (layer_taking (other_role r) x.epoch x.side (bare_layer channels.message p)).next
      rest packets
  -- it takes the first packet of a channel before those of other channels that stand in front of it
  HearsChannel : (y : PeerChannels) (passed : List PlainPacket) (p : PlainPacket) (rest packets : List PlainPacket)
      → x.side ≡ Live y → HasChannel p → AreElsewhere (channel_of p) (bare_layers channels.message passed)
      → out ≡ passed ++ p ∷ rest
      → Answers channels packets (ready_taking (other_role r) x.epoch y
      (On (channel_of p) (bare channels.message p)))
      → PeerMoves r channels x out (ready_taking (other_role r) x.epoch y
      (On (channel_of p) (bare channels.message p))).next (passed ++ rest) packets

abbrev pub StaysUp : Move → Type 0
StaysUp GoesDown = ⊥
StaysUp other = Unit {0}

-- what may happen next
pub data Happens (r : Role) (long_data : Bool) (channels : Ranges) (w : PeerJoined) : PeerJoined → Type 0 where
  -- our layer acts, by the definition that it meets call by call: a call of the user, a pull, a packet handed up
  Ours : (move : Move) → StaysUp move
      → Happens r long_data channels w (with_peer w.peer (moves (settings_of r long_data channels) (our_end w) move))
  Theirs : (y : At PeerChannels) (out packets : List PlainPacket) → PeerMoves r channels w.peer w.out y out packets
      → Happens r long_data channels w (record w { peer = y; out = out; back = w.back ++ packets })

-- what is reached, event by event
pub data IsReached (r : Role) (long_data : Bool) (channels : Ranges) : PeerJoined → Type 0 where
  at_start : IsReached r long_data channels (start r long_data channels)
  goes_on : (w v : PeerJoined) → IsReached r long_data channels w → Happens r long_data channels w v
      → IsReached r long_data channels v
