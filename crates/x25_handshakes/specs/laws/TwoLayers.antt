-- Any two packet layers, over lines that keep order, from the links' set-up on, as long as both are up: both keep the
-- rules of a peer.
use Rattle.std.specs.Prelude.{◌≡◌, ℕ, List, [], ◌∷◌, ◌++◌}
use Rattle.x25_bits.specs.declared.role.Role.{Role}
use Rattle.x25_handshakes.specs.{laws.Handshake.{Live, Two, swapped, live}, laws.Histories.{IsPrefix}}
use Rattle.x25_handshakes.specs.{laws.Layers.{LayerPacket, On}, laws.Stretch.{Packet}}
use Rattle.x25_handshakes.specs.{laws.PeerStretch.{fresh_peer}, laws.PeerCalls.{PeerCall, fresh_peer_call}}
use Rattle.x25_handshakes.specs.laws.PeerLayer.{PeerChannels, peer_fresh, LayerDeed, MayDoLayer, does_layer}
use Rattle.x25_handshakes.specs.laws.PeerLayer.{layer_packet_of, layer_taking, ready_taking}
use Rattle.x25_handshakes.specs.{laws.PeerLayers.{other_role, AreElsewhere}, laws.TwoPeers.{BothInOrder}}
use Rattle.x25_handshakes.specs.laws.PeerClaims.{InEpochs, peer_transfer_of}

abbrev pub TwoEnds : Type 0
TwoEnds = Two PeerChannels LayerPacket

-- the links were just set up; either may send RESTART
abbrev pub start : TwoEnds
start = record { near = live 0 peer_fresh; far = live 0 peer_fresh; out = []; back = [] }

-- What the near end may do, in this role.
pub data Moves (r : Role) (w : TwoEnds) : TwoEnds → Type 0 where
  -- it sends a packet
  Does : (deed : LayerDeed) → MayDoLayer w.near.side deed
      → Moves r w (record w {
        near = does_layer w.near.epoch w.near.side deed;
        out = w.out ++ layer_packet_of w.near.side deed ∷ [];
      })
  -- it takes the packet in front
  Hears : (p : LayerPacket) (rest : List LayerPacket) → w.back ≡ p ∷ rest
      → Moves r w (record w {
        near = (layer_taking r w.near.epoch w.near.side p).next;
        out = w.out ++ (layer_taking r w.near.epoch w.near.side p).out;
        back = rest;
      })
  -- it takes the first packet of a channel before those of other channels that stand in front of it
  HearsChannel : (x : PeerChannels) (h : ℕ) (passed : List LayerPacket) (p : Packet) (rest : List LayerPacket)
      → w.near.side ≡ Live x → AreElsewhere h passed → w.back ≡ passed ++ On h p ∷ rest
      → Moves r w (record w {
        near = (ready_taking r w.near.epoch x (On h p)).next;
        out = w.out ++ (ready_taking r w.near.epoch x (On h p)).out;
        back = passed ++ rest;
      })

-- what is reached, where the near end has this role
pub data IsReached (r : Role) : TwoEnds → Type 0 where
  at_start : IsReached r start
  near_moves : (w v : TwoEnds) → IsReached r w → Moves r w v → IsReached r v
  far_moves : (w v : TwoEnds) → IsReached r w → Moves (other_role r) (swapped w) v → IsReached r (swapped v)

-- ---- what holds of them

-- between two clears: what is indicated at the one was made at the other, and what is in p4
pub record CallsInOrder (x y : PeerCall) : Type 0 where
  pub up : IsPrefix x.indicated y.made
  pub there : IsPrefix y.indicated x.made
  pub stretches : InEpochs BothInOrder fresh_peer fresh_peer (peer_transfer_of x.stage) (peer_transfer_of y.stage)

-- between two restarts: each channel
abbrev pub ChannelsInOrder : PeerChannels → PeerChannels → Type 0
ChannelsInOrder x y = (h : ℕ) → InEpochs CallsInOrder fresh_peer_call fresh_peer_call (x h) (y h)

abbrev pub LayersKeepOrder : TwoEnds → Type 0
LayersKeepOrder w = InEpochs ChannelsInOrder peer_fresh peer_fresh w.near w.far

abbrev pub OfAnyTwoLayers : (TwoEnds → Type 0) → Type 0
OfAnyTwoLayers Holds = (r : Role) (w : TwoEnds) → IsReached r w → Holds w
