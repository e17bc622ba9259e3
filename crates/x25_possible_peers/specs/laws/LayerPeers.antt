-- A peer of the packet layer, over restarts and with all its channels, as an end of which a judge knows the state on
-- one of these. ITU-T X.25 (10/96), sections 3.3 and 4.
use Rattle.std.specs.Prelude.{◌==◌, ℕ, List, [], ◌∷◌, ◌++◌, if◌then◌else◌}
use Rattle.x25_bits.specs.declared.role.Role.{Role}
use Rattle.x25_handshakes.specs.laws.Handshake.{Side, Live, Left, At, live}
use Rattle.x25_handshakes.specs.laws.Layers as layers
use Rattle.x25_handshakes.specs.laws.Layers.{LayerPacket}
use Rattle.x25_handshakes.specs.laws.Stretch as theirs
use Rattle.x25_handshakes.specs.laws.PeerLayer.{PeerChannels, peer_fresh, LayerDeed, MayDoLayer, does_layer}
use Rattle.x25_handshakes.specs.laws.PeerLayer.{layer_packet_of, layer_taking, ready_taking}
use Rattle.x25_handshakes.specs.laws.PeerLayers.{AreElsewhere}
use Rattle.x25_possible.specs.code.Steps.{behind, sends_to}
use Rattle.x25_possible.specs.laws.Possible.{Item, Own, Other}
use Rattle.x25_possible.specs.laws.Sets.{IsUntold}
use Rattle.x25_possible.specs.declared.packet.Packet.{Packet}
use Rattle.x25_possible.specs.declared.packet.Packet.TheVariants as item
use Rattle.x25_possible.specs.declared.phase.Phase.{Phase}
use Rattle.x25_possible.specs.declared.phase.Phase.TheVariants as phase
use Rattle.x25_possible_peers.specs.laws.Peers.{item_of, phase_of}

-- where it is on channel h
abbrev pub phase_on : ℕ → Side PeerChannels → Phase
phase_on h (Live y) = phase_of (y h).side
phase_on h (Left y) = phase.Restarts

-- what goes by on channel h as it sends this
abbrev pub item_on : ℕ → LayerPacket → Packet
item_on h (layers.On k p) = if h == k then item_of p else item.Elsewhere
item_on h layers.Restart = item.Restart
item_on h layers.RestartConf = item.RestartConf

-- it confirms by one packet, or sends none
abbrev pub confirmed_on : ℕ → List LayerPacket → List (Item Packet) → List (Item Packet)
confirmed_on h [] tape = tape
confirmed_on h (p ∷ ps) tape = Own (item_on h p) ∷ tape

-- what of the other end is on the way to channel h, front first: no packet of another channel
abbrev pub comes_on : ℕ → LayerPacket → List Packet
comes_on h (layers.On k p) = if h == k then item_of p ∷ [] else []
comes_on h layers.Restart = item.Restart ∷ []
comes_on h layers.RestartConf = item.RestartConf ∷ []

abbrev pub way_on : ℕ → List LayerPacket → List Packet
way_on h [] = []
way_on h (p ∷ way) = comes_on h p ++ way_on h way

abbrev pub shown_on : List Packet → List (Item Packet) → List (Item Packet)
shown_on [] tape = tape
shown_on (x ∷ xs) tape = Other x ∷ tape

-- Such a peer from a restart on, behind the tape of channel h, latest first, and what the other end sent on the way to
-- it, front first: it does what it may; the other end shows any packet; the one in front comes, or the first of a
-- channel before those of others.
pub data LayerStands (r : Role) (h : ℕ) : List (Item Packet) → At PeerChannels → List LayerPacket → Type 0 where
  Begins : LayerStands r h [] (live 0 peer_fresh) []
  Does : (tape : List (Item Packet)) (y : At PeerChannels) (way : List LayerPacket) (d : LayerDeed)
      → MayDoLayer y.side d → LayerStands r h tape y way
      → LayerStands r h (Own (item_on h (layer_packet_of y.side d)) ∷ tape) (does_layer y.epoch y.side d) way
  Shown : (tape : List (Item Packet)) (y : At PeerChannels) (way : List LayerPacket) (p : LayerPacket)
      → LayerStands r h tape y way → LayerStands r h (shown_on (comes_on h p) tape) y (way ++ p ∷ [])
  Hears : (tape : List (Item Packet)) (y : At PeerChannels) (way : List LayerPacket) (p : LayerPacket)
      → LayerStands r h tape y (p ∷ way)
      → LayerStands r h (confirmed_on h (layer_taking r y.epoch y.side p).out tape)
      (layer_taking r y.epoch y.side p).next way
  HearsChannel : (tape : List (Item Packet)) (e : ℕ) (y : PeerChannels) (k : ℕ) (passed way : List LayerPacket)
      (p : theirs.Packet) → AreElsewhere k passed → LayerStands r h tape (live e y) (passed ++ layers.On k p ∷ way)
      → LayerStands r h (confirmed_on h (ready_taking r e y (layers.On k p)).out tape)
      (ready_taking r e y (layers.On k p)).next (passed ++ way)

-- of such a peer no rule is told on any channel, packet by packet from a restart on
abbrev pub NoLayerPeerIsTold : Type 0
NoLayerPeerIsTold =
    (r : Role) (h : ℕ) (tape : List (Item Packet)) (x : Packet) (y : At PeerChannels) (way : List LayerPacket)
    → LayerStands r h (Own x ∷ tape) y way → IsUntold (sends_to x (behind r tape)).told
