-- An end that keeps the rules of each channel, over restarts, as a peer's packet layer: where the two definitions
-- differ. ITU-T X.25 (10/96), section 3.3.
use Rattle.std.specs.Prelude.{◌≡◌, ◌↔◌, ◌==◌, if◌then◌else◌, ℕ, List, [], ◌∷◌, Some}
use Rattle.x25_bits.specs.declared.role.Role.{Role}
use Rattle.x25_handshakes.specs.laws.Handshake.{Side, Live, Left, At}
use Rattle.x25_handshakes.specs.laws.Layers as layers
use Rattle.x25_handshakes.specs.laws.Layers.{LayerPacket}
use Rattle.x25_handshakes.specs.laws.Stretch as theirs
use Rattle.x25_handshakes.specs.laws.PeerCalls.{PeerCall}
use Rattle.x25_handshakes.specs.laws.PeerLayer.{PeerChannels, Restarts, MayDoLayer, does_layer, layer_packet_of}
use Rattle.x25_handshakes.specs.laws.PeerLayer.{ready_taking, restarting_taking}
use Rattle.x25_possible.specs.Channel.{sends_as, takes}
use Rattle.x25_possible.specs.declared.packet.Packet.{Packet}
use Rattle.x25_possible.specs.declared.phase.Phase.{Phase}
use Rattle.x25_possible.specs.declared.phase.Phase.TheVariants as phase
use Rattle.x25_possible_peers.specs.laws.AsPeers.{End, Stands, Owes, IsAt, SendsOn, TakesOn}
use Rattle.x25_possible_peers.specs.laws.LayerPeers.{item_on, comes_on}

-- ---- where it is

-- It is somewhere on each channel (r1); or its RESTART is out (r2); or RESTART stands in front of what comes to it,
-- which the judge has taken, and it has to answer (r3). A peer takes that as it answers.
pub data LayerEnd : Type 0 where
  Ready : ℕ → (ℕ → End) → LayerEnd
  Restarting : ℕ → PeerChannels → LayerEnd
  OwesRestart : ℕ → PeerChannels → LayerEnd

abbrev pub standing_side : ℕ → Side PeerChannels → LayerEnd
standing_side e (Live y) = Ready e (λ h. Stands (y h))
standing_side e (Left y) = Restarting e y

abbrev pub standing : At PeerChannels → LayerEnd
standing y = standing_side y.epoch y.side

abbrev pub peer_in : End → At PeerCall
peer_in (Stands y) = y
peer_in (Owes y q) = y

-- as a peer, which hasn't taken what stands in front on any channel
abbrev pub peers : (ℕ → End) → PeerChannels
peers a h = peer_in (a h)

abbrev pub put_end : (ℕ → End) → ℕ → End → ℕ → End
put_end a k b h = if h == k then b else a h

-- the judge of channel h has it in this phase
abbrev pub IsOn : Role → ℕ → LayerEnd → Phase → Type 0
IsOn r h (Ready e a) s = IsAt r (a h) s
IsOn r h (Restarting e y) s = s ≡ phase.Restarts
IsOn r h (OwesRestart e y) s = s ≡ phase.WasRestarted

-- ---- what it may send, and is then

-- what the judge allows beyond docs/PEER.md
pub data LayerSendsBeyond : LayerEnd → LayerPacket → LayerEnd → Type 0 where
  -- RESTART again while the answer to its own is due (3.3.1, timer T20)
  restarts_again : (e : ℕ) (y : PeerChannels) → LayerSendsBeyond (Restarting e y) layers.Restart (Restarting e y)
  -- or in place of the answer to one that came (3.3.1)
  unanswered : (e : ℕ) (y : PeerChannels) → LayerSendsBeyond (OwesRestart e y) layers.Restart (Restarting e y)

pub data LayerSends (r : Role) : LayerEnd → LayerPacket → LayerEnd → Type 0 where
  -- what it may on the channel
  on_channel : (e k : ℕ) (a : ℕ → End) (p : theirs.Packet) (b : End) → SendsOn r (a k) p b
      → LayerSends r (Ready e a) (layers.On k p) (Ready e (put_end a k b))
  -- a peer's RESTART, behind which it drops what stands in front on channels
  restarts : (e : ℕ) (a : ℕ → End) → MayDoLayer (Live (peers a)) Restarts
      → LayerSends r (Ready e a) (layer_packet_of (Live (peers a)) Restarts)
      (standing (does_layer e (Live (peers a)) Restarts))
  -- its answer, as it takes RESTART
  answers : (e : ℕ) (y : PeerChannels) (p : LayerPacket) → (ready_taking r e y layers.Restart).out ≡ p ∷ []
      → LayerSends r (OwesRestart e y) p (standing (ready_taking r e y layers.Restart).next)
  beyond : (a b : LayerEnd) (p : LayerPacket) → LayerSendsBeyond a p b → LayerSends r a p b

-- ---- what it makes of what comes

pub data LayerTakes (r : Role) : LayerEnd → LayerPacket → LayerEnd → Type 0 where
  -- what it does on the channel
  on_channel : (e k : ℕ) (a : ℕ → End) (p : theirs.Packet) (b : End) → TakesOn r (a k) p b
      → LayerTakes r (Ready e a) (layers.On k p) (Ready e (put_end a k b))
  -- RESTART, which a peer answers; beyond docs/PEER.md a RESET or CLEAR in front of it then needs no answer (3.3.1)
  restarted : (e : ℕ) (a : ℕ → End) (p : LayerPacket) → (ready_taking r e (peers a) layers.Restart).out ≡ p ∷ []
      → LayerTakes r (Ready e a) layers.Restart (OwesRestart e (peers a))
  -- a confirmation of no RESTART, of which a peer makes nothing; beyond docs/PEER.md before an answer too
  strays : (e : ℕ) (a : ℕ → End) → LayerTakes r (Ready e a) layers.RestartConf (Ready e a)
  -- what a peer makes of it while its RESTART is out
  waits : (e : ℕ) (y : PeerChannels) (p : LayerPacket) → (restarting_taking e y p).out ≡ []
      → LayerTakes r (Restarting e y) p (standing (restarting_taking e y p).next)
  -- beyond docs/PEER.md: before its answer all is dropped, so one is enough for a RESTART that came again (3.3.1,
  -- timer T20)
  drops : (e : ℕ) (y : PeerChannels) (p : LayerPacket) → LayerTakes r (OwesRestart e y) p (OwesRestart e y)

-- ---- the rules of all channels are those of peers, and no more than that

-- what comes to channel h is taken there; what comes to another changes nothing
abbrev pub AreTaken : Role → Phase → List Packet → Phase → Type 0
AreTaken r s [] u = u ≡ s
AreTaken r s (x ∷ []) u = takes r s x ≡ u
AreTaken r s (x ∷ y ∷ xs) u = ⊥

abbrev pub AreAt : Role → LayerEnd → (ℕ → Phase) → Type 0
AreAt r a s = (h : ℕ) → IsOn r h a (s h)

-- what the judge of each channel allows
pub record RestartRulesArePeers : Type 0 where
  pub sends : (r : Role) (a : LayerEnd) (p : LayerPacket) (s u : ℕ → Phase) → AreAt r a s
      → ((h : ℕ) → (t : ℕ) × (sends_as t (s h) (item_on h p) ≡ Some (u h)))
      ↔ ((b : LayerEnd) × LayerSends r a p b × AreAt r b u)
  pub takes : (r : Role) (a : LayerEnd) (p : LayerPacket) (s u : ℕ → Phase) → AreAt r a s
      → ((h : ℕ) → AreTaken r (s h) (comes_on h p) (u h)) ↔ ((b : LayerEnd) × LayerTakes r a p b × AreAt r b u)
