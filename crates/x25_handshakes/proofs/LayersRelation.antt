-- What is kept of two layers.
use Rattle.x25_handshakes.proofs.Names.{ℕ, List, [], ◌∷◌, Bool, true, false, ◌==◌, Mark, Inner, Request, Confirm, At, Packet}
use Rattle.x25_handshakes.proofs.Names.{LayerPacket, On, Restart, RestartConf, Role, PeerCall}
use Rattle.x25_handshakes.proofs.{ChannelRelation.{TwoChannels}, HandshakeRelation.{Level, Handshaken}}
use Rattle.x25_handshakes.specs.laws.{PeerLayer.{PeerChannels, peer_fresh}}

-- the packet with those behind it, or those alone
abbrev pub kept_on : Bool → Packet → List Packet → List Packet
kept_on true p rest = p ∷ rest
kept_on false p rest = rest

-- the packets of channel h
abbrev pub on : ℕ → List LayerPacket → List Packet
on h [] = []
on h (On k p ∷ L) = kept_on (h == k) p (on h L)
on h (Restart ∷ L) = on h L
on h (RestartConf ∷ L) = on h L

-- two ends: R is kept on each channel
pub record OnEach {A B : Type 0} (R : A → List Packet → List Packet → B → Type 0) (x : ℕ → A) (L K : List LayerPacket) (y : ℕ → B) : Type 0 where
  pub each : (h : ℕ) → R (x h) (on h L) (on h K) (y h)

-- what a packet is to the handshake of RESTART
abbrev pub restart_mark : LayerPacket → Mark
restart_mark (On h p) = Inner
restart_mark Restart = Request
restart_mark RestartConf = Confirm

-- two layers that keep the rules, over RESTARTs: all channels; G and H are asked of the ends as they send CLEAR
abbrev pub two_layers_level : (PeerCall → Type 0) → (PeerCall → Type 0) → Role → Level PeerChannels PeerChannels LayerPacket
two_layers_level G H r = record {
  mark = restart_mark;
  fresh = peer_fresh;
  fresh_there = peer_fresh;
  gone = λ x. Unit {0};
  gone_there = λ y. Unit {0};
  related = OnEach (TwoChannels G H r);
}

abbrev pub TwoLayers : (PeerCall → Type 0) → (PeerCall → Type 0) → Role → At PeerChannels → List LayerPacket → List LayerPacket → At PeerChannels → Type 0
TwoLayers G H r x L K y = Handshaken (two_layers_level G H r) x L K y
