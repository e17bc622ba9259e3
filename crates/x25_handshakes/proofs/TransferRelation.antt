-- What is kept of two ends in p4, over RESETs.
use Rattle.x25_handshakes.proofs.Names.{List, Mark, Inner, Request, Confirm, At, Packet, Reset, ResetConf, PeerStretch, fresh_peer, Terms}
use Rattle.x25_handshakes.proofs.{HandshakeRelation.{Level, Handshaken, Each}, StretchRelation.{Kept}}
use Rattle.x25_handshakes.specs.laws.TwoPeers.{IsOfTransfer}

-- what a packet is to the handshake of RESET
abbrev pub reset_mark : Packet → Mark
reset_mark Reset = Request
reset_mark ResetConf = Confirm
reset_mark other = Inner

-- two ends that keep the rules, which send by these terms, with a stretch inside
abbrev pub two_level : Terms → Terms → Level PeerStretch PeerStretch Packet
two_level t b = record {
  mark = reset_mark;
  fresh = fresh_peer;
  fresh_there = fresh_peer;
  gone = λ x. Unit {0};
  gone_there = λ y. Unit {0};
  related = Kept t b;
}

-- all are packets of p4
abbrev pub AllInTransfer : List Packet → Type 0
AllInTransfer u = Each IsOfTransfer u

-- any two ends
pub record TwoTransfers (t b : Terms) (x : At PeerStretch) (L K : List Packet) (y : At PeerStretch) : Type 0 where
  pub hand : Handshaken (two_level t b) x L K y
  pub there : AllInTransfer L
  pub back : AllInTransfer K
