-- What is kept of two ends of a call, and of a channel.
use Rattle.x25_handshakes.proofs.Names.{List, Mark, Inner, Request, Confirm, At, Packet, Clear, ClearConf, Role, Dte, Dce, PeerCall, fresh_peer_call}
use Rattle.x25_handshakes.proofs.Names.{◌≡◌, Unused}
use Rattle.x25_handshakes.proofs.{CallsRelation.{TwoJoint}, HandshakeRelation.{Level, Handshaken}}

-- what a packet is to the handshake of CLEAR
abbrev pub clear_mark : Packet → Mark
clear_mark Clear = Request
clear_mark ClearConf = Confirm
clear_mark other = Inner

-- what is kept of any two ends in a call, seen from the end of this role
abbrev pub TwoCalls : Role → PeerCall → List Packet → List Packet → PeerCall → Type 0
TwoCalls Dte x u v y = TwoJoint x.stage y.stage x.made x.indicated y.made y.indicated u v
TwoCalls Dce x u v y = TwoJoint y.stage x.stage y.made y.indicated x.made x.indicated v u

-- what is asked of an end as it sends CLEAR: that it isn't in p1, as of ours; or nothing
abbrev pub IsCalled : PeerCall → Type 0
IsCalled x = x.stage ≡ Unused → ⊥

abbrev pub IsAny : PeerCall → Type 0
IsAny x = Unit {0}

-- two ends of a channel that keep the rules, over CLEARs; G and H are asked of them
abbrev pub two_call_level : (PeerCall → Type 0) → (PeerCall → Type 0) → Role → Level PeerCall PeerCall Packet
two_call_level G H r = record { mark = clear_mark; fresh = fresh_peer_call; fresh_there = fresh_peer_call; gone = G; gone_there = H; related = TwoCalls r }

abbrev pub TwoChannels : (PeerCall → Type 0) → (PeerCall → Type 0) → Role → At PeerCall → List Packet → List Packet → At PeerCall → Type 0
TwoChannels G H r x L K y = Handshaken (two_call_level G H r) x L K y
