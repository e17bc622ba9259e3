-- A peer in p4 (data transfer), whatever station it is: a stretch within the handshake of RESET. ITU-T X.25 (10/96),
-- section 4.4.3.
use Rattle.std.specs.Prelude.{ℕ, suc, List, [], ◌∷◌}
use Rattle.x25_handshakes.specs.laws.Handshake.{Side, Live, Left, At, PeerStep, live, left}
use Rattle.x25_handshakes.specs.laws.Stretch.{Packet, Reset, ResetConf}
use Rattle.x25_handshakes.specs.laws.PeerStretch.{PeerStretch, fresh_peer, Deed, MayDo, does, packet_of, taking}

-- numbers begin anew, and no interrupt is out (section 4.4.3)
abbrev pub fresh_peer_transfer : At PeerStretch
fresh_peer_transfer = live 0 fresh_peer

-- ---- what it sends by itself

pub data TransferDeed : Type 0 where
  InStretch : (deed : Deed) → TransferDeed
  Resets : TransferDeed

-- a packet of the stretch, or RESET at any moment; and nothing while its RESET is out (sections 4.4.3.1 and 4.4.3.4)
abbrev pub MayDoTransfer : ℕ → ℕ → Side PeerStretch → TransferDeed → Type 0
MayDoTransfer longest size (Live y) (InStretch d) = MayDo longest size y d
MayDoTransfer longest size (Live y) Resets = Unit {0}
MayDoTransfer longest size (Left y) d = ⊥

abbrev pub does_transfer : ℕ → Side PeerStretch → TransferDeed → At PeerStretch
does_transfer e (Live y) (InStretch d) = live e (does y d)
does_transfer e (Live y) Resets = left e y
does_transfer e (Left y) d = left e y

abbrev pub transfer_packet_of : Side PeerStretch → TransferDeed → Packet
transfer_packet_of (Live y) (InStretch d) = packet_of y d
transfer_packet_of (Live y) Resets = Reset
transfer_packet_of (Left y) d = Reset

-- ---- what it makes of what comes

-- it confirms RESET, and the next stretch begins anew (section 4.4.3.4)
abbrev pub live_taking : ℕ → PeerStretch → Packet → PeerStep (At PeerStretch) Packet
live_taking e y Reset = record { next = live (suc e) fresh_peer; out = ResetConf ∷ [] }
live_taking e y p = record { next = live e (taking y p); out = [] }

-- while its own RESET is out, RESET or its confirmation ends that, and all else is dropped (4.4.3.3 and 4.4.3.4)
abbrev pub left_taking : ℕ → PeerStretch → Packet → PeerStep (At PeerStretch) Packet
left_taking e y Reset = record { next = live (suc e) fresh_peer; out = [] }
left_taking e y ResetConf = record { next = live (suc e) fresh_peer; out = [] }
left_taking e y p = record { next = left e y; out = [] }

abbrev pub transfer_taking : ℕ → Side PeerStretch → Packet → PeerStep (At PeerStretch) Packet
transfer_taking e (Live y) p = live_taking e y p
transfer_taking e (Left y) p = left_taking e y p

-- neither RESET nor a confirmation of one
abbrev pub IsNoReset : Packet → Type 0
IsNoReset Reset = ⊥
IsNoReset ResetConf = ⊥
IsNoReset p = Unit {0}

abbrev pub AreNoResets : List Packet → Type 0
AreNoResets [] = Unit {0}
AreNoResets (p ∷ ps) = IsNoReset p × AreNoResets ps
