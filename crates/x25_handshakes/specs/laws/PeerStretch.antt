-- A peer in d1 for one stretch, whatever station it is: the rules of data, flow control and interrupts that are asked
-- of it, and no more. When it takes a packet, acknowledges and confirms, RR and RNR, data though this end isn't ready:
-- all this is free. ITU-T X.25 (10/96), sections 4.3 and 4.4.1; docs/PEER.md has the rules in words.
use Rattle.std.specs.Prelude.{◌≡◌, ◌==◌, ℕ, ◌+◌, ◌-◌, ◌%◌, ◌<◌, ◌≤◌, List, [], ◌∷◌, ◌++◌, length, if◌then◌else◌}
use Rattle.std.specs.Prelude.{Bool, true, false, None}
use Rattle.x25_circuit.specs.Message.{Piece, no_part, joining, piece_ground}
use Rattle.x25_window.specs.code.Modulo.{resolved}
use Rattle.x25_handshakes.specs.laws.Stretch.{Packet, Data, Rr, Rnr, Int, IntConf, status}

-- All data packets that it sent and took; how many of the first are acknowledged to it, and how many of the second it
-- acknowledged last; whether an interrupt of its own is out, and how many it has to confirm; all interrupts; and by the
-- last RR or RNR whether it is ready and the other end is, which no rule asks.
pub record PeerStretch : Type 0 where
  pub sent : List Piece
  pub taken : List Piece
  pub acked : ℕ
  pub told : ℕ
  pub int_out : Bool
  pub owed : ℕ
  pub int_down : List (List ℕ)
  pub int_up : List (List ℕ)
  pub own_ready : Bool
  pub peer_ready : Bool

abbrev pub fresh_peer : PeerStretch
fresh_peer = record {
  sent = [];
  taken = [];
  acked = 0;
  told = 0;
  int_out = false;
  owed = 0;
  int_down = [];
  int_up = [];
  own_ready = true;
  peer_ready = true;
}

-- ---- what it sends

-- a packet that it may send, with the number that it acknowledges where that packet has a P(R)
pub data Deed : Type 0 where
  Sends : (piece : Piece) → (ack : ℕ) → Deed
  Says : (ready : Bool) → (ack : ℕ) → Deed
  Interrupts : (user : List ℕ) → Deed
  Confirms : Deed

-- A P(R) acknowledges no more than it took, and no less than its last one (section 4.4.1.3)
pub record MayAcknowledge (y : PeerStretch) (n : ℕ) : Type 0 where
  pub rising : y.told ≤ n
  pub taken : n ≤ length y.taken

-- At most seven data packets stand unacknowledged (section 4.4.1.2). Each is of at most the size (4.3.2), has the
-- qualifier of the message that has begun (4.3.6), and no message is longer than the longest (profile).
pub record MayFollow (longest size : ℕ) (y : PeerStretch) (p : Piece) : Type 0 where
  pub window : length y.sent < y.acked + 7
  pub fits : piece_ground longest size (joining no_part y.sent) p ≡ None

-- one interrupt at a time, and one confirmation of each (section 4.3.7)
abbrev pub MayDo : ℕ → ℕ → PeerStretch → Deed → Type 0
MayDo longest size y (Sends p n) = MayAcknowledge y n × MayFollow longest size y p
MayDo longest size y (Says ready n) = MayAcknowledge y n
MayDo longest size y (Interrupts xs) = y.int_out ≡ false
MayDo longest size y Confirms = 1 ≤ y.owed

abbrev pub does : PeerStretch → Deed → PeerStretch
does y (Sends p n) = record y { sent = y.sent ++ p ∷ []; told = n }
does y (Says ready n) = record y { told = n; own_ready = ready }
does y (Interrupts xs) = record y { int_out = true; int_down = y.int_down ++ xs ∷ [] }
does y Confirms = record y { owed = y.owed - 1 }

-- P(S) is the next one (section 4.4.1.1)
abbrev pub packet_of : PeerStretch → Deed → Packet
packet_of y (Sends p n) = Data (length y.sent % 8) (n % 8) p
packet_of y (Says ready n) = status ready n
packet_of y (Interrupts xs) = Int xs
packet_of y Confirms = IntConf

-- ---- what it makes of what comes

-- It takes packets in order, each once, and a data packet only where its P(S) is the next one (section 4.4.1.1). By a
-- P(R) all data packets below it are acknowledged (4.4.1.3).
abbrev pub taking : PeerStretch → Packet → PeerStretch
taking y (Data s r p) = record y {
  acked = resolved y.acked r;
  taken = if s == length y.taken % 8 then y.taken ++ p ∷ [] else y.taken;
}
taking y (Rr r) = record y { acked = resolved y.acked r; peer_ready = true }
taking y (Rnr r) = record y { acked = resolved y.acked r; peer_ready = false }
taking y (Int xs) = record y { owed = y.owed + 1; int_up = y.int_up ++ xs ∷ [] }
taking y IntConf = record y { int_out = false }
taking y other = y
