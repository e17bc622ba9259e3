-- A peer between two clears, whatever station it is: p1, call sent, call received, collided (p5) and p4. ITU-T X.25
-- (10/96), sections 4.1.2 to 4.1.6.
use Rattle.std.specs.Prelude.{◌≡◌, ℕ, List, [], ◌∷◌, ◌++◌, true}
use Rattle.x25_handshakes.specs.{laws.Handshake.{At, PeerStep}, laws.Stretch.{Packet, Call, Accept}}
use Rattle.x25_handshakes.specs.laws.PeerStretch.{PeerStretch}
use Rattle.x25_handshakes.specs.laws.PeerTransfer.{fresh_peer_transfer, TransferDeed, MayDoTransfer, does_transfer}
use Rattle.x25_handshakes.specs.laws.PeerTransfer.{transfer_packet_of, transfer_taking}
use Rattle.x25_handshakes.specs.laws.Calls.{Stage, Unused, Waiting, Offered, Crossed, Talking}
use Rattle.x25_bits.specs.{declared.role.Role.{Role}, declared.role.Role.TheVariants.{Dte, Dce}}
use Rattle.x25_circuit.specs.declared.params.Params.{Params}
use Rattle.x25_circuit.specs.Params.{may_propose, may_answer, said_in}
use Rattle.x25_circuit.specs.Notice.{CallRequest}
use Rattle.x25_handshakes.specs.laws.Terms.{Terms, called_terms, calling_terms}

-- the stage, and the calls that it made and that came, of this clear epoch
pub record PeerCall : Type 0 where
  pub stage : Stage (At PeerStretch)
  pub made : List CallRequest
  pub indicated : List CallRequest

abbrev pub fresh_peer_call : PeerCall
fresh_peer_call = record { stage = Unused; made = []; indicated = [] }

abbrev pub stands : Stage (At PeerStretch) → List CallRequest → List CallRequest → PeerCall
stands stage m i = record { stage = stage; made = m; indicated = i }

-- ---- what it sends by itself

pub data CallDeed : Type 0 where
  PlacesCall : (item : CallRequest) → CallDeed
  AcceptsCall : (field : List ℕ) (longest : ℕ) → CallDeed
  InTransfer : (deed : TransferDeed) → CallDeed

-- CALL in p1 alone, with what may be proposed (section 4.1.2); CALL ACCEPTED where a CALL came, with what may answer it
-- (4.1.4); and in p4 what belongs there
abbrev pub MayDoCall : Stage (At PeerStretch) → CallDeed → Type 0
MayDoCall Unused (PlacesCall n) = may_propose n.params ≡ true
MayDoCall (Offered theirs) (AcceptsCall field most) = may_answer theirs (said_in theirs field) ≡ true
MayDoCall (Talking t b at) (InTransfer d) = MayDoTransfer t.longest t.size at.side d
MayDoCall stage d = ⊥

-- p4 begins at the called end, and at the calling one, with what was answered
abbrev pub called_in_data : ℕ → Params → Stage (At PeerStretch)
called_in_data most q = Talking (called_terms most q) (calling_terms most q) fresh_peer_transfer

abbrev pub calling_in_data : ℕ → Params → Stage (At PeerStretch)
calling_in_data most q = Talking (calling_terms most q) (called_terms most q) fresh_peer_transfer

abbrev pub does_call : Stage (At PeerStretch) → List CallRequest → List CallRequest → CallDeed → PeerCall
does_call Unused m i (PlacesCall n) = stands (Waiting n.params) (m ++ n ∷ []) i
does_call (Offered theirs) m i (AcceptsCall field most) = stands (called_in_data most (said_in theirs field)) m i
does_call (Talking t b at) m i (InTransfer d) = stands (Talking t b (does_transfer at.epoch at.side d)) m i
does_call stage m i d = stands stage m i

abbrev pub call_packet_of : Stage (At PeerStretch) → CallDeed → Packet
call_packet_of stage (PlacesCall n) = Call n
call_packet_of stage (AcceptsCall field most) = Accept field most
call_packet_of (Talking t b at) (InTransfer d) = transfer_packet_of at.side d
call_packet_of stage (InTransfer d) = Accept [] 0

-- ---- what it makes of what comes

abbrev pub quietly : PeerCall → PeerStep PeerCall Packet
quietly c = record { next = c; out = [] }

abbrev pub in_data : Terms → Terms → List CallRequest → List CallRequest → PeerStep (At PeerStretch) Packet
    → PeerStep PeerCall Packet
in_data t b m i s = record { next = stands (Talking t b s.next) m i; out = s.out }

-- where both have called the DTE's call goes ahead, and the DCE gives up its own (section 4.1.6)
abbrev pub collides : Role → Params → List CallRequest → List CallRequest → CallRequest → PeerStep PeerCall Packet
collides Dte mine m i n = quietly (stands (Crossed mine) m i)
collides Dce mine m i n = quietly (stands (Offered n.params) m (i ++ n ∷ []))

-- CALL (sections 4.1.3 and 4.1.6), CALL ACCEPTED (4.1.5), and in p4 what belongs there
abbrev pub call_taking : Role → Stage (At PeerStretch) → List CallRequest → List CallRequest → Packet
    → PeerStep PeerCall Packet
call_taking r Unused m i (Call n) = quietly (stands (Offered n.params) m (i ++ n ∷ []))
call_taking r (Waiting mine) m i (Call n) = collides r mine m i n
call_taking r (Waiting mine) m i (Accept field most) = quietly (stands (calling_in_data most (said_in mine field)) m i)
call_taking r (Crossed mine) m i (Accept field most) = quietly (stands (calling_in_data most (said_in mine field)) m i)
call_taking r (Talking t b at) m i p = in_data t b m i (transfer_taking at.epoch at.side p)
call_taking r stage m i p = quietly (stands stage m i)
