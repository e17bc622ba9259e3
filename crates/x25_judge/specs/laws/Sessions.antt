-- An end that keeps the rules of docs/PEER.md over any number of set-ups, beside one that does what it likes, in a
-- trace from its first line on, or from a set-up on: where the end stands, what it may send there, and what may still
-- come to it. Its rules of set-up are those of `PeerSessions` of x25_line, and of frames with numbers those of `Peer`.
-- ITU-T X.25 (10/96), sections 2.4.4 and 2.4.5.
use Rattle.std.specs.Prelude.{◌≡◌, ℕ, ◌≤◌, Bool, List, [], ◌∷◌, ◌++◌, length, Ok, Option, Some, None}
use Rattle.x25_bits.specs.declared.role.Role.{Role}
use Rattle.x25_decode.specs.declared.answer.Reading.{Reading}
use Rattle.x25_frame.specs.Frame.{PlainFrame, info, rr, rnr, rej, sabm, disc, ua, dm, frmr}
use Rattle.x25_judge.specs.Judge.{begins, answer_to}
use Rattle.x25_judge.specs.declared.{judge.Judge.{Judge}, judge.Strictness.{Strictness}}
use Rattle.x25_line.specs.laws.Peer.{Peer, fresh_peer, MayNumber, MayAcknowledge, numbered_to, told_to, MayHear}
use Rattle.x25_link.specs.Hearing.{other}
use Rattle.x25_line.specs.laws.PeerSessions.{Stand, Out, Asking, In}
use Rattle.x25_text.specs.declared.text.TheConstants.{ROOM}
use Rattle.x25_judge.specs.laws.Session.{IsBegun, Shows, IsDamaged, IsTimely, Way}
use Rattle.x25_possible.specs.declared.packet.Defaults.{Defaults}

-- ---- what is on the way to it

abbrev pub IsUa : PlainFrame → Type 0
IsUa (ua f) = Unit {0}
IsUa frame = ⊥

-- no UA is among them
abbrev pub HaveNoUa : Way → Type 0
HaveNoUa [] = Unit {0}
HaveNoUa (None ∷ way) = HaveNoUa way
HaveNoUa (Some frame ∷ way) = (IsUa frame → ⊥) × HaveNoUa way

-- ---- what it may send

-- A frame with a number, and what it is then. Beyond the rules of `Peer` numbers go one by one when they go for the
-- first time (section 2.4.5.1). A line has room for so many octets.
abbrev pub MaySend : Peer → PlainFrame → Peer → Type 0
MaySend p (info ns nr pf packet) q = (n : ℕ) × (t : ℕ) × MayNumber p ns packet n × (n ≤ p.sent)
    × (length packet ≤ ROOM) × MayAcknowledge p nr t × (q ≡ told_to t (numbered_to n p))
MaySend p (rr command nr pf) q = (t : ℕ) × MayAcknowledge p nr t × (q ≡ told_to t p)
MaySend p (rnr command nr pf) q = (t : ℕ) × MayAcknowledge p nr t × (q ≡ told_to t p)
MaySend p (rej command nr pf) q = (t : ℕ) × MayAcknowledge p nr t × (q ≡ told_to t p)
MaySend p frame q = ⊥

-- DM ends a session, and isn't sent in place of waiting for UA
abbrev pub declined : Stand → Stand
declined Out = Out
declined Asking = Asking
declined In = Out

-- A frame that it may send, where it stands then, what is known of it in its session, and what is left on the way to
-- it. Beyond the rules of `PeerSessions`, it leaves its session as it sends DM or FRMR and as it answers DISC (sections
-- 2.4.4.3 and 2.4.4.4).
pub data MaySay (stand : Stand) (p : Peer) (way : Way) : PlainFrame → Stand → Peer → Way → Type 0 where
  -- In: a frame with an N(R), in a session alone
  numbered : (frame : PlainFrame) (q : Peer) → stand ≡ In → MaySend p frame q → MaySay stand p way frame In q way
  -- Patient: SABM, where no UA to it is on the way; and again at any moment where it awaits UA
  asks : (b : Bool) → HaveNoUa way → MaySay stand p way (sabm b) Asking p way
  asks_again : (b : Bool) → stand ≡ Asking → MaySay stand p way (sabm b) Asking p way
  -- Leaves
  closes : (b : Bool) → MaySay stand p way (disc b) Out p way
  declines : (f : Bool) → MaySay stand p way (dm f) (declined stand) p way
  rejects : (f : Bool) (why : List ℕ) → MaySay stand p way (frmr f why) Out p way
  -- Ua: it sends UA to SABM and DISC alone, as it takes it, and one to each
  takes_disc : (b f : Bool) (rest : Way) → way ≡ Some (disc b) ∷ rest → MaySay stand p way (ua f) Out p rest
  -- Begins: by SABM it begins a session, or waits on where it awaits UA itself
  takes_sabm : (b f : Bool) (rest : Way) → way ≡ Some (sabm b) ∷ rest
      → MaySay stand p way (ua f) In fresh_peer rest
  waits_on : (b f : Bool) (rest : Way) → stand ≡ Asking → way ≡ Some (sabm b) ∷ rest
      → MaySay stand p way (ua f) Asking p rest

-- ---- what may come of it all

-- The end `from` may stand so where the judge is behind such lines, and this is on the way to it.
pub data MayStand (from : Role) : Judge → Stand → Peer → Way → Type 0 where
  -- nothing was shown or set up
  Starts : (window : ℕ) (defaults : Defaults) (reading : Reading) (strictness : Strictness)
      → MayStand from (begins window defaults reading strictness) Out fresh_peer []
  -- or the trace has shown a set-up
  SetUp : (j : Judge) → IsBegun j from → MayStand from j In fresh_peer []
  -- it is handed down a packet
  HandsDown : (j : Judge) (stand : Stand) (p : Peer) (way : Way) (packet : List ℕ)
      → MayStand from j stand p way → MayStand from j stand (record p { given = p.given ++ packet ∷ [] }) way
  -- it leaves its session, or gives up, without a frame
  Leaves : (j : Judge) (stand : Stand) (p : Peer) (way : Way) → MayStand from j stand p way
      → MayStand from j Out p way
  -- it sends what the rules allow
  Says : (j : Judge) (stand next : Stand) (p q : Peer) (way rest : Way) (line octets : List ℕ)
      (frame : PlainFrame) → Shows line from octets frame → MaySay stand p way frame next q rest
      → MayStand from j stand p way → MayStand from (answer_to j line).next next q rest
  -- the other end sends any frame
  Shown : (j : Judge) (stand : Stand) (p : Peer) (way : Way) (line octets : List ℕ) (frame : PlainFrame)
      → Shows line (other from) octets frame → IsTimely way → MayStand from j stand p way
      → MayStand from (answer_to j line).next stand p (way ++ Some frame ∷ [])
  -- octets of it are damaged, and may have been any that the rules allow, or none
  Garbles : (j : Judge) (stand next : Stand) (p q : Peer) (way rest : Way) (line octets : List ℕ)
      (frame : PlainFrame) → IsDamaged line from octets → MaySay stand p way frame next q rest
      → MayStand from j stand p way → MayStand from (answer_to j line).next next q rest
  Noises : (j : Judge) (stand : Stand) (p : Peer) (way : Way) (line octets : List ℕ)
      → IsDamaged line from octets → MayStand from j stand p way → MayStand from (answer_to j line).next stand p way
  -- octets of the other end are: these, or a frame, may come
  Fails : (j : Judge) (stand : Stand) (p : Peer) (way : Way) (line octets : List ℕ) (what : Option PlainFrame)
      → IsDamaged line (other from) octets → IsTimely way → MayStand from j stand p way
      → MayStand from (answer_to j line).next stand p (way ++ what ∷ [])
  -- the front one comes and is passed over, or it is lost
  Passes : (j : Judge) (stand : Stand) (p : Peer) (what : Option PlainFrame) (way : Way)
      → MayStand from j stand p (what ∷ way) → MayStand from j stand p way
  -- in a session it comes, and is heard or not, and taken or not
  Comes : (j : Judge) (p q : Peer) (frame : PlainFrame) (way : Way) → MayHear p (Ok frame) q
      → MayStand from j In p (Some frame ∷ way) → MayStand from j In q way
  -- the UA comes that it awaits, and a session begins
  TakesUa : (j : Judge) (p : Peer) (f : Bool) (way : Way) → MayStand from j Asking p (Some (ua f) ∷ way)
      → MayStand from j In fresh_peer way
