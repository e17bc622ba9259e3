-- A station and a peer, set up and set up again at any moment by either end, over a line of octets that keeps order
-- and may lose or visibly damage any frame (profile: the line). A session of an end begins as it comes to be set up:
-- the station's as it notes LinkUp, the peer's by the rules of `Ends`. ITU-T X.25 (10/96), sections 2.4.4 and 2.4.8.1;
-- docs/PEER.md has the rules in words.
use Rattle.std.specs.Prelude.{◌≡◌, ℕ, suc, List, [], ◌∷◌, ◌++◌, map, true}
use Rattle.x25_frame.specs.Reading.{frame_of}
use Rattle.x25_link.specs.{declared.phase.Phase.{Phase}, declared.phase.Phase.TheVariants.{Down, Waiting, Up}}
use Rattle.x25_link.specs.{Station.{LinkSettings, with_nothing}, Hearing.{other}}
use Rattle.x25_line.specs.{laws.Stations.{Act, T1, is_visible}}
use Rattle.x25_line.specs.{laws.Peer.{Peer, fresh_peer}, laws.Said.{Odd as OddSaid, said, sabm_of, ua_of, how_many}}
use Rattle.x25_line.specs.laws.Sessions.{Entry, SessionEnd, Meeting, Sessions, turned, letters, acts, from_nothing}
use Rattle.x25_line.specs.laws.Loss.{Less}
use Rattle.x25_line.specs.{laws.Sessions.{from_set_up}}
use Rattle.x25_line.specs.laws.Ends.{AreOf, Ends, Does, put_for}
pub use Rattle.x25_line.specs.laws.Ends.{Stand, Out, Asking, In}

-- where it stands, how many sessions it began, and what is known of it in each, by its number
pub record PeerEnd : Type 0 where
  pub stand : Stand
  pub begun : ℕ
  pub of_session : ℕ → Peer

-- the latest session
abbrev pub now : PeerEnd → Peer
now p = p.of_session p.begun

abbrev pub with_now : Peer → PeerEnd → PeerEnd
with_now peer p = record { stand = p.stand; begun = p.begun; of_session = put_for p.begun peer p.of_session }

-- Begins: a session begins with all numbers 0 and all lists empty (section 2.4.4.1).
abbrev pub begins : PeerEnd → PeerEnd
begins p = record { stand = In; begun = suc p.begun; of_session = put_for (suc p.begun) fresh_peer p.of_session }

-- The station; the peer; the line from the station and the line to it, front first; and who heard whom, the latest
-- first, the station's sessions being the near ones.
pub record PeerSessions : Type 0 where
  pub near : SessionEnd
  pub peer : PeerEnd
  pub out : List Entry
  pub back : List Entry
  pub met : List Meeting

-- the peer as an end: what it was handed down and took in each session. Of a station nothing is known.
abbrev pub as_end : PeerEnd → SessionEnd
as_end p = record {
  station = with_nothing Down 0;
  begun = p.begun;
  down = λ n. (p.of_session n).given;
  up = λ n. (p.of_session n).taken;
}

abbrev pub both_ends : PeerSessions → Sessions
both_ends w = record { near = w.near; far = as_end w.peer; out = w.out; back = w.back; met = w.met; sent = [] }

abbrev pub with_peer : PeerEnd → Sessions → PeerSessions
with_peer p v = record { near = v.near; peer = p; out = v.out; back = v.back; met = v.met }

-- ---- timer T1 of the station while it awaits UA

-- T1 is longer than SABM and its UA are on the line, so that the line has brought too what the peer sent before it
-- answered: none of its SABMs is of an earlier session.
pub record IsDue (c : LinkSettings) (w : PeerSessions) : Type 0 where
  pub sabm : how_many sabm_of (letters c.role c.longest w.out) ≡ 0
  pub ua : how_many ua_of (letters (other c.role) c.longest w.back) ≡ 0
  pub crossing : AreOf w.peer.begun (letters (other c.role) c.longest w.back)

abbrev pub IsTimely : LinkSettings → Act → PeerSessions → Type 0
IsTimely c T1 w = w.near.station.phase ≡ Waiting → IsDue c w
IsTimely c act w = Unit {0}

-- ---- events

-- an end is out of a session that isn't Up, and awaits UA where it is Waiting
abbrev pub stand_of : Phase → Stand
stand_of Waiting = Asking
stand_of Up = In
stand_of phase = Out

-- As the peer sees it, whose end is the near one here. Of what the station was handed down and took nothing is known.
abbrev pub seen_by_peer : LinkSettings → PeerSessions → Ends
seen_by_peer c w = record {
  two = record {
    near = record { stand = w.peer.stand; begun = w.peer.begun };
    far = record { stand = stand_of w.near.station.phase; begun = w.near.begun };
    out = letters (other c.role) c.longest w.back;
    back = letters c.role c.longest w.out;
    met = map turned w.met;
  };
  near_of = w.peer.of_session;
  far_of = λ n. fresh_peer;
}

-- others come in the place of octets on the line, and that is seen
abbrev pub IsSeenIn : Entry → Entry → Type 0
IsSeenIn e f = (f.session ≡ e.session) × (is_visible f.octets ≡ true)

-- It puts octets behind the line from it, or none. `Odd` holds where it may send what is answered by FRMR.
pub data Puts (Odd : Type 0) (c : LinkSettings) (es : List Entry) : List Entry → Type 0 where
  nothing : Puts Odd c es es
  put : (e : Entry) → (said (frame_of (other c.role) c.longest e.octets) ≡ OddSaid → Odd)
      → Puts Odd c es (es ++ e ∷ [])

-- The peer does what any end may, by the rules of `Ends`, or the line to it loses or visibly damages octets. An end
-- that asks looks to the other's SABMs on the line: none of the station's is ever older than its present session.
pub record PeerHappens (Odd : Type 0) (c : LinkSettings) (w v : PeerSessions) : Type 0 where
  pub does : AreOf w.near.begun (letters c.role c.longest w.out)
      → Does (seen_by_peer c w) (seen_by_peer c (record v { near = w.near }))
  pub left : Less IsSeenIn w.out v.out
  pub puts : Puts Odd c w.back v.back

pub data HappensInSessions (Odd : Type 0) (c : LinkSettings) (w : PeerSessions) : PeerSessions → Type 0 where
  -- The station acts, by its definition: a packet is handed down, octets come, T1 runs out, connect, disconnect,
  -- abandon. Or octets on the line to it are lost or visibly damaged.
  Ours : (act : Act) → IsTimely c act w → HappensInSessions Odd c w (with_peer w.peer (acts c act (both_ends w)))
  -- the peer is handed down a packet
  HandsDown : (packet : List ℕ) → w.peer.stand ≡ In
      → HappensInSessions Odd c w (record w {
        peer = with_now (record (now w.peer) { given = (now w.peer).given ++ packet ∷ [] }) w.peer;
      })
  Theirs : (v : PeerSessions) → PeerHappens Odd c w v → HappensInSessions Odd c w (record v { near = w.near })

-- nothing was set up yet, or both ends were just set up, each in its first session
abbrev pub begin_with : Stand → Sessions → PeerSessions
begin_with stand v = with_peer (record { stand = stand; begun = v.far.begun; of_session = λ n. fresh_peer }) v

-- what is reached, event by event
pub data ReachedInSessions (Odd : Type 0) (c : LinkSettings) : PeerSessions → Type 0 where
  at_start : ReachedInSessions Odd c (begin_with Out from_nothing)
  set_up : ReachedInSessions Odd c (begin_with In from_set_up)
  goes_on : (w v : PeerSessions) → ReachedInSessions Odd c w → HappensInSessions Odd c w v → ReachedInSessions Odd c v
