-- What holds of a station and any peer over set-up and re-set-up at any moment.
use Rattle.std.specs.Prelude.{◌≡◌, ◌≤◌, ◌⊎◌, true, Result, Ok}
use Rattle.x25_frame.specs.{Frame.{PlainFrame, frmr}, Reading.{frame_of}, declared.error.FrameError.{FrameError}}
use Rattle.x25_link.specs.{Station.{LinkSettings, is_up}, Link.{is_idle}}
use Rattle.x25_line.specs.{laws.Sessions.{Entry, Meeting, Sessions, letters}, laws.SessionClaims.{Each, SomeMet}}
use Rattle.x25_line.specs.laws.PeerSessions.{PeerSessions, ReachedInSessions, In, now, both_ends}
use Rattle.x25_line.specs.{laws.Ends.{AreOf}}

-- whatever happens, with any peer that keeps the rules of `Peer` and of set-up
abbrev pub WithAnyPeer : (LinkSettings → PeerSessions → Type 0) → Type 0
WithAnyPeer Holds =
    (c : LinkSettings) → 1 ≤ c.window → c.window ≤ 7 → (w : PeerSessions) → ReachedInSessions (Unit {0}) c w → Holds c w

-- the same with one that sends nothing that is answered by FRMR
abbrev pub WithAnyLapbPeer : (LinkSettings → PeerSessions → Type 0) → Type 0
WithAnyLapbPeer Holds =
    (c : LinkSettings) → 1 ≤ c.window → c.window ≤ 7 → (w : PeerSessions) → ReachedInSessions ⊥ c w → Holds c w

-- the same of both ends, as the claims on two stations say it
abbrev pub OfBothEnds : (LinkSettings → LinkSettings → Sessions → Type 0) → LinkSettings → PeerSessions → Type 0
OfBothEnds Holds c w = Holds c c (both_ends w)

-- Where the station is idle, and the peer is in a session or met the station's, all that was handed down in this
-- session was taken in the peer's latest.
abbrev pub IdleHasArrived : LinkSettings → PeerSessions → Type 0
IdleHasArrived c w = is_idle w.near.station ≡ true
    → (w.peer.stand ≡ In) ⊎ SomeMet (λ (m : Meeting). m.near ≡ w.near.begun) w.met
    → (now w.peer).taken ≡ w.near.down w.near.begun

-- the session of an end that is in one meets no other than the latest of the other end
pub record EachMeetsLatest (c : LinkSettings) (w : PeerSessions) : Type 0 where
  pub near : is_up w.near.station.phase ≡ true
      → Each (λ (m : Meeting). m.near ≡ w.near.begun → m.far ≡ w.peer.begun) w.met
  pub peer : w.peer.stand ≡ In → Each (λ (m : Meeting). m.far ≡ w.peer.begun → m.near ≡ w.near.begun) w.met

-- no SABM of the station on the line is older than its present session
abbrev pub AsksInLatest : LinkSettings → PeerSessions → Type 0
AsksInLatest c w = AreOf w.near.begun (letters c.role c.longest w.out)

abbrev pub ReadsNoFrmr : Result PlainFrame FrameError → Type 0
ReadsNoFrmr (Ok (frmr f why)) = ⊥
ReadsNoFrmr read = Unit {0}

-- No FRMR is ever on the line to the peer, so that the station sends none.
abbrev pub SendsNoFrmr : LinkSettings → PeerSessions → Type 0
SendsNoFrmr c w = Each (λ (e : Entry). ReadsNoFrmr (frame_of c.role c.longest e.octets)) w.out
