-- What an end over sessions may do, as what is known of it goes on: the rules of a peer, of an end that is in one of our phases.
use Rattle.x25_line.proofs.Names.{◌≡◌, ◌≤◌, ℕ, suc, List, [], ◌∷◌, ◌++◌, Bool, true, if◌then◌else◌, Some, Ok, PlainFrame, sabm, disc, ua, dm, frmr, frame_of}
use Rattle.x25_line.proofs.Names.{ReadsSpelled, Phase, Down, Waiting, Up, Closed, FrmrSent, LinkSettings, is_up, other, TakesPart, ending_of, LessAt, IsSeenIn}
use Rattle.x25_line.proofs.Names.{number_in, SessionLaws, Entry, Meeting, letters, meets, Peer, fresh_peer, MayHear, put_for, said, sabm_of, ua_of, disc_of}
use Rattle.x25_line.{proofs.Names.{how_many}, proofs.StationSays.{machine_of}, proofs.sessions.SessionLines.{Read}, specs.laws.Peer.{MaySend}}

-- what is read of octets that it sends, and of those that come to it
abbrev pub sends_read : LinkSettings → List ℕ → Read
sends_read d octets = frame_of d.role d.longest octets

-- octets that come to it, as it reads them
abbrev pub hears_read : LinkSettings → List ℕ → Read
hears_read d octets = frame_of (other d.role) d.longest octets

-- octets with the session in which they are sent
abbrev pub entry : ℕ → List ℕ → Entry
entry session octets = record { session = session; octets = octets }

-- who meets whom, as the front comes to it
abbrev pub heard_in : LinkSettings → Phase → ℕ → Entry → List Meeting → List Meeting
heard_in d p b e met = if is_up p then meets (said (hears_read d e.octets)) (record { near = b; far = e.session }) met else met

-- no SABM and no DISC of it, and no UA to it, is on the line
pub record IsClear (d : LinkSettings) (es out : List Entry) : Type 0 where
  pub sabm : how_many sabm_of (letters d.role d.longest out) ≡ 0
  pub disc : how_many disc_of (letters d.role d.longest out) ≡ 0
  pub ua : how_many ua_of (letters (other d.role) d.longest es) ≡ 0

-- it asks out of a session, or once more, where more is due of the line to it
abbrev pub MayAsk : Phase → Type 0 → Type 0
MayAsk Down Due = Unit {0}
MayAsk Waiting Due = Due
MayAsk phase Due = ⊥

-- What is known of it: the line to it, who met whom, its phase, how many sessions it began, what it is in each, and the line from it.
abbrev pub Known : Type 1
Known = List Entry → List Meeting → Phase → ℕ → (ℕ → Peer) → List Entry → Type 0

-- This goes on as each thing happens that it may do; `Due` is what is due of the line to it as it asks in a phase.
pub record MayDo (d : LinkSettings) (Due : Phase → List Entry → Type 0) (R : Known) : Type 0 where
  pub handed : (es : List Entry) (met : List Meeting) (b : ℕ) (all : ℕ → Peer) (out : List Entry) (packet : List ℕ) → R es met Up b all out
      → R es met Up b (put_for b (record (all b) { given = (all b).given ++ packet ∷ [] }) all) out
  pub tells : (es : List Entry) (met : List Meeting) (b : ℕ) (all : ℕ → Peer) (out : List Entry) (octets : List ℕ) (f : PlainFrame) (q : Peer)
      → sends_read d octets ≡ Ok f → number_in (Ok f) ≡ Some f
      → MaySend ⊥ (all b) (Ok f) q → R es met Up b all out → R es met Up b (put_for b q all) (out ++ entry b octets ∷ [])
  pub declines : (es : List Entry) (met : List Meeting) (p : Phase) (b : ℕ) (all : ℕ → Peer) (out : List Entry) (octets : List ℕ) (f : Bool)
      → sends_read d octets ≡ Ok (dm f)
      → R es met p b all out → R es met p b all (out ++ entry b octets ∷ [])
  pub asks : (es : List Entry) (met : List Meeting) (p : Phase) (b : ℕ) (all : ℕ → Peer) (out : List Entry) (octets : List ℕ) (pf : Bool) → sends_read d octets
      ≡ Ok (sabm pf) → Due p es → IsClear d es out
      → R es met p b all out → R es met Waiting b all (out ++ entry b octets ∷ [])
  pub closes : (es : List Entry) (met : List Meeting) (p : Phase) (b : ℕ) (all : ℕ → Peer) (out : List Entry) (octets : List ℕ) (pf : Bool)
      → sends_read d octets ≡ Ok (disc pf)
      → R es met p b all out → R es met Closed b all (out ++ entry b octets ∷ [])
  pub leaves : (es : List Entry) (met : List Meeting) (b : ℕ) (all : ℕ → Peer) (out : List Entry) → R es met Up b all out → R es met Down b all out
  pub gives_up : (es : List Entry) (met : List Meeting) (b : ℕ) (all : ℕ → Peer) (out : List Entry) → Due Waiting es → IsClear d es out
      → R es met Waiting b all out → R es met Down b all out
  -- what comes
  pub passes : (e : Entry) (es : List Entry) (met : List Meeting) (p : Phase) (b : ℕ) (all : ℕ → Peer) (out : List Entry) → R (e ∷ es) met p b all out
      → R es (heard_in d p b e met) p b all out
  pub hears : (e : Entry) (es : List Entry) (met : List Meeting) (b : ℕ) (all : ℕ → Peer) (out : List Entry) (q : Peer)
      → MayHear (all b) (hears_read d e.octets) q
      → R (e ∷ es) met Up b all out → R es (heard_in d Up b e met) Up b (put_for b q all) out
  pub takes_ua : (e : Entry) (es : List Entry) (met : List Meeting) (b : ℕ) (all : ℕ → Peer) (out : List Entry) → hears_read d e.octets ≡ Ok (ua true)
      → R (e ∷ es) met Waiting b all out → R es met Up (suc b) (put_for (suc b) fresh_peer all) out
  pub takes_sabm : (e : Entry) (es : List Entry) (met : List Meeting) (p : Phase) (b : ℕ) (all : ℕ → Peer) (out : List Entry) (octets : List ℕ) (pf f : Bool)
      → hears_read d e.octets ≡ Ok (sabm pf) → sends_read d octets ≡ Ok (ua f)
      → TakesPart p → R (e ∷ es) met p b all out → R es met Up (suc b) (put_for (suc b) fresh_peer all) (out ++ entry (suc b) octets ∷ [])
  pub waits_on : (e : Entry) (es : List Entry) (met : List Meeting) (b : ℕ) (all : ℕ → Peer) (out : List Entry) (octets : List ℕ) (pf f : Bool)
      → hears_read d e.octets ≡ Ok (sabm pf) → sends_read d octets ≡ Ok (ua f)
      → R (e ∷ es) met Waiting b all out → R es met Waiting b all (out ++ entry b octets ∷ [])
  pub takes_disc : (e : Entry) (es : List Entry) (met : List Meeting) (b : ℕ) (all : ℕ → Peer) (out : List Entry) (octets : List ℕ) (pf f : Bool)
      → hears_read d e.octets ≡ Ok (disc pf) → sends_read d octets ≡ Ok (ua f)
      → R (e ∷ es) met Up b all out → R es met Down b all (out ++ entry b octets ∷ [])
  -- it finds a fault, which it answers by FRMR
  pub faults : (e : Entry) (es : List Entry) (met : List Meeting) (b : ℕ) (all : ℕ → Peer) (out : List Entry) (octets : List ℕ) (f : Bool) (why : List ℕ)
      → ending_of (hears_read d e.octets) (machine_of d.window (all b)) ≡ Some FrmrSent
      → sends_read d octets ≡ Ok (frmr f why) → R (e ∷ es) met Up b all out → R es (heard_in d Up b e met) Down b all (out ++ entry b octets ∷ [])
  pub loses : {i : ℕ} {es fs : List Entry} (met : List Meeting) (p : Phase) (b : ℕ) (all : ℕ → Peer) (out : List Entry) → LessAt IsSeenIn i es fs
      → R es met p b all out → R fs met p b all out

-- a kind of end, with settings d
pub record Kind (d : LinkSettings) : Type 1 where
  pub high : d.window ≤ 7
  pub reads : ReadsSpelled
  pub rests : SessionLaws
  pub Due : Phase → List Entry → Type 0
  pub R : Known
  pub does : MayDo d Due R
