-- Two ends of any kind, set up and set up again by either at any moment: the rules of docs/PEER.md, the same for both.
-- Each move is of the near end, or of the line to it. The far end's moves are those of the two swapped.
use Rattle.std.specs.Prelude.{◌≡◌, ◌==◌, ℕ, suc, Bool, true, false, if◌then◌else◌, List, [], ◌∷◌, ◌++◌, map}
use Rattle.std.specs.Prelude.{Option}
use Rattle.x25_line.specs.laws.Loss.{LessAt}
use Rattle.x25_line.specs.laws.Said.{Said, Carried, Tells, Sabm, Disc, Ua, Else, Odd, sabm_of, ua_of, disc_of}
pub use Rattle.x25_line.specs.laws.Said.{Letter, letter, how_many}
use Rattle.x25_line.specs.{laws.Sessions.{Meeting, turned, meets}, laws.StationClaims.{Each}}
use Rattle.x25_line.specs.laws.Peer.{Peer, fresh_peer, MaySay, MayMake}

-- An end is out of a session, or awaits the UA to its SABM, or is in a session.
pub data Stand : Type 0 where
  Out : Stand
  Asking : Stand
  In : Stand

-- where an end stands, and how many sessions it began
pub record Stander : Type 0 where
  pub stand : Stand
  pub begun : ℕ

-- The ends; the line from the near end and the line to it, front first; and who heard whom, the latest first.
pub record Two : Type 0 where
  pub near : Stander
  pub far : Stander
  pub out : List Letter
  pub back : List Letter
  pub met : List Meeting

abbrev pub two_swapped : Two → Two
two_swapped w = record { near = w.far; far = w.near; out = w.back; back = w.out; met = map turned w.met }

-- ---- what is on a line

abbrev pub OfSabm : Said → Type 0 → Type 0
OfSabm Sabm P = P
OfSabm said P = Unit {0}

abbrev pub OfTells : Said → Type 0 → Type 0
OfTells (Tells carried nr) P = P
OfTells said P = Unit {0}

-- each SABM on the line was sent in this session, or since it ended
abbrev pub AreOf : ℕ → List Letter → Type 0
AreOf session es = Each (λ (e : Letter). OfSabm e.said (e.session ≡ session)) es

-- who meets whom, as an end hears it
abbrev pub heard : Stand → ℕ → Letter → List Meeting → List Meeting
heard In begun e met = meets e.said (record { near = begun; far = e.session }) met
heard stand begun e met = met

-- octets that read as no frame come in the place of others
abbrev pub IsSpoilt : Letter → Letter → Type 0
IsSpoilt e f = f ≡ letter e.session Else

-- ---- set-up

-- Patient, of any two ends: as an end sends SABM, no SABM and no DISC of its own and no UA to it is on the line; and
-- each SABM of the other end there was sent in the other's present session, or since it ended. (The last follows where
-- the other end never begins a session by a SABM that crossed its own.)
pub record IsPatient (w : Two) : Type 0 where
  pub sabm : how_many sabm_of w.out ≡ 0
  pub disc : how_many disc_of w.out ≡ 0
  pub ua : how_many ua_of w.back ≡ 0
  pub crossing : AreOf w.far.begun w.back

-- What the near end may do without an N(R), or the line to it; and what it hears or passes over.
pub data Moves (w : Two) : Two → Type 0 where
  -- DM, FRMR, octets that are passed over; and what is answered by FRMR
  free : Moves w (record w { out = w.out ++ letter w.near.begun Else ∷ [] })
  odd : Moves w (record w { out = w.out ++ letter w.near.begun Odd ∷ [] })
  asks : IsPatient w → Moves w (record w {
    near = record { stand = Asking; begun = w.near.begun };
    out = w.out ++ letter w.near.begun Sabm ∷ [];
  })
  closes : Moves w (record w {
    near = record { stand = Out; begun = w.near.begun };
    out = w.out ++ letter w.near.begun Disc ∷ [];
  })
  leaves : Moves w (record w { near = record { stand = Out; begun = w.near.begun } })
  hears : (e : Letter) (rest : List Letter) → w.back ≡ e ∷ rest
      → Moves w (record w { back = rest; met = heard w.near.stand w.near.begun e w.met })
  takes_ua : (s : ℕ) (rest : List Letter) → w.back ≡ letter s Ua ∷ rest → w.near.stand ≡ Asking
      → Moves w (record w { near = record { stand = In; begun = suc w.near.begun }; back = rest })
  takes_sabm : (s : ℕ) (rest : List Letter) → w.back ≡ letter s Sabm ∷ rest
      → Moves w (record w {
        near = record { stand = In; begun = suc w.near.begun };
        out = w.out ++ letter (suc w.near.begun) Ua ∷ [];
        back = rest;
      })
  waits_on : (s : ℕ) (rest : List Letter) → w.back ≡ letter s Sabm ∷ rest → w.near.stand ≡ Asking
      → Moves w (record w { out = w.out ++ letter w.near.begun Ua ∷ []; back = rest })
  takes_disc : (s : ℕ) (rest : List Letter) → w.back ≡ letter s Disc ∷ rest
      → Moves w (record w { out = w.out ++ letter w.near.begun Ua ∷ []; back = rest })
  loses : (place : ℕ) (es : List Letter) → LessAt IsSpoilt place w.back es → Moves w (record w { back = es })

-- the near end begins a session by it, with all numbers 0 and all lists empty
abbrev pub begins : {w v : Two} → Moves w v → Bool
begins (takes_ua s rest is asking) = true
begins (takes_sabm s rest is) = true
begins m = false

-- ---- with what each end was handed down, sent and took in each session, by its number

abbrev pub put_for : ℕ → Peer → (ℕ → Peer) → ℕ → Peer
put_for session peer all n = if n == session then peer else all n

pub record Ends : Type 0 where
  pub two : Two
  pub near_of : ℕ → Peer
  pub far_of : ℕ → Peer

abbrev pub ends_swapped : Ends → Ends
ends_swapped w = record { two = two_swapped w.two; near_of = w.far_of; far_of = w.near_of }

abbrev pub near_now : Ends → Peer
near_now w = w.near_of w.two.near.begun

abbrev pub with_near : Peer → Ends → ℕ → Peer
with_near p w = put_for w.two.near.begun p w.near_of

abbrev pub fresh_where : Bool → ℕ → (ℕ → Peer) → ℕ → Peer
fresh_where true session all = put_for (suc session) fresh_peer all
fresh_where false session all = all

-- the near end is handed down a packet
abbrev pub with_packet : List ℕ → Ends → Ends
with_packet packet w = record w {
  near_of = with_near (record (near_now w) { given = (near_now w).given ++ packet ∷ [] }) w;
}

pub data Does (w : Ends) : Ends → Type 0 where
  sends : (carried : Option Carried) (nr : ℕ) (q : Peer) → w.two.near.stand ≡ In
      → MaySay ⊥ (near_now w) (Tells carried nr) q
      → Does w (record w {
        two = record w.two { out = w.two.out ++ letter w.two.near.begun (Tells carried nr) ∷ [] };
        near_of = with_near q w;
      })
  listens : (e : Letter) (rest : List Letter) (q : Peer) → w.two.back ≡ e ∷ rest → w.two.near.stand ≡ In
      → MayMake (near_now w) e.said q
      → Does w (record w {
        two = record w.two { back = rest; met = heard w.two.near.stand w.two.near.begun e w.two.met };
        near_of = with_near q w;
      })
  moves : (v : Two) (m : Moves w.two v)
      → Does w (record w { two = v; near_of = fresh_where (begins m) w.two.near.begun w.near_of })

-- both ends, of which each began so many sessions
abbrev pub begin_at : Stand → ℕ → Ends
begin_at stand begun =
    let e : Stander = record { stand = stand; begun = begun } in
    record {
      two = record { near = e; far = e; out = []; back = []; met = [] };
      near_of = λ n. fresh_peer;
      far_of = λ n. fresh_peer;
    }

-- from nothing, or from a link just set up, event by event
pub data EndsReached : Ends → Type 0 where
  at_start : EndsReached (begin_at Out 0)
  set_up : EndsReached (begin_at In 1)
  near_handed : (w : Ends) (packet : List ℕ) → EndsReached w → w.two.near.stand ≡ In
      → EndsReached (with_packet packet w)
  far_handed : (w : Ends) (packet : List ℕ) → EndsReached w → w.two.far.stand ≡ In
      → EndsReached (ends_swapped (with_packet packet (ends_swapped w)))
  near_does : (w v : Ends) → EndsReached w → Does w v → EndsReached v
  far_does : (w v : Ends) → EndsReached w → Does (ends_swapped w) v → EndsReached (ends_swapped v)
