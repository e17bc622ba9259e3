-- An end that keeps the rules of a link, as a peer by the rules of `Ends` of x25_line: where the two definitions
-- differ. ITU-T X.25 (10/96), sections 2.4.4, 2.4.5 and 2.4.8.
use Rattle.std.specs.Prelude.{◌≡◌, ◌⊎◌, ◌%◌, ◌≤◌, false, Bool, List, [], ◌∷◌, ◌++◌, map, slice_get, Some}
use Rattle.x25_line.specs.laws.Ends as line
use Rattle.x25_line.specs.laws.Ends.{Ends, Letter, letter, Does, IsPatient, near_now}
use Rattle.x25_line.specs.laws.Peer.{Peer}
use Rattle.x25_line.specs.laws.Said as read
use Rattle.x25_line.specs.laws.Said.{Said}
use Rattle.x25_possible.specs.laws.Possible.{IsIn}
use Rattle.x25_possible_links.specs.laws.Link.{State, At, Owes, MaySend, MayTake, has_ua}
use Rattle.x25_possible_links.specs.declared.frame.Frame.{Frame}
use Rattle.x25_possible_links.specs.declared.frame.Frame.TheVariants as frame
use Rattle.x25_possible_links.specs.declared.stand.Stand.{Stand}
use Rattle.x25_possible_links.specs.declared.stand.Stand.TheVariants.{Asking, Up}
use Rattle.x25_possible_peers.specs.laws.LinkPeers.{stand_of, differs, frames_of, AreShown}

-- ---- what a peer does

-- where it stands
abbrev pub stand_in : Ends → Stand
stand_in w = stand_of w.two.near.stand (near_now w)

-- it has left its session, or given up
abbrev pub out_of : Ends → Ends
out_of w = record w { two = record w.two { near = record { stand = line.Out; begun = w.two.near.begun } } }

-- A peer in w, which may leave its session first, makes a move. This is left on the line to it then, it has put this on
-- the line, and stands so.
pub record Reaches (w : Ends) (rest : List Letter) (put : List Said) (r : Stand) : Type 0 where
  pub first : Ends
  pub may_leave : (first ≡ w) ⊎ (Does w first × (first ≡ out_of w))
  pub next : Ends
  pub does : Does first next
  pub back : next.two.back ≡ rest
  pub out : next.two.out ≡ w.two.out ++ map (λ said. letter next.two.near.begun said) put
  pub stands : r ≡ stand_in next

-- ---- what the rules of a link allow beyond that

-- SABM where a peer isn't patient (rule 24)
pub data AsksBeyond (w : Ends) (way : List Frame) : Type 0 where
  -- again, at any moment while it awaits UA (2.4.4.1, 2.4.8.1)
  asks_again : (IsPatient w.two → ⊥) → w.two.near.stand ≡ line.Asking → AsksBeyond w way
  -- while its own SABM or DISC, or a SABM of an older session of the other end, is on the line: no tape shows that
  asks_early : (IsPatient w.two → ⊥) → has_ua way ≡ false → AsksBeyond w way

abbrev pub Beyond : Ends → List Frame → Said → Stand → Type 0
Beyond w way read.Sabm r = AsksBeyond w way × (r ≡ Asking)
Beyond w way said r = ⊥

-- ---- frames

-- not octets that spell no frame
abbrev pub IsRead : Frame → Type 0
IsRead frame.Unread = ⊥
IsRead x = Unit {0}

-- an I frame with the next new N(S) carries the next packet that it was handed down
abbrev pub IsGiven : Peer → Said → Type 0
IsGiven p (read.Tells (Some c) nr) = c.ns ≡ p.sent % 8 → slice_get p.given p.sent ≡ Some c.packet
IsGiven p said = Unit {0}

-- its last N(R) acknowledged no more than it took
abbrev pub HasTaken : State → Type 0
HasTaken (At (Up k)) = k.told ≤ k.taken
HasTaken s = Unit {0}

-- ---- the rules of a link are those of peers, and no more than that

pub record LinkRulesArePeers : Type 0 where
  -- what it may send, with this on the way to it
  pub sends : (w : Ends) (way : List Frame) (said : Said) (x : Frame) (r : Stand) → AreShown w.two.back way → IsRead x
      → IsIn x (frames_of (differs (near_now w) said) said) → IsGiven (near_now w) said
      → MaySend (At (stand_in w)) way x (At r)
      → Reaches w w.two.back (said ∷ []) r ⊎ Beyond w way said r
  pub beyond : (w : Ends) (way : List Frame) (r : Stand) → Beyond w way read.Sabm r
      → MaySend (At (stand_in w)) way frame.Sabm (At r)
  -- what it may make of what comes, and answers
  pub takes : (w : Ends) (e : Letter) (rest : List Letter) (x : Frame) (d : Bool) (r : Stand) → w.two.back ≡ e ∷ rest
      → IsRead x → IsIn x (frames_of d e.said) → MayTake (At (stand_in w)) x (At r) → Reaches w rest [] r
  pub answers : (w : Ends) (e : Letter) (rest : List Letter) (x : Frame) (d : Bool) (r : Stand) → w.two.back ≡ e ∷ rest
      → IsRead x → IsIn x (frames_of d e.said) → MayTake (At (stand_in w)) x (Owes r) → Reaches w rest (read.Ua ∷ []) r
  -- before it has answered it sends nothing else, and takes nothing
  pub owes : (r : Stand) (u : State) (way : List Frame) (x : Frame) → IsRead x → MaySend (Owes r) way x u
      → (x ≡ frame.Ua) × (u ≡ At r)
  pub waits : (r : Stand) (u : State) (x : Frame) → MayTake (Owes r) x u → ⊥
  -- octets that spell no frame stand for any frame, or for none.
  pub unread_sent : (s u : State) (way : List Frame) → HasTaken s → MaySend s way frame.Unread u
      → (s ≡ u) ⊎ ((x : Frame) × IsRead x × MaySend s way x u)
  pub unread_taken : (s u : State) → MayTake s frame.Unread u → (x : Frame) × IsRead x × MayTake s x u
