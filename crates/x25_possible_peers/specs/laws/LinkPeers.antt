-- A peer of the link, by the rules of `Ends` of x25_line, as an end of which a judge knows where it stands: what it
-- puts on the line goes by on the tape, and what is gone from the line to it came. ITU-T X.25 (10/96), sections 2.4.4
-- and
-- 2.4.5.
use Rattle.std.specs.Prelude.{◌≡◌, ◌⊎◌, ℕ, ◌+◌, ◌-◌, ◌≤◌, ◌<◌, Bool, false, not, List, [], ◌∷◌, ◌++◌, length}
use Rattle.std.specs.Prelude.{slice_get}
use Rattle.std.specs.Prelude.{Some, None}
use Rattle.x25_window.specs.code.Modulo.{resolved}
use Rattle.x25_line.specs.laws.Ends as line
use Rattle.x25_line.specs.laws.Ends.{Ends, Letter, Stander, Does, moves, loses, near_now, with_packet}
use Rattle.x25_line.specs.laws.Sessions.{Meeting}
use Rattle.x25_line.specs.laws.Peer.{Peer}
use Rattle.x25_line.specs.laws.Said as read
use Rattle.x25_line.specs.laws.Said.{Said}
use Rattle.x25_line.specs.laws.Tape.{is_item}
use Rattle.x25_possible.specs.laws.Possible.{Item, Own, Other, IsIn}
use Rattle.x25_possible_links.specs.laws.Link.{At, Owes, MaySend, MayTake}
use Rattle.x25_possible_links.specs.laws.Sets.{IsRoomy}
use Rattle.x25_possible_links.specs.code.Steps.{begun_as, played, sends_to}
use Rattle.x25_possible_links.specs.declared.frame.Frame.{Frame}
use Rattle.x25_possible_links.specs.declared.frame.Frame.TheVariants as frame
use Rattle.x25_possible_links.specs.declared.set.Told.TheVariants.{Nothing}
use Rattle.x25_possible_links.specs.declared.stand.Numbers.{Numbers}
use Rattle.x25_possible_links.specs.declared.stand.Stand.{Stand}
use Rattle.x25_possible_links.specs.declared.stand.Stand.TheVariants.{Out, Asking, Up}

-- ---- where it stands

abbrev pub numbers_of : Peer → Numbers
numbers_of p = record { sent = p.sent; acked = p.acked; taken = length p.taken; told = p.told }

abbrev pub stand_of : line.Stand → Peer → Stand
stand_of line.Out p = Out
stand_of line.Asking p = Asking
stand_of line.In p = Up (numbers_of p)

-- A judge has it there; or anywhere, where it is out: it may have left its session, or given up, without a frame.
abbrev pub StandsAt : Stand → Ends → Type 0
StandsAt s w = (s ≡ stand_of w.two.near.stand (near_now w)) ⊎ (w.two.near.stand ≡ line.Out)

-- ---- frames

-- an I frame has other octets than the packet of its number
abbrev pub differs : Peer → Said → Bool
differs p (read.Tells (Some c) nr) = not (is_item (slice_get p.given (resolved (p.sent - 7) c.ns)) c.packet)
differs p said = false

-- the frames that read so; octets that spell no frame are passed over, and a frame that LAPB doesn't have is none here
abbrev pub frames_of : Bool → Said → List Frame
frames_of d (read.Tells None nr) = frame.Ready nr ∷ []
frames_of d (read.Tells (Some c) nr) = frame.Info c.ns nr d ∷ []
frames_of d read.Sabm = frame.Sabm ∷ []
frames_of d read.Disc = frame.Disc ∷ []
frames_of d read.Ua = frame.Ua ∷ []
frames_of d read.Else = frame.Dm ∷ frame.Frmr ∷ frame.Unread ∷ []
frames_of d read.Odd = []

abbrev pub IsShown : Said → Frame → Type 0
IsShown said x = (d : Bool) × IsIn x (frames_of d said)

-- what is on the line to it is on its way, front first
abbrev pub AreShown : List Letter → List Frame → Type 0
AreShown [] [] = Unit {0}
AreShown (e ∷ es) (x ∷ way) = IsShown e.said x × AreShown es way
AreShown es way = ⊥

-- it puts one frame on the line, or none
abbrev pub ArePut : Peer → List Letter → List Frame → Type 0
ArePut p [] [] = Unit {0}
ArePut p (e ∷ []) (x ∷ []) = IsIn x (frames_of (differs p e.said) e.said)
ArePut p es own = ⊥

-- ---- a step

-- each move is the end's but the loss of what is on the line to it, which it passes over in its turn
abbrev pub IsOwn : {w v : Ends} → Does w v → Type 0
IsOwn (moves v (loses place es less)) = ⊥
IsOwn does = Unit {0}

abbrev pub OfDisc : Said → Type 0 → Type 0
OfDisc read.Disc P = P
OfDisc said P = Unit {0}

-- Beyond the rules of docs/PEER.md it is in no session as it sends DM, and out as it sends FRMR and as it answers DISC
-- (sections 2.4.4.3 and 2.4.4.4).
abbrev pub HasLeft : line.Stand → List Letter → List Frame → Type 0
HasLeft stand [] (frame.Dm ∷ []) = stand ≡ line.In → ⊥
HasLeft stand [] (frame.Frmr ∷ []) = stand ≡ line.Out
HasLeft stand (e ∷ []) (x ∷ []) = OfDisc e.said (stand ≡ line.Out)
HasLeft stand came own = Unit {0}

-- These letters come to it, and these frames it sends. Numbers go one by one when they go for the first time (2.4.5.1).
pub record IsStep (w v : Ends) (came own : List Frame) : Type 0 where
  pub does : Does w v
  pub is_own : IsOwn does
  pub taken : List Letter
  pub put : List Letter
  pub back : w.two.back ≡ taken ++ v.two.back
  pub out : v.two.out ≡ w.two.out ++ put
  pub comes : AreShown taken came
  pub goes : ArePut (near_now w) put own
  pub left : HasLeft w.two.near.stand taken own
  pub in_turn : (near_now v).sent ≤ (near_now w).sent + 1

-- ---- that it keeps the rules of a link

-- what a judge's end makes of it, with this on the way behind what comes
abbrev pub Goes : Stand → List Frame → List Frame → List Frame → Stand → Type 0
Goes s [] way [] r = s ≡ r
Goes s [] way (x ∷ []) r = MaySend (At s) way x (At r)
Goes s (y ∷ []) way [] r = MayTake (At s) y (At r)
Goes s (y ∷ []) way (x ∷ []) r = MayTake (At s) y (Owes r) × MaySend (Owes r) way x (At r)
Goes s came way own r = ⊥

pub record IsAllowed (s : Stand) (v : Ends) (came way own : List Frame) : Type 0 where
  pub stand : Stand
  pub stands : StandsAt stand v
  pub goes : Goes s came way own stand

-- each step of such a peer is one of an end that keeps the rules of a link
abbrev pub LinkStepsAreAllowed : Type 0
LinkStepsAreAllowed =
    (w v : Ends) (s : Stand) (came way own : List Frame) → StandsAt s w → AreShown v.two.back way → IsStep w v came own
    → IsAllowed s v came way own

-- ---- over a whole tape

abbrev pub with_letter : Letter → Ends → Ends
with_letter e w = record w { two = record w.two { back = w.two.back ++ e ∷ [] } }

abbrev pub sent_on : List Frame → List (Item Frame) → List (Item Frame)
sent_on [] tape = tape
sent_on (x ∷ own) tape = Own x ∷ tape

-- Such a peer behind a tape, latest first, and what the other end sent on the way to it, front first. It begins where
-- nothing is on the way, and the judge knows where it stands, or one of the stands where it may; it is handed down
-- packets and makes its steps; the other end sends any frame, and does what it likes besides.
pub data LinkStands (begun : List Stand) : List (Item Frame) → Ends → List Frame → Type 0 where
  Begins : (w : Ends) (s : Stand) → IsIn s begun → StandsAt s w → w.two.back ≡ [] → LinkStands begun [] w []
  HandsDown : (tape : List (Item Frame)) (w : Ends) (way : List Frame) (packet : List ℕ) → LinkStands begun tape w way
      → LinkStands begun tape (with_packet packet w) way
  Steps : (tape : List (Item Frame)) (w v : Ends) (came way own : List Frame) → IsStep w v came own
      → LinkStands begun tape w (came ++ way) → LinkStands begun (sent_on own tape) v way
  Shown : (tape : List (Item Frame)) (w : Ends) (way : List Frame) (e : Letter) (x : Frame) → IsShown e.said x
      → LinkStands begun tape w way → LinkStands begun (Other x ∷ tape) (with_letter e w) (way ++ x ∷ [])
  Others : (tape : List (Item Frame)) (w : Ends) (way : List Frame) (far : Stander) (out : List Letter)
      (met : List Meeting) (far_of : ℕ → Peer) → LinkStands begun tape w way
      → LinkStands begun tape (record w {
        two = record w.two { far = far; out = out; met = met };
        far_of = far_of;
      }) way

-- nothing comes to it behind which the other end has sent 64 more
abbrev pub IsPrompt : {begun : List Stand} {tape : List (Item Frame)} {w : Ends} {way : List Frame}
    → LinkStands begun tape w way → Type 0
IsPrompt (Begins w s is at none) = Unit {0}
IsPrompt (HandsDown tape w way packet run) = IsPrompt run
IsPrompt (Steps tape w v came way own step run) = IsPrompt run
IsPrompt (Shown tape w way e x is run) = (length way < 64) × IsPrompt run
IsPrompt (Others tape w way far out met far_of run) = IsPrompt run

-- of such a peer no rule of order is told, frame by frame, nor that numbers are left out
abbrev pub NoLinkPeerIsTold : Type 0
NoLinkPeerIsTold =
    (begun : List Stand) (tape : List (Item Frame)) (x : Frame) (w : Ends) (way : List Frame)
    (run : LinkStands begun (Own x ∷ tape) w way)
    → IsPrompt run ⊎ IsRoomy begun tape → (sends_to x (played (begun_as begun) tape)).told ≡ Nothing
