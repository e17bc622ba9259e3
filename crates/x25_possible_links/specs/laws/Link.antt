-- The rules of an end of a link, as LAPB modulo 8 has them (ITU-T X.25 (10/96), sections 2.3.4, 2.4.4 and 2.4.5), and
-- docs/PEER.md in words. Numbers are whole, and those of frames are these modulo 8.
use Rattle.std.specs.Prelude.{◌≡◌, ℕ, ◌+◌, ◌%◌, ◌==◌, nat_lt, nat_le, Bool, true, false, not, ◌&&◌, ◌||◌}
use Rattle.std.specs.Prelude.{if◌then◌else◌, List, [], ◌∷◌, Option, Some, None}
use Rattle.x25_possible.specs.Channel.{nth}
use Rattle.x25_possible.specs.laws.Possible.{Rules, IsIn}
use Rattle.x25_possible_links.specs.declared.frame.Frame.{Frame}
use Rattle.x25_possible_links.specs.declared.frame.Frame.TheVariants.{Info, Ready, Sabm, Disc, Ua, Dm, Frmr, Unread}
use Rattle.x25_possible_links.specs.declared.frame.Frame.TheVariants.{Before}
use Rattle.x25_possible_links.specs.declared.stand.Numbers.{Numbers}
use Rattle.x25_possible_links.specs.declared.stand.Stand.{Stand}
use Rattle.x25_possible_links.specs.declared.stand.Stand.TheVariants.{Out, Asking, Up, Free}

-- a session begins with all numbers 0 (2.4.4.1)
abbrev pub fresh : Stand
fresh = Up (record { sent = 0; acked = 0; taken = 0; told = 0 })

-- ---- numbers in a session (2.3.4, 2.4.5)

-- an N(R) that stands for t acknowledges no more than it took, and no less than its last one (2.3.4.9)
abbrev pub may_acknowledge : ℕ → Numbers → ℕ → Bool
may_acknowledge t k nr = nr == t % 8 && (nat_le k.told t && nat_le t k.taken)

-- An I frame whose N(S) stands for n: numbers go one by one when they go for the first time (2.4.5.1), and again with
-- the octets that they had (2.4.5.9), none eight back; at most seven are unacknowledged (2.4.8.6).
abbrev pub may_number : ℕ → Numbers → ℕ → Bool → Bool
may_number n k ns differs =
    ns == n % 8 && (nat_le n k.sent && (nat_le k.sent (n + 7)
    && (nat_lt n (k.acked + 7) && (n == k.sent || not differs))))

abbrev pub told_to : ℕ → Numbers → Numbers
told_to t k = record k { told = t }

abbrev pub sent_to : ℕ → Numbers → Numbers
sent_to n k = record k { sent = if n == k.sent then k.sent + 1 else k.sent }

-- what was sent then, where its N(S) and N(R) stand for n and t; octets that spell no frame may have been the next one
abbrev pub counted : ℕ → ℕ → Numbers → Frame → Numbers
counted n t k (Info ns nr differs) = told_to t (sent_to n k)
counted n t k (Ready nr) = told_to t k
counted n t k Unread = record k { sent = k.sent + 1 }
counted n t k x = k

abbrev pub may_count : ℕ → ℕ → Numbers → Frame → Bool
may_count n t k (Info ns nr differs) = may_number n k ns differs && may_acknowledge t k nr
may_count n t k (Ready nr) = may_acknowledge t k nr
may_count n t k Unread = nat_lt k.sent (k.acked + 7)
may_count n t k x = false

-- ---- what it may send, in each place

abbrev pub is_ua : Frame → Bool
is_ua Ua = true
is_ua x = false

abbrev pub has_ua : List Frame → Bool
has_ua [] = false
has_ua (x ∷ way) = is_ua x || has_ua way

-- it awaits UA, or may
abbrev pub is_asking : Stand → Bool
is_asking Out = false
is_asking Asking = true
is_asking (Up k) = false
is_asking Free = true

-- SABM: where no UA to it is on the way, and again at any moment where it awaits UA (2.4.4.1, 2.4.8.1)
abbrev pub asks : Stand → List Frame → Option Stand
asks s way = if is_asking s || not (has_ua way) then Some Asking else None

-- DM ends a session, and isn't sent in place of waiting for UA (2.4.4.4)
abbrev pub declines : Stand → Stand
declines Out = Out
declines Asking = Asking
declines (Up k) = Out
declines Free = Free

-- frames with numbers, in a session alone (2.4.4.2)
abbrev pub counts : ℕ → ℕ → Stand → Frame → Option Stand
counts n t Out x = None
counts n t Asking x = None
counts n t (Up k) x = if may_count n t k x then Some (Up (counted n t k x)) else None
counts n t Free x = Some Free

-- with what is on the way to it
abbrev pub sends_as : ℕ → ℕ → Stand → List Frame → Frame → Option Stand
sends_as n t s way (Info ns nr differs) = counts n t s (Info ns nr differs)
sends_as n t s way (Ready nr) = counts n t s (Ready nr)
sends_as n t s way Unread = counts n t s Unread
sends_as n t s way Sabm = asks s way
sends_as n t s way Disc = Some Out
sends_as n t s way Dm = Some (declines s)
sends_as n t s way Frmr = Some Out
sends_as n t s way Ua = None
sends_as n t s way Before = None

-- ---- what it makes of what comes

-- all below an N(R) is acknowledged to it, where it hears it, and a packet is taken whose N(S) is the next (2.4.5.2,
-- 2.4.5.5); what can't be read may have had any N(R), and the N(S) that is the next
abbrev pub heard : Bool → Bool → Numbers → Frame → Numbers
heard hears takes k (Info ns nr differs) = record k {
  acked = if hears then nth k.acked nr else k.acked;
  taken = if takes && ns == k.taken % 8 then k.taken + 1 else k.taken;
}
heard hears takes k (Ready nr) = record k { acked = if hears then nth k.acked nr else k.acked }
heard hears takes k Unread = record k {
  acked = if hears then k.acked + 7 else k.acked;
  taken = if takes then k.taken + 1 else k.taken;
}
heard hears takes k x = k

-- it may be UA
abbrev pub may_answer : Frame → Bool
may_answer Ua = true
may_answer Unread = true
may_answer x = false

-- UA to SABM begins a session, or the end waits on where it awaits UA itself (2.4.4.5.1); to DISC it ends one
abbrev pub asked : Stand → List Stand
asked s = if is_asking s then fresh ∷ Asking ∷ Out ∷ [] else fresh ∷ Out ∷ []

-- where it stands once it has answered
abbrev pub owed : Stand → Frame → List Stand
owed s Sabm = if is_asking s then fresh ∷ Asking ∷ [] else fresh ∷ []
owed s Disc = Out ∷ []
owed s Unread = asked s
owed s x = []

-- ---- an end that keeps the rules

-- it stands so, or has to answer by UA before anything else, and stands so then
pub data State : Type 0 where
  At : Stand → State
  Owes : Stand → State

-- What it may send, and where it is then. UA answers SABM and DISC alone, as they come, one each (2.4.4.1, 2.4.4.3); it
-- may answer what was sent before the first frame that was seen.
pub data MaySend : State → List Frame → Frame → State → Type 0 where
  sends : (s r : Stand) (way : List Frame) (x : Frame) (n t : ℕ) → sends_as n t s way x ≡ Some r
      → MaySend (At s) way x (At r)
  answers : (r : Stand) (way : List Frame) → MaySend (Owes r) way Ua (At r)
  answers_before : (s r : Stand) (way : List Frame) → IsIn r (asked s) → MaySend (At s) (Before ∷ way) Ua (At r)
  was_any : (s r : State) (way : List Frame) (x : Frame) → MaySend s way x r → MaySend s way Unread r
  was_none : (s : Stand) (way : List Frame) → MaySend (At s) way Unread (At s)

-- What it may make of what comes: it passes over it, hears or takes it or not, begins a session by the UA that it
-- awaits, or has to answer.
pub data MayTake : State → Frame → State → Type 0 where
  passes : (s : Stand) (x : Frame) → MayTake (At s) x (At s)
  hears : (k : Numbers) (x : Frame) (hears takes : Bool) → MayTake (At (Up k)) x (At (Up (heard hears takes k x)))
  begins : (x : Frame) → may_answer x ≡ true → MayTake (At Asking) x (At fresh)
  owes : (s r : Stand) (x : Frame) → IsIn r (owed s x) → MayTake (At s) x (Owes r)

abbrev pub link_rules : List Stand → Rules State Frame
link_rules begun = record {
  Begins = λ s. (u : Stand) × IsIn u begun × (s ≡ At u);
  Sends = MaySend;
  Takes = MayTake;
}
