-- The places in which an end of a link may be, told of by a tape: each stands for all to which the end comes from there
-- by what is on the way to it.
use Rattle.std.specs.Prelude.{ℕ, ◌-◌, Bool, true, false, if◌then◌else◌, List, [], ◌∷◌, ◌++◌, map, flat_map, Option}
use Rattle.std.specs.Prelude.{Some, None}
use Rattle.x25_possible.specs.Channel.{nth}
use Rattle.x25_possible.specs.laws.Possible.{Item, Own, Other, Place, at}
use Rattle.x25_possible_links.specs.laws.Link.{fresh, heard, is_asking, may_answer, sends_as}
use Rattle.x25_possible_links.specs.declared.frame.Frame.{Frame}
use Rattle.x25_possible_links.specs.declared.frame.Frame.TheVariants.{Info, Ready, Sabm, Disc, Ua, Dm, Frmr, Unread}
use Rattle.x25_possible_links.specs.declared.frame.Frame.TheVariants.{Before}
use Rattle.x25_possible_links.specs.declared.stand.Stand.{Stand}
use Rattle.x25_possible_links.specs.declared.stand.Stand.TheVariants.{Out, Asking, Up, Free}

-- ---- one step

-- N(S) stands for the one number that it may
abbrev pub number_of : Stand → Frame → ℕ
number_of (Up k) (Info ns nr differs) = nth (k.sent - 7) ns
number_of s x = 0

-- and N(R) for the least
abbrev pub least_of : Stand → Frame → ℕ
least_of (Up k) (Info ns nr differs) = nth k.told nr
least_of (Up k) (Ready nr) = nth k.told nr
least_of s x = 0

abbrev pub sends : Stand → List Frame → Frame → Option Stand
sends s way x = sends_as (number_of s x) (least_of s x) s way x

-- the best that it may make of what comes: in a session it hears and takes all that it may
abbrev pub onward : Stand → Frame → Stand
onward Out x = Out
onward Asking x = Asking
onward (Up k) x = Up (heard true true k x)
onward Free x = Free

-- and on the way to a frame with a number: it begins a session as soon as it may
abbrev pub upward : Stand → Frame → Stand
upward Asking x = if may_answer x then fresh else Asking
upward s x = onward s x

-- whether it loses nothing by making the best of it at once
abbrev pub is_plain : Stand → Frame → Bool
is_plain s (Info ns nr differs) = true
is_plain s (Ready nr) = true
is_plain s Dm = true
is_plain s Frmr = true
is_plain Out Ua = true
is_plain (Up k) Ua = true
is_plain s x = false

abbrev pub settled : Stand → List Frame → Place Stand Frame
settled s [] = at s []
settled s (x ∷ way) = if is_plain s x then settled (onward s x) way else at s (x ∷ way)

abbrev pub settle : Place Stand Frame → Place Stand Frame
settle q = settled q.state q.way

-- ---- as the end sends a frame

-- the first place on the way in which it may send it
abbrev pub first : Option Stand → List Frame → List (Place Stand Frame) → List (Place Stand Frame)
first (Some r) way later = at r way ∷ []
first None way later = later

abbrev pub goes : Frame → Stand → List Frame → List (Place Stand Frame)
goes x s [] = first (sends s [] x) [] []
goes x s (y ∷ way) = first (sends s (y ∷ way) x) (y ∷ way) (goes x (upward s y) way)

-- UA to SABM: a session begins, or the end waits on
abbrev pub answered : Stand → List Frame → List (Place Stand Frame)
answered s way = if is_asking s then at fresh way ∷ at Asking way ∷ [] else at fresh way ∷ []

-- to the first SABM on the way, or to a DISC before that
abbrev pub answers : Stand → List Frame → List (Place Stand Frame)
answers s [] = []
answers s (Sabm ∷ way) = answered s way
answers s (Unread ∷ way) = answered s way
answers s (Before ∷ way) = answered s (Before ∷ way)
answers s (Disc ∷ way) = at Out way ∷ answers s way
answers s (y ∷ way) = answers s way

-- octets that spell no frame, but for none: UA, SABM, or an I frame of the next number; all else leads to no more than
-- these, and where nothing is known to nothing more
abbrev pub any : Stand → List Frame → List (Place Stand Frame)
any Free way = []
any s way = answers s way ++ (goes Sabm s way ++ goes Unread s way)

abbrev pub walks : Frame → Place Stand Frame → List (Place Stand Frame)
walks Ua q = answers q.state q.way
walks Unread q = q ∷ any q.state q.way
walks x q = goes x q.state q.way

-- ---- over a tape, latest first

abbrev pub shown : Frame → Place Stand Frame → Place Stand Frame
shown x q = settled q.state (q.way ++ x ∷ [])

abbrev pub places : List Stand → List (Item Frame) → List (Place Stand Frame)
places begun [] = map (λ s. at s []) begun
places begun (Own x ∷ tape) = map settle (flat_map (walks x) (places begun tape))
places begun (Other x ∷ tape) = map (shown x) (places begun tape)
