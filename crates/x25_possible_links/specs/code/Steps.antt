-- What a set of places becomes, frame by frame: over lists, in the order in which the code goes. No list has more than
-- 16 places: None where there is no room, or a number is too large.
use Rattle.std.specs.Prelude.{◌≡◌, ℕ, ◌+◌, ◌-◌, ◌%◌, ◌^◌, ◌<◌, ◌==◌, nat_lt, nat_le, Bool, true, false, not, ◌&&◌, ◌||◌}
use Rattle.std.specs.Prelude.{if◌then◌else◌, List, [], ◌∷◌, ◌++◌, length, drop, take, map, Option, Some, None}
use Rattle.x25_possible.specs.laws.Possible.{Item, Own, Other}
use Rattle.x25_possible.specs.Channel.{nth}
use Rattle.x25_possible_links.specs.laws.Link.{counts, fresh, heard, is_asking, is_ua, may_acknowledge, may_answer}
use Rattle.x25_possible_links.specs.laws.Places.{is_plain, least_of, number_of, onward, sends, upward}
use Rattle.x25_possible_links.specs.declared.frame.Frame.{Frame}
use Rattle.x25_possible_links.specs.declared.frame.Frame.TheVariants.{Info, Ready, Sabm, Disc, Ua, Unread, Before}
use Rattle.x25_possible_links.specs.declared.link.Mode.{Mode}
use Rattle.x25_possible_links.specs.declared.link.Mode.TheVariants.{Right, Skipping, Wrong}
use Rattle.x25_possible_links.specs.declared.set.Facts.{Facts}
use Rattle.x25_possible_links.specs.declared.set.LinkSet.{LinkSet}
use Rattle.x25_possible_links.specs.declared.set.Told.{Told}
use Rattle.x25_possible_links.specs.declared.set.Told.TheVariants.{Nothing, Skips, Broken}
use Rattle.x25_possible_links.specs.declared.spots.Spot.{Spot}
use Rattle.x25_possible_links.specs.declared.stand.Numbers.{Numbers}
use Rattle.x25_possible_links.specs.declared.stand.Stand.{Stand}
use Rattle.x25_possible_links.specs.declared.stand.Stand.TheVariants.{Out, Asking, Up, Free}

-- ---- numbers that are counted on

pub record HasRoom (k : Numbers) : Type 0 where
  pub sent : k.sent < 2 ^ 62
  pub acked : k.acked < 2 ^ 62
  pub taken : k.taken < 2 ^ 62
  pub told : k.told < 2 ^ 62

abbrev pub IsSmall : Stand → Type 0
IsSmall (Up k) = HasRoom k
IsSmall s = Unit {0}

abbrev pub is_large : Stand → Bool
is_large (Up k) =
    nat_lt 4611686018427387903 k.sent || nat_lt 4611686018427387903 k.acked || nat_lt 4611686018427387903 k.taken
    || nat_lt 4611686018427387903 k.told
is_large s = false

-- or it may be anywhere
abbrev pub is_lost : Stand → Bool
is_lost Free = true
is_lost s = is_large s

-- ---- behind a frame that no place allows

-- as if all numbers in front of it had gone
abbrev pub leapt_from : Stand → Frame → Option Stand
leapt_from s x = if is_large s then None else counts (number_of s x) (least_of s x) s x

-- behind an I frame that leaves numbers out
abbrev pub leapt : Stand → Frame → Option Stand
leapt (Up k) (Info ns nr differs) = leapt_from (Up (record k { sent = nth k.sent ns })) (Info ns nr false)
leapt s x = None

-- so many that what may be taken, or is acknowledged, isn't known
abbrev pub far : ℕ
far = 1152921504606846976

abbrev pub strays : Numbers → ℕ → Bool
strays k nr = nat_lt k.taken (nth k.told nr)

abbrev pub astray_by : Numbers → ℕ → Numbers
astray_by k nr = if strays k nr then record k { taken = far } else record k { acked = far }

abbrev pub gone_to : ℕ → Numbers → Numbers
gone_to n k = record k { sent = if nat_lt n k.sent then k.sent else n + 1 }

-- numbers go on from one that it may not send
abbrev pub onto : Stand → Frame → Option Stand
onto (Up k) (Info ns nr differs) = Some (Up (gone_to (nth (k.sent - 7) ns) (astray_by k nr)))
onto (Up k) (Ready nr) = Some (Up (astray_by k nr))
onto s x = None

abbrev pub moves : Mode → Stand → List Frame → Frame → Option Stand
moves Right s way x = sends s way x
moves Skipping s way x = leapt s x
moves Wrong s way x = onto s x

-- ---- one more place

abbrev pub numbers_below : Numbers → Numbers → Bool
numbers_below k j = j.sent == k.sent && (nat_le k.acked j.acked && (nat_le k.taken j.taken && nat_le j.told k.told))

abbrev pub is_below : Stand → Stand → Bool
is_below Out u = true
is_below Asking Asking = true
is_below Asking Free = true
is_below (Up k) (Up j) = numbers_below k j
is_below (Up k) Free = true
is_below Free Free = true
is_below s u = false

abbrev pub is_covered : Spot → List Spot → Bool
is_covered spot [] = false
is_covered spot (q ∷ qs) = (nat_le q.at spot.at && is_below spot.stand q.stand) || is_covered spot qs

abbrev pub kept : Spot → List Spot → Option (List Spot)
kept spot out =
    if is_covered spot out then Some out else if length out == 16 then None else Some (out ++ spot ∷ [])

-- a list that was made, where there was room
abbrev pub made : Bool → List Spot → Option (List Spot)
made b out = if b then Some out else None

abbrev pub and_then : Option (List Spot) → (List Spot → Option (List Spot)) → Option (List Spot)
and_then None f = None
and_then (Some out) f = f out

abbrev pub spot_at : ℕ → Stand → Spot
spot_at n s = record { stand = s; at = n }

-- with so much of the way in front of it: it makes the best of what it loses nothing by
abbrev pub best : ℕ → List Frame → Stand → Option Spot
best n [] s = if is_large s then None else Some (spot_at n s)
best n (x ∷ rest) s =
    if is_large s then None else if is_plain s x then best (n + 1) rest (onward s x) else Some (spot_at n s)

abbrev pub kept_by : Option Spot → List Spot → Option (List Spot)
kept_by None out = None
kept_by (Some spot) out = kept spot out

abbrev pub settles : ℕ → List Frame → Stand → List Spot → Option (List Spot)
settles n way s out = kept_by (best n way s) out

-- of each of these
abbrev pub all_of : (Spot → List Spot → Option (List Spot)) → List Spot → List Spot → Option (List Spot)
all_of step [] out = Some out
all_of step (q ∷ qs) out = and_then (step q out) (all_of step qs)

-- ---- as the end sends a frame

abbrev pub first_of : Option Stand → (Stand → Option (List Spot)) → Option (List Spot) → Option (List Spot)
first_of (Some r) keeps later = keeps r
first_of None keeps later = later

abbrev pub goes : Mode → Frame → List Frame → ℕ → List Frame → Stand → List Spot → Option (List Spot)
goes mode x way n [] s out =
    if is_large s then None else first_of (moves mode s [] x) (λ r. settles n (drop n way) r out) (Some out)
goes mode x way n (y ∷ rest) s out =
    if is_large s then None
    else first_of (moves mode s (y ∷ rest) x) (λ r. settles n (drop n way) r out)
    (goes mode x way (n + 1) rest (upward s y) out)

abbrev pub answered : List Frame → Stand → ℕ → List Spot → Option (List Spot)
answered way s n out = and_then (settles n (drop n way) fresh out) (λ mid.
    if is_asking s then settles n (drop n way) Asking mid else Some mid)

abbrev pub answers : List Frame → Stand → ℕ → List Frame → List Spot → Option (List Spot)
answers way s n [] out = Some out
answers way s n (Sabm ∷ rest) out = answered way s (n + 1) out
answers way s n (Unread ∷ rest) out = answered way s (n + 1) out
answers way s n (Before ∷ rest) out = answered way s n out
answers way s n (Disc ∷ rest) out =
    and_then (settles (n + 1) (drop (n + 1) way) Out out) (answers way s (n + 1) rest)
answers way s n (y ∷ rest) out = answers way s (n + 1) rest out

abbrev pub any : List Frame → ℕ → Stand → List Spot → Option (List Spot)
any way n Free out = Some out
any way n s out = and_then (answers way s n (drop n way) out) (λ b.
    and_then (goes Right Sabm way n (drop n way) s b) (goes Right Unread way n (drop n way) s))

abbrev pub any_frame : List Frame → Spot → List Spot → Option (List Spot)
any_frame way q out = and_then (settles q.at (drop q.at way) q.stand out) (any way q.at q.stand)

abbrev pub walks : Mode → Frame → List Frame → Spot → List Spot → Option (List Spot)
walks Right Ua way q out = answers way q.stand q.at (drop q.at way) out
walks Right Unread way q out = any_frame way q out
walks mode x way q out = goes mode x way q.at (drop q.at way) q.stand out

abbrev pub walk_all : Mode → Frame → List Frame → List Spot → List Spot → Option (List Spot)
walk_all mode x way qs out = all_of (walks mode x way) qs out

-- ---- where they stand once all has come

abbrev pub come : List Frame → Stand → Stand
come [] s = if is_lost s then Free else s
come (x ∷ way) s = if is_lost s then Free else come way (upward s x)

-- whatever it makes of what comes: UA may be passed over
abbrev pub pressed : Stand → Frame → Stand
pressed Asking x = if may_answer x then Free else Asking
pressed s x = onward s x

abbrev pub rushed : List Frame → Stand → Stand
rushed [] s = if is_lost s then Free else s
rushed (x ∷ way) s = if is_lost s then Free else rushed way (pressed s x)

-- where so many have come, the front of the way
abbrev pub hurried : ℕ → List Frame → Spot → Spot
hurried n front q = spot_at (q.at - n) (rushed (drop q.at front) q.stand)

-- past what comes, where octets that spell no frame were none
abbrev pub passed : Stand → Frame → Stand
passed s Unread = s
passed s x = upward s x

abbrev pub gone : List Frame → Stand → Stand
gone [] s = if is_lost s then Free else s
gone (x ∷ way) s = if is_lost s then Free else gone way (passed s x)

-- the first of those that have come farthest
abbrev pub farthest : List Spot → Spot → Spot
farthest [] far = far
farthest (q ∷ qs) far = farthest qs (if nat_lt far.at q.at then q else far)

abbrev pub latest : List Spot → List Frame → Stand
latest [] way = Free
latest (q ∷ qs) way = come (drop (farthest (q ∷ qs) q).at way) (farthest (q ∷ qs) q).stand

-- the first of all
abbrev pub plainest : List Spot → List Frame → Stand
plainest [] way = Free
plainest (q ∷ qs) way = gone (drop q.at way) q.stand

abbrev pub has_sent : ℕ → Stand → Bool
has_sent n (Up k) = k.sent == n
has_sent n s = true

abbrev pub agree : ℕ → List Frame → List Spot → Bool
agree n way [] = true
agree n way (q ∷ qs) = has_sent n (come (drop q.at way) q.stand) && agree n way qs

-- ---- as the other end sends one, and where less is on the way

abbrev pub grown : ℕ → List Frame → Spot → Option Spot
grown last way q = if nat_le q.at last then best q.at (drop q.at way) q.stand else None

abbrev pub with_first : Option Spot → Option (List Spot) → Option (List Spot)
with_first None o = None
with_first (Some q) None = None
with_first (Some q) (Some qs) = Some (q ∷ qs)

abbrev pub each_of : (Spot → Option Spot) → List Spot → Option (List Spot)
each_of f [] = Some []
each_of f (q ∷ qs) = with_first (f q) (each_of f qs)

abbrev pub grow_all : ℕ → List Frame → List Spot → Option (List Spot)
grow_all last way qs = each_of (grown last way) qs

abbrev pub shifted : ℕ → Spot → Spot
shifted n q = spot_at (q.at - n) q.stand

abbrev pub least : List Spot → ℕ → ℕ
least [] n = n
least (q ∷ qs) n = least qs (if nat_lt q.at n then q.at else n)

-- ---- a set

abbrev pub set_of : List Frame → List Spot → LinkSet
set_of way spots = record {
  way = record { items = way };
  spots = record { items = spots };
  spare = tt;
  is_blind = false;
}

abbrev pub set_as : LinkSet → List Frame → List Spot → LinkSet
set_as s way spots = record (set_of way spots) { is_blind = s.is_blind }

-- nothing is known
abbrev pub unknown : LinkSet
unknown = set_of (Before ∷ []) (spot_at 0 Free ∷ [])

abbrev pub is_free : Stand → Bool
is_free Free = true
is_free s = false

-- its one place, where something waits for it that may end this
abbrev pub is_loose_in : List Frame → List Spot → Bool
is_loose_in (x ∷ way) (q ∷ []) = is_free q.stand && (q.at == 0 && not (is_plain Free x))
is_loose_in way qs = false

abbrev pub is_loose : LinkSet → Bool
is_loose s = is_loose_in s.way.items s.spots.items

abbrev pub are_known : List Spot → Bool
are_known [] = true
are_known (q ∷ qs) = not (is_free q.stand) && are_known qs

abbrev pub is_known : LinkSet → Bool
is_known s = are_known s.spots.items

-- how much has come to all
abbrev pub came : LinkSet → ℕ
came s = least s.spots.items (length s.way.items)

abbrev pub trimmed_by : ℕ → LinkSet → LinkSet
trimmed_by n s = if n == 0 then s else set_as s (drop n s.way.items) (map (shifted n) s.spots.items)

abbrev pub trimmed : LinkSet → LinkSet
trimmed s = trimmed_by (came s) s

-- how much on the way can't be read
abbrev pub unread : List Frame → ℕ
unread [] = 0
unread (Unread ∷ way) = unread way + 1
unread (x ∷ way) = unread way

-- nothing of before may come
abbrev pub has_all : List Frame → Bool
has_all (Before ∷ way) = false
has_all way = true

abbrev pub is_followed : LinkSet → Bool
is_followed s = has_all s.way.items

abbrev pub is_request : Frame → Bool
is_request Sabm = true
is_request Disc = true
is_request x = false

abbrev pub has_request : List Frame → Bool
has_request [] = false
has_request (x ∷ way) = is_request x || has_request way

-- what was sent before may come to it: UA, where it awaits that, or what goes in a session that no frame began
abbrev pub is_waiting : Stand → Bool
is_waiting Asking = true
is_waiting s = false

abbrev pub is_in_session : Stand → Bool
is_in_session (Up k) = true
is_in_session s = false

-- one may be in a session, in front of all on the way
abbrev pub are_in_session : List Spot → Bool
are_in_session [] = false
are_in_session (q ∷ qs) = (q.at == 0 && is_in_session q.stand) || are_in_session qs

abbrev pub awaits_before : LinkSet → Bool
awaits_before s = not (is_followed s) && (is_waiting (latest s.spots.items s.way.items)
    || (are_in_session s.spots.items && not (has_request s.way.items)))

-- I frames, or octets that may be one, may come in front of a SABM or DISC that waits
abbrev pub carries : Frame → Bool
carries (Info ns nr differs) = true
carries Unread = true
carries x = false

abbrev pub hides : List Frame → Bool
hides [] = false
hides (x ∷ way) = (carries x && has_request way) || hides way

abbrev pub is_open : LinkSet → Bool
is_open s = hides s.way.items

abbrev pub is_sure : Stand → Bool
is_sure (Up k) = nat_lt k.taken far
is_sure Free = false
is_sure s = true

-- it is known what it may acknowledge
abbrev pub is_certain : LinkSet → Bool
is_certain s = is_known s && (unread s.way.items == 0 && is_sure (latest s.spots.items s.way.items))

-- its numbers, where octets that spell no frame were none; where it isn't in a session then, where they were any
abbrev pub numbers_by : Stand → Stand → Stand
numbers_by (Up k) s = Up k
numbers_by t s = s

abbrev pub numbers : LinkSet → Stand
numbers s = numbers_by (plainest s.spots.items s.way.items) (latest s.spots.items s.way.items)

-- V(S) is known, or none
abbrev pub is_counted : Stand → LinkSet → Bool
is_counted (Up k) s = agree k.sent s.way.items s.spots.items
is_counted t s = true

-- before a frame that it sends: what UA may answer is shown, or it may answer a request that is
abbrev pub facts : Frame → LinkSet → Facts
facts x s = record {
  stand = numbers s;
  is_sure = is_certain s;
  is_counted = is_counted (numbers s) s;
  is_known = is_known s;
  is_shown = is_known s && is_followed s;
  is_answering = is_ua x && (has_request s.way.items || is_followed s);
}

-- a set, and what is told
pub record Stepped : Type 0 where
  pub set : LinkSet
  pub told : Told

abbrev pub telling : Told → LinkSet → Stepped
telling told s = record { set = s; told = told }

abbrev pub standing : List Spot → LinkSet → LinkSet
standing qs s = trimmed (set_as s s.way.items qs)

-- it may be anywhere from there on
abbrev pub astray : ℕ → LinkSet → LinkSet
astray n s = standing (spot_at n Free ∷ []) s

-- there is no room
abbrev pub lost : ℕ → LinkSet → LinkSet
lost n s = astray n (record s { is_blind = true })

abbrev pub broken_by : Option (List Spot) → LinkSet → LinkSet
broken_by None s = lost (came s) s
broken_by (Some qs) s = if length qs == 0 then astray (came s) s else standing qs s

-- numbers go on from a frame that breaks a rule; where none do, nothing is known
abbrev pub broken : Frame → LinkSet → LinkSet
broken x s = broken_by (walk_all Wrong x s.way.items s.spots.items []) s

abbrev pub skipped_by : Option (List Spot) → Stand → Frame → LinkSet → Stepped
skipped_by None stand x s = telling (Broken stand) (lost (came s) s)
skipped_by (Some qs) stand x s =
    if length qs == 0 then telling (Broken stand) (broken x s) else telling (Skips stand) (standing qs s)

abbrev pub unexplained_as : Stand → Frame → LinkSet → Stepped
unexplained_as stand Ua s = telling (Broken stand) s
unexplained_as stand x s = skipped_by (walk_all Skipping x s.way.items s.spots.items []) stand x s

-- no place allows a frame: UA leaves all as it was
abbrev pub unexplained : Frame → LinkSet → Stepped
unexplained x s = unexplained_as (latest s.spots.items s.way.items) x s

abbrev pub sent_to : Frame → Option (List Spot) → LinkSet → Stepped
sent_to x None s = telling Nothing (lost (came s) s)
sent_to x (Some qs) s = if length qs == 0 then unexplained x s else telling Nothing (standing qs s)

-- the end sends a frame
abbrev pub sends_to : Frame → LinkSet → Stepped
sends_to x s = sent_to x (walk_all Right x s.way.items s.spots.items []) s

abbrev pub shown_to : LinkSet → List Frame → Option (List Spot) → LinkSet
shown_to s way None = lost (came s) (set_as s way s.spots.items)
shown_to s way (Some qs) = trimmed (set_as s way qs)

abbrev pub extended : Frame → LinkSet → LinkSet
extended x s =
    shown_to s (s.way.items ++ x ∷ []) (grow_all (length s.way.items) (s.way.items ++ x ∷ []) s.spots.items)

-- the older half of a way that is full counts as come: an end that awaited UA may have passed over one there
abbrev pub hastened_to : List Spot → LinkSet → LinkSet
hastened_to qs s = record {
  way = record { items = drop 64 s.way.items };
  spots = record { items = qs };
  spare = tt;
  is_blind = if are_known qs then s.is_blind else true;
}

abbrev pub hastened : LinkSet → LinkSet
hastened s = hastened_to (map (hurried 64 (take 64 s.way.items)) s.spots.items) s

-- the other end sends one
abbrev pub shows_to : Frame → LinkSet → LinkSet
shows_to x s = extended x (if length s.way.items == 128 then hastened s else s)

-- ---- one place in a session, with nothing on the way

-- numbers that aren't too large, and it is known what it may acknowledge
abbrev pub are_sure : Numbers → Bool
are_sure k = not (is_large (Up k)) && nat_lt k.taken far

-- and so are those behind a frame
abbrev pub near : ℕ
near = 576460752303423488

abbrev pub are_near : Numbers → Bool
are_near k = nat_lt k.sent near && (nat_lt k.acked near && (nat_lt k.taken near && nat_lt k.told near))

abbrev pub near_numbers : Stand → Option Numbers
near_numbers (Up k) = if are_near k then Some k else None
near_numbers s = None

-- its numbers behind the next I frame, RR, RNR or REJ that it sends, or behind one that comes
abbrev pub up_sends : Numbers → Frame → Option Numbers
up_sends k (Info ns nr differs) =
    if ns == k.sent % 8 && (nat_lt k.sent (k.acked + 7) && may_acknowledge (nth k.told nr) k nr)
    then Some (record k { sent = k.sent + 1; told = nth k.told nr }) else None
up_sends k (Ready nr) =
    if may_acknowledge (nth k.told nr) k nr then Some (record k { told = nth k.told nr }) else None
up_sends k x = None

abbrev pub up_hears : Numbers → Frame → Option Numbers
up_hears k (Info ns nr differs) = Some (heard true true k (Info ns nr differs))
up_hears k (Ready nr) = Some (heard true true k (Ready nr))
up_hears k x = None

-- an I frame of whichever octets
abbrev pub marked : Bool → Frame → Frame
marked differs (Info ns nr was) = Info ns nr differs
marked differs x = x

abbrev pub session_of : List Frame → List Spot → Option Numbers
session_of [] (q ∷ []) = if q.at == 0 then near_numbers q.stand else None
session_of way qs = None

abbrev pub session : LinkSet → Option Numbers
session s = session_of s.way.items s.spots.items

abbrev pub in_session : Numbers → LinkSet → LinkSet
in_session k s = set_as s [] (spot_at 0 (Up k) ∷ [])

-- all is known of it before a frame with a number
abbrev pub session_facts : Numbers → Facts
session_facts k = record {
  stand = Up k;
  is_sure = true;
  is_counted = true;
  is_known = true;
  is_shown = true;
  is_answering = false;
}

pub record IsInSession (s : LinkSet) : Type 0 where
  pub numbers : Numbers
  pub stands : s ≡ in_session numbers s

-- and the numbers before
abbrev pub both_of : Numbers → Option Numbers → Option (Numbers × Numbers)
both_of k None = None
both_of k (Some next) = Some (k, next)

abbrev pub steps_by : Option Numbers → Frame → Option (Numbers × Numbers)
steps_by None x = None
steps_by (Some k) x = both_of k (up_sends k x)

abbrev pub steps : Frame → LinkSet → Option (Numbers × Numbers)
steps x s = steps_by (session s) x

abbrev pub takes_by : Option Numbers → Frame → Option Numbers
takes_by None x = None
takes_by (Some k) x = up_hears k x

abbrev pub takes : Frame → LinkSet → Option Numbers
takes x s = takes_by (session s) x

-- then the set becomes so
pub record IsStep (x : Frame) (k next : Numbers) (s : LinkSet) : Type 0 where
  pub known : (differs : Bool) → facts (marked differs x) s ≡ session_facts k
  pub stands : s ≡ in_session k s
  pub step : (differs : Bool) → sends_to (marked differs x) s ≡ telling Nothing (in_session next s)

pub record IsTaken (x : Frame) (next : Numbers) (s : LinkSet) : Type 0 where
  pub there : numbers (in_session next s) ≡ Up next
  pub before : IsInSession s
  pub step : (differs : Bool) → shows_to (marked differs x) s ≡ in_session next s

-- ---- over a tape, latest first

-- where the end stood in one of these
abbrev pub begun_as : List Stand → LinkSet
begun_as begun = set_of [] (map (spot_at 0) begun)

abbrev pub played : LinkSet → List (Item Frame) → LinkSet
played s [] = s
played s (Own x ∷ tape) = (sends_to x (played s tape)).set
played s (Other x ∷ tape) = shows_to x (played s tape)
