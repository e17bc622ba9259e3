-- Both ends of a link, frame by frame: which rule is told, what is noted, and what is judged. The rules of order are
-- those of `link_rules` of x25_possible_links; how they are named, and manners, are of this crate.
use Rattle.std.specs.Prelude.{ℕ, ◌-◌, ◌%◌, ◌==◌, nat_lt, nat_le, Bool, true, false, not, ◌&&◌, ◌||◌, if◌then◌else◌}
use Rattle.std.specs.Prelude.{List, [], ◌∷◌, Option, Some, None, is_some}
use Rattle.x25_frame.specs.Frame.{PlainFrame, info, rr, rnr, rej, sabm, disc, ua, dm, frmr}
use Rattle.x25_judge.specs.{Held.{Held, differs, forgets, forgets_all, is_same, keeps, none_held}, Manners.{place_of}}
use Rattle.x25_judge.specs.Manners as manners
use Rattle.x25_judge.specs.Midst as midst
use Rattle.x25_judge.specs.{Note.{first_note}, Rule.{first}}
use Rattle.x25_judge.specs.declared.{links.End.{End}, links.Minding.{Minding}, links.Sent.{Sent}, links.Seen.{Seen}}
use Rattle.x25_judge.specs.declared.{manners.Manners.{Manners}, manners.Minded.{Minded}, manners.Place.{Place}}
use Rattle.x25_judge.specs.declared.{midst.Watch.{Watch}, midst.Watch.TheVariants.{Over, Unseen}}
use Rattle.x25_judge.specs.declared.{note.Note.{Note}, rule.Rule.{Rule}}
use Rattle.x25_judge.specs.declared.note.Note.TheVariants.{HeardBehindDamage, NumbersUnjudged, SentBehindDamage}
use Rattle.x25_judge.specs.declared.rule.Rule.TheVariants.{Differs, Falls, NotUp, OverWindow, UaUnasked, Unsent}
use Rattle.x25_packet_judge.specs.Numbers.{apart}
use Rattle.x25_possible_links.specs.code.Steps as steps
use Rattle.x25_possible_links.specs.code.Steps.{begun_as, facts, numbers, sends_to, session_facts, shows_to, unknown}
use Rattle.x25_possible_links.specs.declared.{frame.Frame.{Frame}, set.Facts.{Facts}, set.LinkSet.{LinkSet}}
use Rattle.x25_possible_links.specs.declared.frame.Frame.TheVariants.{Disc, Dm, Frmr, Info, Ready, Sabm, Ua, Unread}
use Rattle.x25_possible_links.specs.declared.{set.Told.{Told}, set.Told.TheVariants.{Broken, Nothing, Skips}}
use Rattle.x25_possible_links.specs.declared.{spots.Spot.{Spot}, stand.Numbers.{Numbers}, stand.Stand.{Stand}}
use Rattle.x25_possible_links.specs.declared.stand.Stand.TheVariants.{Up}

-- what the rules of a link look at of a frame
unfoldable pub shown : PlainFrame → Bool → Frame
shown (info ns nr p octets) differs = Info ns nr differs
shown (rr command nr pf) differs = Ready nr
shown (rnr command nr pf) differs = Ready nr
shown (rej command nr pf) differs = Ready nr
shown (sabm p) differs = Sabm
shown (disc p) differs = Disc
shown (ua f) differs = Ua
shown (dm f) differs = Dm
shown (frmr f why) differs = Frmr

-- it is UA, behind which I frames may come in front of a SABM or DISC that waits
unfoldable pub opens : LinkSet → PlainFrame → Bool
opens s (ua f) = steps.is_open s
opens s frame = false

-- ---- which rule

-- an N(R) that it may not send: whichever is nearer (2.3.4.9)
abbrev pub invalid : Numbers → ℕ → Rule
invalid k nr =
    if nat_le (apart (k.told % 8) nr) k.told && nat_lt (apart (k.told % 8) nr) (apart nr (k.taken % 8))
    then Falls (k.told % 8) else Unsent (k.taken % 8)

abbrev pub broken_up : Numbers → Frame → Rule
broken_up k (Info ns nr differs) =
    if nat_lt (k.taken - k.told) (apart nr (k.told % 8)) then invalid k nr
    else if differs then Differs else OverWindow 7
broken_up k (Ready nr) = invalid k nr
broken_up k x = NotUp

-- as the one of the places sees it that has come farthest
abbrev pub broken : Stand → Frame → Rule
broken s Ua = UaUnasked
broken (Up k) x = broken_up k x
broken s x = NotUp

-- but that numbers are left out in front of an I frame is of manners
abbrev pub rule_of : Told → Frame → Option Rule
rule_of Nothing x = None
rule_of (Skips s) (Info ns nr differs) = None
rule_of (Skips s) x = Some (broken s x)
rule_of (Broken s) x = Some (broken s x)

-- ---- an end

abbrev pub place_in : Stand → Place
place_in (Up k) = place_of k
place_in s = place_of (record { sent = 0; acked = 0; taken = 0; told = 0 })

abbrev pub place : End → Place
place e = place_in (numbers e.set)

abbrev pub judges_final : ℕ → Bool → Facts → Bool
judges_final polls f a = not f || (not (polls == 0) || a.is_shown)

-- its next frame is judged, where the other end sent so many commands with P=1 that aren't answered
unfoldable pub judges : ℕ → PlainFrame → Facts → Bool
judges polls (info ns nr p octets) a = a.is_sure && a.is_counted
judges polls (rr command nr pf) a = a.is_sure
judges polls (rnr command nr pf) a = a.is_sure
judges polls (rej command nr pf) a = a.is_sure
judges polls (sabm p) a = true
judges polls (disc p) a = true
judges polls (ua f) a = a.is_answering
judges polls (dm f) a = judges_final polls f a
judges polls (frmr f why) a = judges_final polls f a

abbrev pub held_by : Told → Held → Held
held_by (Skips s) h = forgets_all h
held_by told h = h

-- octets of numbers that it may have sent are known no longer
abbrev pub forgets_in : Stand → Held → Held
forgets_in (Up k) h = forgets (k.sent % 8) h
forgets_in s h = forgets_all h

abbrev pub forgets_each : List Spot → Held → Held
forgets_each [] h = h
forgets_each (q ∷ qs) h = forgets_each qs (forgets_in q.stand h)

-- nothing was sent
abbrev pub no_end : End
no_end = record { set = unknown; held = none_held; manners = manners.none; watch = Unseen }

abbrev pub with_minded : Minded → Seen → Seen
with_minded m t =
    record t { rule = first t.rule m.rule; note = first_note t.note m.note; is_again = t.is_again || m.is_again }

-- ---- manners, with what is said

abbrev pub by_own : Minded → Minding → Minding
by_own m b = record b { own = m.manners; seen = with_minded m b.seen }

abbrev pub by_other : Minded → Minding → Minding
by_other m b = record b { other = m.manners; seen = with_minded m b.seen }

-- P=1 of a command asks, F=1 of a response answers
abbrev pub asks : Bool → Minding → Minding
asks p b = if p then by_own (manners.asks b.own) b else b

abbrev pub answers : Bool → Bool → Minding → Minding
answers f is_shown b = if f then by_other (manners.answered is_shown b.other) b else b

abbrev pub bits : Bool → Bool → Bool → Minding → Minding
bits command pf is_shown b = if command then asks pf b else answers pf is_shown b

abbrev pub begins : Minding → Minding
begins b = record b { own = manners.begun b.own }

abbrev pub is_differing : Option Rule → Bool
is_differing (Some Differs) = true
is_differing rule = false

-- an I frame with which this is told; whether its number is told to have other octets
abbrev pub minded_as : Told → ℕ → Numbers → Sent → ℕ → Bool → Bool → Manners → Minded
minded_as (Broken s) window k t ns p differs m = manners.again (t.is_same || differs) m
minded_as (Skips s) window k t ns p differs m = manners.sends window (place_of k) ns p true m
minded_as Nothing window k t ns p differs m =
    if t.facts.is_counted then manners.sends window (place_of k) ns p false m
    else if ns == k.sent % 8 then manners.quiet (manners.adrift m)
    else manners.notes SentBehindDamage t.is_same (manners.adrift m)

-- where the end isn't known to be in a session, numbers may be left out
abbrev pub counts_in : Stand → Told → ℕ → Sent → ℕ → Bool → Minding → Minding
counts_in (Up k) told window t ns p b = by_own (minded_as told window k t ns p (is_differing b.seen.rule) b.own) b
counts_in s (Skips last) window t ns p b = by_own (manners.sends window (place_in s) ns p true b.own) b
counts_in s told window t ns p b = b

abbrev pub is_above : Stand → ℕ → Bool
is_above (Up k) nr = not (nr == k.told % 8)
is_above s nr = true

-- an N(R) that only octets explain that spell no frame
abbrev pub heard_in : Stand → ℕ → ℕ → Option Note
heard_in (Up k) nr next =
    if nat_lt (apart next (k.told % 8)) (apart nr (k.told % 8)) then Some HeardBehindDamage else None
heard_in s nr next = None

abbrev pub heard_note : Sent → LinkSet → ℕ → Option Note
heard_note t to nr = if t.takes_unread then heard_in t.facts.stand nr (place_in (numbers to)).next else None

-- an N(R), to an end that may be in these places
abbrev pub hears : Sent → LinkSet → ℕ → Minding → Minding
hears t to nr b = record {
  own = manners.hears (is_above t.facts.stand nr) b.own;
  other = manners.heard b.other;
  seen = record b.seen { note = first_note b.seen.note (heard_note t to nr) };
}

abbrev pub sends_back : LinkSet → ℕ → Minding → Minding
sends_back to nr b = record b { other = manners.sent_back (apart (place_in (numbers to)).next nr) b.other }

abbrev pub ready_minded : Sent → LinkSet → Bool → ℕ → Bool → Minding → Minding
ready_minded t to command nr pf b =
    if pf && not command then sends_back to nr (hears t to nr (bits command pf t.facts.is_known b))
    else hears t to nr (bits command pf t.facts.is_known b)

abbrev pub rejects : Bool → Minding → Minding
rejects is_sure b = by_own (manners.rejects is_sure b.own) b

abbrev pub reject_minded : Sent → LinkSet → Bool → ℕ → Bool → Minding → Minding
reject_minded t to command nr pf b =
    sends_back to nr (rejects t.facts.is_sure (hears t to nr (bits command pf t.facts.is_known b)))

abbrev pub accepts : Bool → Bool → Minding → Minding
accepts f is_shown b = if is_some b.seen.rule then b else answers f is_shown (begins b)

unfoldable pub minds : ℕ → Sent → LinkSet → PlainFrame → Minding → Minding
minds window t to (info ns nr p octets) b = hears t to nr (counts_in t.facts.stand t.told window t ns p (asks p b))
minds window t to (rr command nr pf) b = ready_minded t to command nr pf b
minds window t to (rnr command nr pf) b = ready_minded t to command nr pf b
minds window t to (rej command nr pf) b = reject_minded t to command nr pf b
minds window t to (sabm p) b = asks p (begins b)
minds window t to (disc p) b = asks p b
minds window t to (ua f) b = accepts f t.facts.is_shown b
minds window t to (dm f) b = answers f t.facts.is_shown b
minds window t to (frmr f why) b = answers f t.facts.is_shown b

-- ---- a frame of a session of which nothing is said

abbrev pub quiet : Seen
quiet = record { rule = None; note = None; is_again = false; is_judged = true; is_open = false }

abbrev pub quietly : Manners → Manners → Minding
quietly own other = record { own = own; other = other; seen = quiet }

abbrev pub polls_quietly : Bool → Bool → Manners → Manners → Bool
polls_quietly command pf own other = not pf || (if command then not own.is_polling else not (other.polls == 0))

unfoldable pub goes_quietly : ℕ → Numbers → PlainFrame → Manners → Manners → Bool
goes_quietly window k (info ns nr p octets) own other = not p && manners.goes_straight window (place_of k) ns own
goes_quietly window k (rr command nr pf) own other = polls_quietly command pf own other
goes_quietly window k (rnr command nr pf) own other = polls_quietly command pf own other
goes_quietly window k frame own other = false

abbrev pub passes_so : Option (Numbers × Numbers) → Option Numbers → ℕ → PlainFrame → Manners → Manners → Bool
passes_so (Some both) (Some taken) window frame own other = goes_quietly window both.0 frame own other
passes_so step taken window frame own other = false

abbrev pub passes : ℕ → PlainFrame → End → End → Bool
passes window frame own other = midst.is_over own.watch && passes_so (steps.steps (shown frame false) own.set)
    (steps.takes (shown frame false) other.set) window frame own.manners other.manners

-- in a session, with nothing on the way
abbrev pub steady : Bool → Numbers → Sent
steady is_same k = record { facts = session_facts k; told = Nothing; is_same = is_same; takes_unread = false }

-- ---- a frame: both ends, and what is said of it

pub record Both : Type 0 where
  pub own : End
  pub other : End
  pub seen : Seen

abbrev pub is_blind : End → End → Bool
is_blind own other = not (steps.is_known own.set) || not (steps.is_known other.set)

-- what is noted where there is no room any more
abbrev pub blind_note : Bool → Bool → Option Note
blind_note was is = if is && not was then Some NumbersUnjudged else None

-- the end behind it, but for manners
abbrev pub end_sent : PlainFrame → Frame → End → End
end_sent frame x e = record e {
  set = (sends_to x e.set).set;
  held = keeps (held_by (sends_to x e.set).told e.held) frame;
  watch = midst.sends x e.watch;
}

abbrev pub end_shown : Frame → End → End
end_shown x e = record e { set = shows_to x e.set }

abbrev pub is_up : Stand → Bool
is_up (Up k) = true
is_up s = false

abbrev pub sent_by : PlainFrame → Frame → End → Sent
sent_by frame x e = record {
  facts = facts x e.set;
  told = (sends_to x e.set).told;
  is_same = is_same e.held frame;
  takes_unread = is_up (numbers e.set)
      && nat_lt (steps.unread (sends_to x e.set).set.way.items) (steps.unread e.set.way.items);
}

-- but for manners
abbrev pub seen_of : Bool → Bool → Bool → ℕ → PlainFrame → Frame → Sent → Seen
seen_of was is is_open polls frame x t = record {
  rule = rule_of t.told x;
  note = blind_note was is;
  is_again = false;
  is_judged = judges polls frame t.facts;
  is_open = is_open;
}

abbrev pub mind : End → End → Minding → Both
mind own other b = record {
  own = record own { manners = b.own };
  other = record other { manners = b.other };
  seen = b.seen;
}

abbrev pub sees_by : ℕ → PlainFrame → Frame → Bool → Sent → End → End → Both
sees_by window frame x was t own other = mind own other (minds window t other.set frame (record {
  own = own.manners;
  other = other.manners;
  seen = seen_of was (is_blind own other) (opens own.set frame) other.manners.polls frame x t;
}))

abbrev pub sees_as : ℕ → PlainFrame → Frame → Bool → End → End → Both
sees_as window frame x was own other =
    sees_by window frame x was (sent_by frame x own) (end_sent frame x own) (end_shown x other)

-- ---- a link that the trace finds set up

-- it is in a session with such numbers, and nothing is on the way to it
abbrev pub standing : Numbers → End → End
standing k e = record e { set = begun_as (Up k ∷ []); manners = manners.found e.manners; watch = Over }

-- where it is known; field by field, as its octets stay in any case
abbrev pub taken_up : Bool → Numbers → End → End
taken_up known k e = record e {
  set = if known then begun_as (Up k ∷ []) else e.set;
  manners = if known then manners.found e.manners else e.manners;
  watch = if known then Over else e.watch;
}

-- both ends stand where what they sent shows them, as soon as it does
abbrev pub taken_both : Watch → Both → Both
taken_both was b = let known = midst.are_known b.own.watch b.other.watch in record {
  own = taken_up known (midst.numbers b.own.watch b.other.watch) b.own;
  other = taken_up known (midst.numbers b.other.watch b.own.watch) b.other;
  seen = record b.seen { note = first_note b.seen.note (midst.note_of known was b.own.watch) };
}

-- an end sends a frame; at most `window` I frames may be unacknowledged
abbrev pub sees : ℕ → PlainFrame → End → End → Both
sees window frame own other = taken_both own.watch
    (sees_as window frame (shown frame (differs own.held frame)) (is_blind own other) own other)

-- octets that spell no frame, which may have been any
pub record Missed : Type 0 where
  pub own : End
  pub other : End
  pub note : Option Note

abbrev pub misses : End → End → Missed
misses own other = record {
  own = record {
    set = (sends_to Unread own.set).set;
    held = forgets_each own.set.spots.items own.held;
    manners = manners.adrift (manners.asks_on own.manners.is_polling own.manners);
    watch = midst.sends Unread own.watch;
  };
  other = record other {
    set = shows_to Unread other.set;
    manners = manners.unheard (place other).pending other.manners;
  };
  note = blind_note (is_blind own other)
      (not (steps.is_known (sends_to Unread own.set).set) || not (steps.is_known (shows_to Unread other.set)));
}
