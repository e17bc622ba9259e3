-- The manners of an end: V(S) set back with cause, REJ once for a gap, F=1 for P=1, and the window of --k. ITU-T X.25
-- (10/96), sections 2.4.3, 2.4.5.1, 2.4.5.4, 2.4.5.9 and 2.4.8.6; what is said behind a fault is profile.
use Rattle.std.specs.Prelude.{ℕ, ◌+◌, ◌-◌, ◌%◌, ◌==◌, nat_lt, nat_le, Bool, true, false, not, ◌&&◌, ◌||◌, if◌then◌else◌}
use Rattle.std.specs.Prelude.{min, Some, None}
use Rattle.x25_packet_judge.specs.Numbers.{apart, less}
use Rattle.x25_judge.specs.declared.{manners.Manners.{Manners}, manners.Minded.{Minded}, manners.Place.{Place}}
use Rattle.x25_judge.specs.declared.{note.Note.{Note}, note.Note.TheVariants.{PollAgain, PollUnseen, SentAgain}}
use Rattle.x25_judge.specs.declared.rule.Rule.{Rule}
use Rattle.x25_judge.specs.declared.rule.Rule.TheVariants.{NoPoll, RejectAgain, OverWindow, Skips, Repeats}
use Rattle.x25_possible_links.specs.declared.stand.Numbers.{Numbers}

abbrev pub place_of : Numbers → Place
place_of k = record {
  next = k.sent % 8;
  ever = k.sent;
  pending = if nat_lt (k.sent - k.acked) 8 then k.sent - k.acked else 8;
}

abbrev pub again : Bool → Manners → Minded
again is_again m = record { manners = m; rule = None; note = None; is_again = is_again }

abbrev pub quiet : Manners → Minded
quiet m = again false m

abbrev pub breaks : Rule → Bool → Manners → Minded
breaks rule is_again m = record { manners = m; rule = Some rule; note = None; is_again = is_again }

abbrev pub notes : Note → Bool → Manners → Minded
notes note is_again m = record { manners = m; rule = None; note = Some note; is_again = is_again }

-- 255 stand for that many or more
abbrev pub more : ℕ → ℕ
more n = min 255 (n + 1)

abbrev pub none : Manners
none = record {
  behind = 0;
  causes = 0;
  reach = 8;
  farthest = 0;
  is_astray = false;
  is_adrift = false;
  is_rejecting = false;
  polls = 0;
  is_polling = false;
}

-- its numbers begin anew
abbrev pub begun : Manners → Manners
begun m = record none { polls = m.polls; is_polling = m.is_polling }

-- ---- P and F (2.4.3)

abbrev pub asks_on : Bool → Manners → Manners
asks_on is_polling m = record m { polls = more m.polls; is_polling = is_polling }

abbrev pub asks : Manners → Minded
asks m = if m.is_polling then notes PollAgain false (asks_on true m) else quiet (asks_on true m)

-- F=1 is sent to it
abbrev pub answered : Bool → Manners → Minded
answered is_shown m = after (record m { polls = less m.polls; is_polling = false })
  where
    after : Manners → Minded
    after n =
        if not (m.polls == 0) then quiet n
        else if is_shown then breaks NoPoll false n else notes PollUnseen false n

-- ---- N(R) and REJ (2.4.5.4)

abbrev pub hears : Bool → Manners → Manners
hears is_above m = record m { is_rejecting = m.is_rejecting && not is_above }

abbrev pub heard : Manners → Manners
heard m = record m { is_astray = false }

abbrev pub rejects : Bool → Manners → Minded
rejects is_sure m =
    if is_sure && m.is_rejecting then breaks RejectAgain false (record m { is_rejecting = true })
    else quiet (record m { is_rejecting = true })

abbrev pub sent_back : ℕ → Manners → Manners
sent_back far m = record m {
  causes = more m.causes;
  reach = far;
  farthest = if nat_lt 0 m.causes && nat_lt far m.farthest then m.farthest else far;
}

-- ---- octets that spell no frame

abbrev pub unheard : ℕ → Manners → Manners
unheard pending m = record (sent_back pending m) { is_astray = true; is_rejecting = false }

-- some of its own, or an I frame that doesn't show where V(S) stands: any number may be the next one
abbrev pub adrift : Manners → Manners
adrift m = record m { behind = 0; farthest = 255; is_adrift = true }

-- it is taken up where it stands: what may set its V(S) back was seen, and not to which number
abbrev pub found : Manners → Manners
found m = adrift (record (begun m) { causes = m.causes; reach = 0 })

-- ---- N(S) (2.4.5.1, 2.4.5.9)

-- the next new number goes, with P=0, and nothing is said of it
abbrev pub goes_straight : ℕ → Place → ℕ → Manners → Bool
goes_straight window at number m =
    m.behind == 0 && (apart at.next number == 0 && (nat_le 7 window || nat_lt at.pending window))

abbrev pub grown : ℕ → Manners → Manners
grown count m = record m {
  behind = 0;
  is_adrift = false;
  causes = if nat_lt 7 (m.reach + count) then 0 else m.causes;
  reach = if nat_lt 7 (m.reach + count) then 8 else m.reach + count;
  farthest = min 255 (m.farthest + count);
}

abbrev pub repeated : ℕ → Manners → Manners
repeated back m = record m { behind = back - 1; is_adrift = false }

abbrev pub gone_back : Bool → ℕ → Manners → Manners
gone_back is_poll back m = if is_poll then repeated back m else record (repeated back m) { causes = m.causes - 1 }

abbrev pub may_go_back : Place → Bool → ℕ → Manners → Bool
may_go_back at is_poll back m =
    nat_lt m.behind back && (nat_le at.pending back
    && (nat_le back at.ever && (is_poll || (nat_lt 0 m.causes && nat_le back m.farthest))))

abbrev pub goes_on : Place → ℕ → Manners → Bool
goes_on at back m = m.is_adrift || (back == m.behind || (nat_le at.pending back && nat_lt back m.behind))

-- seven are of order
abbrev pub sent_new : ℕ → Place → Manners → Minded
sent_new window at m =
    if nat_lt window 7 && nat_le window at.pending then breaks (OverWindow window) false (grown 1 m)
    else quiet (grown 1 m)

abbrev pub sent_again : Place → ℕ → Bool → ℕ → Manners → Minded
sent_again at next is_poll back m =
    if goes_on at back m then notes SentAgain true (repeated back m)
    else if may_go_back at is_poll back m then notes SentAgain true (gone_back is_poll back m)
    else if nat_lt back m.behind then breaks (Skips next) true (repeated back m)
    else breaks (Repeats next) true (repeated back m)

abbrev pub sends_from : ℕ → Place → ℕ → ℕ → Bool → Bool → Manners → Minded
sends_from window at back next is_poll skips m =
    if skips then breaks (Skips next) false (grown (9 - back) m)
    else if nat_lt 0 back then sent_again at next is_poll back m
    else if m.behind == 0 || at.pending == 0 then sent_new window at m
    else breaks (Skips next) false (grown 1 m)

-- where an N(R) may be missing, all may be acknowledged
abbrev pub seen_place : Place → Manners → Place
seen_place at m = if m.is_astray then record at { pending = 0 } else at

abbrev pub sends : ℕ → Place → ℕ → Bool → Bool → Manners → Minded
sends window at number is_poll skips m =
    sends_from window (seen_place at m) (apart at.next number) (apart at.next m.behind) is_poll skips m
