-- The packet layers of both ends, as the frames of the link show them: which of their packets are followed (profile).
use Rattle.std.specs.Prelude.{ℕ, ◌+◌, ◌%◌, ◌==◌, nat_lt, Bool, true, false, not, ◌&&◌, ◌||◌, if◌then◌else◌, min}
use Rattle.x25_packet_judge.specs.Numbers.{apart, less}
use Rattle.x25_packet_judge.specs.declared.layers.{Layer.{Layer}, Layers.{Layers}, Track.{Track}}
use Rattle.x25_packet_judge.specs.declared.layers.Track.TheVariants.{Unseen, Dropped, Followed}

-- ---- one end

abbrev pub is_unseen : Track → Bool
is_unseen Unseen = true
is_unseen track = false

abbrev pub is_dropped : Track → Bool
is_dropped Dropped = true
is_dropped track = false

abbrev pub is_followed : Track → Bool
is_followed Followed = true
is_followed track = false

-- nothing is known
abbrev pub unseen : Layer
unseen = record { track = Unseen; is_fresh = false; next = 0; acked = 0; asked = 0; is_quiet = false }

-- as a trace begins: a SABM that is seen first is the first one
abbrev pub new : Layer
new = record unseen { is_quiet = true }

-- the link is set up
abbrev pub begun : ℕ → Layer
begun asked = record unseen { track = Followed; is_fresh = true; asked = asked; is_quiet = true }

-- not all packets were seen
abbrev pub lost : Layer → Layer
lost l = record l { track = Unseen; is_fresh = false; is_quiet = false }

-- what it sent since its set-up may be on its way
abbrev pub is_under_way : Layer → Bool
is_under_way l = is_followed l.track && not l.is_fresh

-- Behind a set-up of the other end: what this end sent before it is dropped.
abbrev pub set_up_again : Layer → Layer
set_up_again l = if is_followed l.track && l.is_fresh then l else record l { track = Dropped }

-- UA again: it changes nothing where the first end sent nothing since the first one. Else its numbers begin anew, and
-- the other end may take those of before or these.
abbrev pub late : Layer → Layer
late l = record l { track = if is_under_way l then Dropped else l.track; asked = less l.asked }

-- ---- both

-- packets of the first end were missed, and so may be what the other end answers
abbrev pub loses : Layers → Layers
loses t = record { own = lost t.own; other = if t.other.is_fresh then t.other else lost t.other }

-- SABM or UA of the first end: its packets begin anew
abbrev pub begins : ℕ → Layers → Layers
begins asked t = record { own = begun asked; other = set_up_again t.other }

-- SABM or DISC asks for UA or DM
abbrev pub asks_more : Layers → Layers
asks_more t = record t { other = record t.other { asked = min (t.other.asked + 1) 255 } }

abbrev pub answers : Layers → Layers
answers t = record t { own = record t.own { asked = less t.own.asked } }

-- An N(R) is about the packets of the other end, but where one of both is behind a set-up.
abbrev pub may_hear : Layers → Bool
may_hear t = not (is_dropped t.own.track) && (not (is_dropped t.other.track) && not t.other.is_fresh)

-- one that acknowledges more than was seen shows that packets were missed
abbrev pub finds_other : ℕ → Layers → Bool
finds_other number t = may_hear t
    && (is_unseen t.other.track || nat_lt (apart t.other.next t.other.acked) (apart number t.other.acked))

-- a frame that may belong to no set-up
abbrev pub worn : Layers → Layers
worn t = record t { own = record t.own { is_fresh = false } }

-- one with a number is of a set-up, behind a SABM that may not have been seen
abbrev pub numbered : Layers → Layers
numbered t = record t {
  own = record t.own { is_fresh = false; is_quiet = t.own.is_quiet && not (is_unseen t.own.track) };
}

-- packets of the other end are followed from there on: it has taken none of them
abbrev pub hears : ℕ → Layers → Layers
hears number t =
    if finds_other number t then record (numbered t) {
      other = record t.other {
        track = Followed;
        is_fresh = false;
        next = number;
        acked = number;
        is_quiet = false;
      };
    }
    else if may_hear t then record (numbered t) { other = record t.other { acked = number } }
    else numbered t

-- one of both isn't followed before its next set-up
abbrev pub are_dropped : Layers → Bool
are_dropped t = is_dropped t.own.track || is_dropped t.other.track

-- packets are seen in the order of N(S), each once
abbrev pub is_next : ℕ → Layers → Bool
is_next number t = is_followed t.own.track && number == t.own.next

-- packets are judged where those of both ends are followed
abbrev pub may_judge : ℕ → Layers → Bool
may_judge number t = is_followed t.other.track && is_next number t

abbrev pub moves : ℕ → Layers → Layers
moves number t =
    if is_next number t then record t { own = record t.own { next = min (t.own.next + 1) 255 % 8 } } else t

-- SABM once more: the other end may have answered the first one, and its packets come behind that
abbrev pub is_asked_again : Layers → Bool
is_asked_again t = t.own.is_fresh && (is_dropped t.own.track || is_followed t.other.track)

-- What is on its way comes before SABM: until the other end is set up it may send by either. What wasn't seen may stand
-- between it and a SABM of before.
abbrev pub asks : Layers → Layers
asks t =
    if is_asked_again t then asks_more t
    else let next = begins t.own.asked (if is_under_way t.own
    then record t { other = record (asks_more t).other { track = Dropped } } else asks_more t) in
    record next { own = record next.own { is_quiet = t.own.is_quiet || not (is_unseen t.own.track) } }

-- UA again, before which nothing was sent since the first one, or behind frames of the other end
abbrev pub is_late : Layers → Bool
is_late t = not t.other.is_fresh || (is_followed t.own.track && t.own.is_fresh)

abbrev pub accepts : Layers → Layers
accepts t = if is_late t then record t { own = late t.own } else begins (less t.own.asked) t

-- octets that spell none may have been UA, where one was asked for
abbrev pub misses : Layers → Layers
misses t = if nat_lt 0 t.own.asked then loses (worn t) else worn t
