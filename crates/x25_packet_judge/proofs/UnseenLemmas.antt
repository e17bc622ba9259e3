-- What a book makes of what isn't seen, isn't read or isn't judged.
use Rattle.x25_packet_judge.proofs.Names.{both_ways, ◌≡◌, ◌∙◌, ℕ, Bool, true, false, Some, None, Option, refl, sym, ap, arith, ◌%◌, ◌==◌, ◌&&◌, ◌||◌}
use Rattle.x25_packet_judge.proofs.Names.{not, if◌then◌else◌, List, Role, Dte, Dce, PlainPacket, is_of_all, lost, Book, Channel, end_of}
use Rattle.x25_packet_judge.proofs.Names.{is_known, Set, channel_of, nat_lt}
use Rattle.std.proofs.Common.{◌⊎◌, inl, inr, ◌+◌, ◌<◌, ◌≤◌, subst, Result, Ok, Err}
use Rattle.std.proofs.lemmas.Bool.{lt-ltb}
use Rattle.x25_decode.specs.declared.answer.Reading.{Reading}
use Rattle.x25_frame.specs.Frame.{PlainFrame, info, rr, rnr, rej, sabm, disc, ua, dm, frmr}
use Rattle.x25_packet.specs.{Reading.{channel_in, packet_of}, Spelling.{longest_user}, Grammar.{form_in}, Form.{PlainForm}, Taking.{taken_in}}
use Rattle.x25_packet.specs.declared.error.PacketError.{PacketError}
use Rattle.x25_packet_judge.specs.declared.{book.Noted.TheVariants.{Unjudged}, channel.Event.TheVariants.{Loss}, layers.Layers.{Layers}}
use Rattle.x25_packet_judge.proofs.{ChannelsLemmas.{happens_on}, BookLemmas.{takes_is}}
use Rattle.x25_packet_judge.specs.Book as book
use Rattle.x25_packet_judge.specs.Channel as channels
use Rattle.x25_packet_judge.specs.Layers as layers
use Rattle.x25_packet_judge.specs.Numbers.{apart}
use Rattle.x25_packet_judge.specs.laws.UnseenClaims.{HasBegun, HasSetsOf, Follows, Stays, Takes, Misses, KnowsNothing}
use Rattle.x25_packet_judge.specs.laws.UnseenClaims.{UnseenIsUnknown, WholeBooksFollow}
use Rattle.x25_possible.specs.code.Steps as sets
use Rattle.x25_possible.specs.declared.{set.Knowledge.{Knowledge}, set.Knowledge.TheVariants.{Blind, Lost}}

-- ---- what isn't seen

unknown_by : (k : Knowledge) (s : Set) → s.knowledge ≡ k → is_known (sets.hidden_by k Lost s) ≡ false
unknown_by Blind s is = ap sets.known_by is
unknown_by k s is = refl

lost_end : (role : Role) (c : Channel) → is_known (end_of role (lost c)) ≡ false
lost_end Dte c = unknown_by c.dte.knowledge c.dte refl
lost_end Dce c = unknown_by c.dce.knowledge c.dce refl

knows_nothing : (b : Book) → KnowsNothing (book.forgets b)
knows_nothing b = record {
  sets = λ role n. ap (λ c. is_known (end_of role c)) (happens_on Loss n b.channels) ∙ lost_end role (channel_of n b.channels);
  restarts = λ role. lost_end role b.restarts;
  whole = refl;
}

keeps_nothing : (from : Role) (t : Layers) (b : Book) → KnowsNothing b → KnowsNothing (book.keeps from t b)
keeps_nothing from t b h = record { sets = h.sets; restarts = h.restarts; whole = h.whole }

is_ahead : (to next from acked seen taken : ℕ) → from ≡ acked % 8 → next ≡ seen % 8 → to ≡ taken % 8 → acked ≤ seen → seen < taken
    → taken < acked + 8 → nat_lt (apart next from) (apart to from) ≡ true
is_ahead to next from acked seen taken f n t low more few =
    lt-ltb (apart next from) (apart to from) (omega (arith, f, n, t, low, more, few))

ahead_is_nothing : (b : Book) (from : Role) (number acked next taken : ℕ) → layers.may_hear (book.layers_of from b) ≡ true
    → (book.layers_of from b).other.acked ≡ acked % 8 → (book.layers_of from b).other.next ≡ next % 8 → number ≡ taken % 8
    → acked ≤ next → next < taken → taken < acked + 8 → KnowsNothing (book.hears from number b)
unfolding book.hears
ahead_is_nothing b from number acked next taken hear a n t low more few =
    let o = (book.layers_of from b).other in
    let ahead = is_ahead number o.next o.acked acked next taken a n t low more few in
    let found = ahead_finds (layers.may_hear (book.layers_of from b)) (layers.is_unseen o.track) (nat_lt (apart o.next o.acked) (apart number o.acked)) hear ahead in
    subst (λ f. KnowsNothing (if f then book.keeps from (layers.hears number (book.layers_of from b)) (book.forgets b)
    else book.keeps from (layers.hears number (book.layers_of from b)) b)) (sym found)
    (keeps_nothing from (layers.hears number (book.layers_of from b)) (book.forgets b) (knows_nothing b))
  where
    ahead_finds : (may unseen ahead : Bool) → may ≡ true → ahead ≡ true → (may && (unseen || ahead)) ≡ true
    ahead_finds true true ahead m a = refl
    ahead_finds true false ahead m a = a
    ahead_finds false unseen ahead m a = m

unasked : (b : Book) (from : Role) (reading : Reading) (f is_open : Bool) → (book.layers_of from b).own.asked ≡ 0
    → (book.sees from reading (ua f) true is_open b).book ≡ b
unfolding book.sees book.accepts_if
unasked b from reading f is_open none =
    let t = book.layers_of from b in
    ap (λ (n : ℕ). if n == 0 then b else book.accepts from (is_open || (t.other.is_fresh && not t.other.is_quiet)) t b) none

unfollowed : (b : Book) (role : Role) → layers.is_followed (book.layers_of role (book.passes_gap b)).own.track ≡ false
unfollowed b Dte = refl
unfollowed b Dce = refl

pub unseen_is_unknown : UnseenIsUnknown
unseen_is_unknown = record {
  gap = λ b. knows_nothing (record b { dte = layers.unseen; dce = layers.unseen });
  unfollowed = unfollowed;
  acknowledged = ahead_is_nothing;
  unnamed = knows_nothing;
  unasked = unasked;
}

-- ---- since the set-up

-- what it makes of a frame, where it is whole then
abbrev Goes : Book → Book → Type 0
Goes b c = c.is_whole ≡ true → HasBegun c ⊎ ((b.is_whole ≡ true) × Follows b c)

same : (b : Book) → HasSetsOf b b
same b = record { restarts = refl; channels = refl }

kept : (from : Role) (t : Layers) (b : Book) → Goes b (book.keeps from t b)
kept from t b whole = inr (whole, Stays (record { restarts = refl; channels = refl }))

stayed : (b : Book) → Goes b b
stayed b whole = inr (whole, Stays (same b))

forgot : (from : Role) (t : Layers) (b : Book) → Goes b (book.keeps from t (book.forgets b))
forgot from t b whole = absurd (both_ways false refl whole)

goes_if : (b c d : Book) (f : Bool) → Goes b c → Goes b d → Goes b (if f then c else d)
goes_if b c d true g h = g
goes_if b c d false g h = h

hears_on : (b : Book) (from : Role) (nr : ℕ) → Goes b (book.hears from nr b)
unfolding book.hears
hears_on b from nr =
    let t = layers.hears nr (book.layers_of from b) in
    goes_if b (book.keeps from t (book.forgets b)) (book.keeps from t b) (layers.finds_other nr (book.layers_of from b)) (forgot from t b) (kept from t b)

-- an N(R) leaves a whole book as it was
heard : (b : Book) (from : Role) (nr : ℕ) → (book.hears from nr b).is_whole ≡ true → (b.is_whole ≡ true) × HasSetsOf b (book.hears from nr b)
unfolding book.hears
heard b from nr = go (layers.finds_other nr (book.layers_of from b))
  where
    go : (f : Bool) → (if f then book.keeps from (layers.hears nr (book.layers_of from b)) (book.forgets b)
        else book.keeps from (layers.hears nr (book.layers_of from b)) b).is_whole ≡ true
        → (b.is_whole ≡ true) × HasSetsOf b (if f then book.keeps from (layers.hears nr (book.layers_of from b)) (book.forgets b)
        else book.keeps from (layers.hears nr (book.layers_of from b)) b)
    go true whole = absurd (both_ways false refl whole)
    go false whole = (whole, record { restarts = refl; channels = refl })

begun_is : (from : Role) (t : Layers) (b : Book) → HasBegun (book.begins from t b)
unfolding book.begins
begun_is from t b = record { restarts = refl; channels = refl }

began : (from : Role) (t : Layers) (b : Book) → Goes b (book.begins from t b)
began from t b whole = inl (begun_is from t b)

asks_on : (b : Book) (from : Role) (t : Layers) → Goes b (book.asks from t b)
unfolding book.asks
asks_on b from t = goes_if b (book.keeps from (layers.asks t) b) (book.begins from (layers.asks t) b) (layers.is_asked_again t) (kept from (layers.asks t) b)
    (began from (layers.asks t) b)

accepts_on : (b : Book) (from : Role) (is_open : Bool) (t : Layers) → Goes b (book.accepts from is_open t b)
unfolding book.accepts
accepts_on b from is_open t =
    let late = book.keeps from (layers.accepts t) b in
    let lost = book.keeps from (layers.accepts t) (book.forgets b) in
    let anew = book.begins from (layers.accepts t) b in
    goes_if b late (if is_open || layers.is_under_way t.own then lost else anew) (layers.is_late t && not is_open) (kept from (layers.accepts t) b)
    (goes_if b lost anew (is_open || layers.is_under_way t.own) (forgot from (layers.accepts t) b) (began from (layers.accepts t) b))

answers_on : (b : Book) (from : Role) (is_broken is_open : Bool) (t : Layers) → Goes b (book.accepts_if from is_broken is_open t b)
unfolding book.accepts_if
answers_on b from is_broken is_open t =
    let opened = is_open || (t.other.is_fresh && not t.other.is_quiet) in
    goes_if b b (book.accepts from opened t b) (is_broken && t.own.asked == 0) (stayed b) (accepts_on b from opened t)

-- a packet, or octets that are none
takes_whole : (from : Role) (of : ℕ) (packet : PlainPacket) (b : Book) (all : Bool) → is_of_all packet ≡ all
    → (book.takes from of packet b).book.is_whole ≡ b.is_whole
takes_whole from of packet b true is = ap (λ (s : book.Seen). s.book.is_whole) (takes_is from of packet b true is)
takes_whole from of packet b false is = ap (λ (s : book.Seen). s.book.is_whole) (takes_is from of packet b false is)

-- behind a book with the sets of another
abbrev GoesFrom : Book → Book → Book → Type 0
GoesFrom b d c = c.is_whole ≡ true → (d.is_whole ≡ true) × (HasSetsOf b d → Follows b c)

took : (b d : Book) (from : Role) (of : ℕ) (packet : PlainPacket) → GoesFrom b d (book.takes from of packet d).book
took b d from of packet whole =
    (sym (takes_whole from of packet d (is_of_all packet) refl) ∙ whole, λ s. Takes from of packet d s (same (book.takes from of packet d).book))

missed_whole : (of : ℕ) (d : Book) (none : Bool) → (of == 0) ≡ none → (book.misses_on of d).book.is_whole ≡ true → d.is_whole ≡ true
missed_whole of d true is whole =
    absurd (both_ways false refl (sym (ap (λ e. (if e then book.passed (book.forgets d) (Some (Unjudged 0))
    else book.puts of (channels.misses of (channel_of of d.channels)) d).book.is_whole) is) ∙ whole))
missed_whole of d false is whole =
    sym (ap (λ e. (if e then book.passed (book.forgets d) (Some (Unjudged 0))
    else book.puts of (channels.misses of (channel_of of d.channels)) d).book.is_whole) is) ∙ whole

missed : (b d : Book) (of : ℕ) → GoesFrom b d (book.misses_on of d).book
missed b d of whole = (missed_whole of d (of == 0) refl whole, λ s. Misses of d s (same (book.misses_on of d).book))

left : (b d : Book) → GoesFrom b d d
left b d whole = (whole, λ s. Stays s)

from_if : (b d : Book) (x y : book.Seen) (f : Bool) → GoesFrom b d x.book → GoesFrom b d y.book → GoesFrom b d (if f then x else y).book
from_if b d x y true g h = g
from_if b d x y false g h = h

untook : (b d : Book) (of : ℕ) (octets : List ℕ) (o : Result PlainForm PacketError) → GoesFrom b d (book.untaken of octets o d).book
untook b d of octets (Ok w) = from_if b d (book.quiet d) (book.misses_on of d) (book.diagnoses w.kind) (left b d) (missed b d of)
untook b d of octets (Err e) = from_if b d _ (book.misses_on of d) (book.is_modulo_8 octets) (missed b d of) (missed b d of)

took_any : (b d : Book) (from : Role) (of : ℕ) (octets : List ℕ) (o : Result PlainForm PacketError) (p : Result PlainPacket PacketError)
    → GoesFrom b d (book.takes_any from of octets o p d).book
took_any b d from of octets o (Ok packet) = took b d from of packet
took_any b d from of octets o (Err e) = untook b d of octets o

took_read : (b d : Book) (from : Role) (of most : ℕ) (octets : List ℕ) (p : Result PlainPacket PacketError)
    → GoesFrom b d (book.takes_read from of most octets p d).book
took_read b d from of most octets (Ok packet) = took b d from of packet
took_read b d from of most octets (Err e) = took_any b d from of octets (form_in most octets) (taken_in most octets)

reads_on : (b d : Book) (from : Role) (reading : Reading) (of : ℕ) (octets : List ℕ) → GoesFrom b d (book.reads from reading of octets d).book
unfolding book.reads
reads_on b d from reading of octets =
    let most = longest_user reading.long in
    from_if b d (book.reads_any from of most octets d) (book.takes_read from of most octets (packet_of most octets) d) reading.wide
    (took_any b d from of octets (form_in most octets) (taken_in most octets)) (took_read b d from of most octets (packet_of most octets))

carries_on : (b d : Book) (from : Role) (reading : Reading) (may : Bool) (octets : List ℕ) (o : Option ℕ)
    → GoesFrom b d (book.carries from reading may octets o d).book
carries_on b d from reading may octets None = left b d
carries_on b d from reading true octets (Some of) = reads_on b d from reading of octets
carries_on b d from reading false octets (Some of) =
    from_if b d (book.misses_on of d) (book.quiet d) (layers.are_dropped (book.layers_of from d)) (missed b d of) (left b d)

kept_sets : (b d : Book) (from : Role) (t : Layers) → HasSetsOf b d → HasSetsOf b (book.keeps from t d)
kept_sets b d from t s = record { restarts = s.restarts; channels = s.channels }

moves_on : (b : Book) (from : Role) (reading : Reading) (ns nr : ℕ) (octets : List ℕ)
    → Goes b (book.moves from reading ns octets (book.hears from nr b)).book
unfolding book.moves
moves_on b from reading ns nr octets whole =
    let h = book.hears from nr b in
    let d = book.keeps from (layers.moves ns (book.layers_of from h)) h in
    let gone = carries_on b d from reading (layers.may_judge ns (book.layers_of from h)) octets (channel_in octets) whole in
    let before = heard b from nr gone.0 in
    inr (before.0, gone.1 (kept_sets b h from (layers.moves ns (book.layers_of from h)) before.1))

info_on : (b : Book) (from : Role) (reading : Reading) (ns nr : ℕ) (octets : List ℕ) (is_broken : Bool)
    → Goes b (book.sends_info from reading ns nr octets is_broken b).book
unfolding book.sends_info
info_on b from reading ns nr octets true = kept from (layers.loses (book.layers_of from b)) b
info_on b from reading ns nr octets false = moves_on b from reading ns nr octets

frames_on : (b : Book) (from : Role) (reading : Reading) (frame : PlainFrame) (is_broken is_open : Bool)
    → Goes b (book.sees from reading frame is_broken is_open b).book
unfolding book.sees
frames_on b from reading (info ns nr p octets) is_broken is_open = info_on b from reading ns nr octets is_broken
frames_on b from reading (rr command nr pf) is_broken is_open = hears_on b from nr
frames_on b from reading (rnr command nr pf) is_broken is_open = hears_on b from nr
frames_on b from reading (rej command nr pf) is_broken is_open = hears_on b from nr
frames_on b from reading (sabm p) is_broken is_open = asks_on b from (book.layers_of from b)
frames_on b from reading (ua f) is_broken is_open = answers_on b from is_broken is_open (book.layers_of from b)
frames_on b from reading (dm f) is_broken is_open = kept from (layers.answers (book.layers_of from b)) b
frames_on b from reading (disc p) is_broken is_open = kept from (layers.asks_more (book.layers_of from b)) b
frames_on b from reading (frmr f why) is_broken is_open = stayed b

pub whole_books_follow : WholeBooksFollow
whole_books_follow = record {
  frame = frames_on;
  no_frame = λ b from whole. (whole, record { restarts = refl; channels = refl });
}
