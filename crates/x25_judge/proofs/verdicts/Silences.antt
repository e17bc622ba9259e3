-- Behind a set-up the places of an end are within one session. So what it sends is what an end sends that keeps the
-- rules, and a trace of which nothing is told is a silent tape of `x25_line`.
use Rattle.x25_judge.proofs.verdicts.Names.{◌≡◌, ◌==◌, ◌⊎◌, inl, inr, ℕ, ◌+◌, ◌-◌, ◌%◌, ◌<◌, ◌≤◌, arith, max, Bool, true, false, if◌then◌else◌, List, [], ◌∷◌}
use Rattle.x25_judge.proofs.verdicts.Names.{◌++◌, length, Some, None, Ok, refl, sym, ap, ◌∙◌, subst, slice_get, nat_lt, nat_le, not, ◌&&◌, ◌||◌, both_ways}
use Rattle.x25_judge.proofs.verdicts.Names.{eqb-true, ne_eqb, lt-ltb, and_from, and_parts, cond-true, cond-false, length_push, Role, n1, PlainFrame, info, rr}
use Rattle.x25_judge.proofs.verdicts.Names.{rnr, rej, frame_of, ReadsWhatIsSpelled, Peer, fresh_peer, MayAcknowledge, numbered_to, told_to, hearing, taking}
use Rattle.x25_judge.proofs.verdicts.Names.{Said, Tells, said, same_octets, is_item, judges_ack, then_ack, judges_item, judges, notes, notes_said, other}
use Rattle.x25_judge.proofs.verdicts.Names.{LinkSettings, ROOM, Held, differs, keeps, own_of, answer_to, held_by, shown, Judge, End, MaySend, come, is_new}
use Rattle.x25_judge.proofs.verdicts.Names.{IsBegun, Shows, IsNumbered, Watched, more, IsSilent, Begins, Acts, Rests, Says, Comes, Fails, SilenceMeansOrder}
use Rattle.x25_judge.proofs.verdicts.Names.{nth, sends_to, shows_to, fresh, heard, may_acknowledge, may_count, may_number, least_of, number_of, Frame, Info}
use Rattle.x25_judge.proofs.verdicts.Names.{Ready, LinkSet, Nothing, Numbers, Stand, Out, Asking, Up, Free, AllAre, sent_all, shown_all, blind_sends}
use Rattle.x25_judge.proofs.verdicts.Names.{blind_shows, counted_at, Acknowledges, acknowledges, is_numbered, below_is, eq-eqb, le-leb}
use Rattle.x25_possible_links.proofs.Stands.{IsNumbered as MayBeNumbered}
use Rattle.x25_frame.specs.Spelling.{IsWithin as IsWithinLine, information_of}
use Rattle.x25_line.specs.laws.{InWindow.{IsPrefix}, PeerClaims.{KeepsOrder, OnAnySilentTape}, PeerJoined.{JoinedOnce}}
use Rattle.x25_judge.proofs.verdicts.TakenUp.{over_hears, over_stays_down, watched_over}
use Rattle.x25_judge.specs.declared.midst.Watch.TheVariants.{Over}
use Rattle.x25_judge.proofs.{verdicts.Following.{numbers_of, sent_is}, verdicts.Guilty.{untold}, verdicts.Innocents.{IsEnd, sent_end, shown_end}}
use Rattle.x25_judge.proofs.verdicts.Lines.{other_twice, none_told}
use Rattle.x25_judge.proofs.verdicts.Octets.{AreKnown, IsHeld, begun_held, is_before, last_of, old_octets, pushed_held, sent_held, sent_known}
use Rattle.x25_judge.proofs.verdicts.Silent.{Fits, IsNumber, IsWithin, heard_sent, shown_within, walked_within, walks_within, within_passes}
use Rattle.x25_line.specs.laws.Tape as tape

-- ---- an end in a session

-- Its places are within its numbers, and the octets of each are known.
pub record Knows (set : LinkSet) (h : Held) (p : Peer) : Type 0 where
  pub sees : set.is_blind ≡ false
  pub within : AllAre (IsWithin (numbers_of p)) set
  pub all : length p.given ≡ p.sent
  pub octets : IsHeld h p.given p.sent
  pub known : AreKnown h p.sent

abbrev pub Explains : End → Peer → Type 0
Explains e p = Knows e.set e.held p

by_parts : (set : LinkSet) (h : Held) (e : End) (p : Peer) → e.set ≡ set → e.held ≡ h → Knows set h p → Explains e p
by_parts set h e p a b g =
    subst (λ (s : LinkSet). Knows s e.held p) (sym a) (subst (λ (x : Held). Knows set x p) (sym b) g)

abbrev pub no_numbers : Numbers
no_numbers = numbers_of fresh_peer

fits_new : (s : Stand) → is_new s ≡ true → Fits no_numbers s
fits_new Out e = tt
fits_new Asking e = (refl, refl)
fits_new (Up j) e = below_is (Up j) fresh e
fits_new Free e = absurd (both_ways false refl e)

pub begun_knows : (j : Judge) (from : Role) → IsBegun j from → (own_of from j).set.is_blind ≡ false → Explains (own_of from j) fresh_peer
begun_knows j from b room = record {
  sees = room;
  within = λ q is. fits_new (come (own_of from j).set q) (b.new q is);
  all = refl;
  octets = begun_held (own_of from j).held [] (record { octets = b.octets; known = b.known });
  known = λ n lt near. absurd (omega (arith, lt));
}

-- the end was handed down a packet or not, and may send the frame
pub record Given (p : Peer) (frame : PlainFrame) (q : Peer) : Type 0 where
  pub before : Peer
  pub given : (before ≡ p) ⊎ ((packet : List ℕ) × (before ≡ record p { given = p.given ++ packet ∷ [] }))
  pub may : MaySend before frame q

-- the rules of the tape tell nothing, and this is known then
pub record Passes (set : LinkSet) (h : Held) (p : Peer) (frame : PlainFrame) : Type 0 where
  pub q : Peer
  pub sends : Given p frame q
  pub passes : judges (Ok frame) p ≡ Some q
  pub shown : q.given ≡ more frame p.given
  pub knows : Knows set h q

-- a line has room for what it spells
abbrev pub IsShort : PlainFrame → Type 0
IsShort (info ns nr pf packet) = length packet ≤ ROOM
IsShort frame = Unit {0}

pub is_short : (frame : PlainFrame) → IsWithinLine n1 frame (information_of frame) → IsShort frame
is_short (info ns nr pf packet) h = room (length packet) h
  where
    room : (x : ℕ) → x ≤ 4099 → x ≤ 65536
    room x le = omega arith
is_short frame h = tt

same_to_itself : (xs : List ℕ) → same_octets xs xs ≡ true
same_to_itself [] = refl
same_to_itself (x ∷ xs) = and_from (x == x) (same_octets xs xs) (eq-eqb x x refl) (same_to_itself xs)

ack_passes : (u : Peer) (nr : ℕ) → Acknowledges (nth u.told nr) (numbers_of u) nr → judges_ack nr u ≡ Some (told_to (nth u.told nr) u)
ack_passes u nr a =
    cond-true (nat_le (nth u.told nr) (length u.taken) && nth u.told nr % 8 == nr) (Some (told_to (nth u.told nr) u)) None
    (and_from (nat_le (nth u.told nr) (length u.taken)) (nth u.told nr % 8 == nr) (le-leb (nth u.told nr) (length u.taken) a.taken)
    (eq-eqb (nth u.told nr % 8) nr (sym a.number)))

module _ (set : LinkSet) (h : Held) (p : Peer) (e : Knows set h p) where
  -- the other end sends
  shown_knows : (y : Frame) (q : Peer) → numbers_of q ≡ heard true true (numbers_of p) y → q.given ≡ p.given → (shows_to y set).is_blind ≡ false
      → Knows (shows_to y set) h q
  shown_knows y q now same room = record {
    sees = room;
    within = subst (λ k. AllAre (IsWithin k) (shows_to y set)) (sym now)
        (shown_all (IsWithin (numbers_of p)) (IsWithin (heard true true (numbers_of p) y)) set y e.within
        (within_passes (numbers_of p)) (λ u b. shown_within y (numbers_of p) u b) room);
    all = ap (λ (xs : List (List ℕ)). length xs) same ∙ e.all ∙ sym sent;
    octets = subst (λ xs. IsHeld h xs q.sent) (sym same) (subst (λ m. IsHeld h p.given m) (sym sent) e.octets);
    known = subst (λ m. AreKnown h m) (sym sent) e.known;
  }
    where
      sent : q.sent ≡ p.sent
      sent = ap (λ (k : Numbers). k.sent) now ∙ heard_sent (numbers_of p) y

  -- the end sends
  module _ (x : Frame) (is : IsNumber x) (room : (sends_to x set).set.is_blind ≡ false) (told : (sends_to x set).told ≡ Nothing) where
    now_within : AllAre (IsWithin (counted_at (numbers_of p) x)) (sends_to x set).set
    now_within =
        (sent_all (IsWithin (numbers_of p)) (IsWithin (counted_at (numbers_of p) x)) set x e.within
        (λ u m b there. walked_within (numbers_of p) x u m is b there) room told).all

    may : may_count (number_of (Up (numbers_of p)) x) (least_of (Up (numbers_of p)) x) (numbers_of p) x ≡ true
    may =
        let g = sent_all (IsWithin (numbers_of p)) (IsWithin (counted_at (numbers_of p) x)) set x e.within
        (λ u m b there. walked_within (numbers_of p) x u m is b there) room told in
        (walks_within (numbers_of p) x g.from g.to is g.was g.goes).may

  abbrev t : ℕ → ℕ
  t nr = nth p.told nr

  -- without N(S)
  ready_passes : (frame : PlainFrame) (nr : ℕ) → judges (Ok frame) p ≡ judges_ack nr p → more frame p.given ≡ p.given → keeps h frame ≡ h
      → (MayAcknowledge p nr (t nr) → MaySend p frame (told_to (t nr) p)) → (sends_to (Ready nr) set).set.is_blind ≡ false → (sends_to (Ready nr) set).told
      ≡ Nothing → Passes (sends_to (Ready nr) set).set (keeps h frame) p frame
  ready_passes frame nr is no_more bare may_send room told =
      let a = acknowledges (t nr) (numbers_of p) nr (may (Ready nr) tt room told) in
      record {
        q = told_to (t nr) p;
        sends = record { before = p; given = inl refl; may = may_send (record { number = a.number; rising = a.rising; taken = a.taken }) };
        passes = is ∙ ack_passes p nr a;
        shown = sym no_more;
        knows = subst (λ (x : Held). Knows (sends_to (Ready nr) set).set x (told_to (t nr) p)) (sym bare)
            (record { sees = room; within = now_within (Ready nr) tt room told; all = e.all; octets = e.octets; known = e.known });
      }

  -- an I frame, new or again
  module _ (ns nr : ℕ) (pf : Bool) (packet : List ℕ) (fits : length packet ≤ ROOM) where
    abbrev n : ℕ
    n = nth (p.sent - 7) ns

    abbrev f : PlainFrame
    f = info ns nr pf packet

    abbrev y : Frame
    y = Info ns nr (differs h f)

    abbrev with_given : List (List ℕ) → Peer
    with_given now = record p { given = now }

    module _ (room : (sends_to y set).set.is_blind ≡ false) (told : (sends_to y set).told ≡ Nothing) where
      parts : (may_number n (numbers_of p) ns (differs h f) ≡ true) × (may_acknowledge (t nr) (numbers_of p) nr ≡ true)
      parts = and_parts (may_number n (numbers_of p) ns (differs h f)) (may_acknowledge (t nr) (numbers_of p) nr) (may y tt room told)

      is_it : MayBeNumbered n (numbers_of p) ns (differs h f)
      is_it = is_numbered n (numbers_of p) ns (differs h f) parts.0

      says : Acknowledges (t nr) (numbers_of p) nr
      says = acknowledges (t nr) (numbers_of p) nr parts.1

      passes_with : (now : List (List ℕ)) → (with_given now ≡ p) ⊎ ((x : List ℕ) × (with_given now ≡ with_given (p.given ++ x ∷ [])))
          → length now ≡ max p.sent (n + 1) → slice_get now n ≡ Some packet → IsHeld h now p.sent → judges_item n packet p
          ≡ Some (numbered_to n (with_given now)) → now ≡ more f p.given → Passes (sends_to y set).set (keeps h f) p f
      passes_with now given all same held item shown =
          let u = numbered_to n (with_given now) in
          record {
            q = told_to (t nr) u;
            sends = record {
              before = with_given now;
              given = given;
              may = (
                n,
                t nr,
                record { number = is_it.number; same = same; window = is_it.window; again = is_it.near },
                is_it.up_to,
                fits,
                record { number = says.number; rising = says.rising; taken = says.taken },
                refl,
              );
            };
            passes = ap (then_ack nr)
                (cond-true (nat_lt n (p.acked + 7) && n % 8 == ns) (judges_item n packet p) None
                (and_from (nat_lt n (p.acked + 7)) (n % 8 == ns) (lt-ltb n (p.acked + 7) is_it.window) (eq-eqb (n % 8) ns (sym is_it.number))) ∙ item)
                ∙ ack_passes u nr (record { number = says.number; rising = says.rising; taken = says.taken });
            shown = shown;
            knows = record {
              sees = room;
              within = subst (λ m. AllAre (IsWithin (record { sent = m; acked = p.acked; taken = length p.taken; told = t nr })) (sends_to y set).set)
                  (sent_is n p.sent is_it.up_to) (now_within y tt room told);
              all = all;
              octets = sent_held h now p.sent n ns nr pf packet is_it.number is_it.up_to is_it.near fits same held;
              known = sent_known h p.sent n ns nr pf packet is_it.number is_it.up_to fits e.octets.room.known e.known;
            };
          }

      info_passes : Passes (sends_to y set).set (keeps h f) p f
      info_passes = go (n == p.sent) refl
        where
          grows : (m n : ℕ) → n ≡ m → m + 1 ≡ max m (n + 1)
          grows m n same = omega (arith, same)

          stays : (m n : ℕ) → n < m → m ≡ max m (n + 1)
          stays m n lt = omega (arith, lt)

          isnt_next : (g m n : ℕ) → g ≡ m → ns ≡ n % 8 → n < m → m ≤ n + 7 → ns ≡ g % 8 → ⊥
          isnt_next g m n e number lt near same = omega (arith, e, number, lt, near, same)

          equal : (b d : Bool) → b ≡ false → (b || not d) ≡ true → d ≡ false
          equal true d ne so = absurd (both_ways true ne refl)
          equal false true ne so = absurd (both_ways false refl so)
          equal false false ne so = refl

          go : (b : Bool) → (n == p.sent) ≡ b → Passes (sends_to y set).set (keeps h f) p f
          go true new =
              let last = eqb-true n p.sent new in
              passes_with (p.given ++ packet ∷ []) (inr (packet, refl))
              (length_push p.given packet ∙ ap (λ m. m + 1) e.all ∙ grows p.sent n last) (last_of p.given packet n (e.all ∙ sym last))
              (pushed_held h p.given packet p.sent e.octets) (cond-true (n == p.sent) _ _ new)
              (sym (cond-true (ns == length p.given % 8) (p.given ++ packet ∷ []) p.given
              (eq-eqb ns (length p.given % 8) (is_it.number ∙ ap (λ m. m % 8) (last ∙ sym e.all)))))
          go false old =
              let before = is_before n p.sent is_it.up_to old in
              let same = old_octets h p.given p.sent n ns nr pf packet is_it.number before is_it.near
              (equal (n == p.sent) (differs h f) old is_it.same) e.octets e.known in
              passes_with p.given (inl refl) (e.all ∙ stays p.sent n before) same e.octets
              (cond-false (n == p.sent) _ _ old ∙ cond-true (nat_lt n p.sent && is_item (slice_get p.given n) packet) (Some (numbered_to n p)) None
              (and_from (nat_lt n p.sent) (is_item (slice_get p.given n) packet) (lt-ltb n p.sent before)
              (ap (λ x. is_item x packet) same ∙ same_to_itself packet)))
              (sym (cond-false (ns == length p.given % 8) (p.given ++ packet ∷ []) p.given
              (ne_eqb ns (length p.given % 8) (isnt_next (length p.given) p.sent n e.all is_it.number before is_it.near))))

  frame_passes : (frame : PlainFrame) → IsShort frame → IsNumbered frame
      → (sends_to (shown frame (differs h frame)) set).set.is_blind ≡ false → (sends_to (shown frame (differs h frame)) set).told ≡ Nothing
      → Passes (sends_to (shown frame (differs h frame)) set).set (keeps h frame) p frame
  unfolding shown keeps
  frame_passes (info ns nr pf packet) fits is room told = info_passes ns nr pf packet fits room told
  frame_passes (rr command nr pf) fits is room told =
      ready_passes (rr command nr pf) nr refl refl refl (λ may. (nth p.told nr, may, refl)) room told
  frame_passes (rnr command nr pf) fits is room told =
      ready_passes (rnr command nr pf) nr refl refl refl (λ may. (nth p.told nr, may, refl)) room told
  frame_passes (rej command nr pf) fits is room told =
      ready_passes (rej command nr pf) nr refl refl refl (λ may. (nth p.told nr, may, refl)) room told
  frame_passes frame fits is room told = absurd is

-- ---- lines

pub saw : (b c : Bool) → (b ≡ true → c ≡ true) → c ≡ false → b ≡ false
saw true c h e = absurd (both_ways c e (h refl))
saw false c h e = refl

-- what a line of the end makes of it, where nothing is told
pub record OwnLine (from : Role) (j : Judge) (line : List ℕ) (frame : PlainFrame) : Type 0 where
  pub sees : (own_of from j).set.is_blind ≡ false
  pub room : (sends_to (shown frame (differs (own_of from j).held frame)) (own_of from j).set).set.is_blind ≡ false
  pub told : (sends_to (shown frame (differs (own_of from j).held frame)) (own_of from j).set).told ≡ Nothing
  pub on : (p : Peer) → Knows (sends_to (shown frame (differs (own_of from j).held frame)) (own_of from j).set).set (keeps (own_of from j).held frame) p
      → Explains (own_of from (answer_to j line).next) p

pub own_line : (from : Role) (j : Judge) (line octets : List ℕ) (frame : PlainFrame) → Shows line from octets frame → IsNumbered frame
    → (own_of from j).watch ≡ Over → (answer_to j line).is_faulty ≡ false → (own_of from (answer_to j line).next).set.is_blind ≡ false
    → OwnLine from j line frame
own_line from j line octets frame shows is over quiet room =
    let set = (own_of from j).set in
    let h = (own_of from j).held in
    let x = shown frame (differs h frame) in
    let g = sent_end from j line octets frame shows (over_stays_down j from frame over) in
    let told = untold from j frame (none_told j line from octets frame shows quiet) in
    let now = sym (ap (λ (s : LinkSet). s.is_blind) g.places) ∙ room in
    record {
      sees = saw set.is_blind (sends_to x set).set.is_blind (blind_sends set x) now;
      room = now;
      told = told;
      on = λ p a. by_parts (sends_to x set).set (keeps h frame) (own_of from (answer_to j line).next) p g.places
          (g.octets ∙ ap (λ t. keeps (held_by t h) frame) told) a;
    }

-- and one of the other end
pub record OtherLine (from : Role) (j : Judge) (line : List ℕ) (y : Frame) : Type 0 where
  pub sees : (own_of from j).set.is_blind ≡ false
  pub on : (p q : Peer) → numbers_of q ≡ heard true true (numbers_of p) y → q.given ≡ p.given → Explains (own_of from j) p
      → Explains (own_of from (answer_to j line).next) q

pub other_by : (from : Role) (j : Judge) (line : List ℕ) (y : Frame)
    → IsEnd (shows_to y (own_of from j).set) (own_of from j).held (own_of from (answer_to j line).next)
    → (own_of from (answer_to j line).next).set.is_blind ≡ false → OtherLine from j line y
other_by from j line y g room =
    let set = (own_of from j).set in
    let h = (own_of from j).held in
    let now = sym (ap (λ (s : LinkSet). s.is_blind) g.places) ∙ room in
    record {
      sees = saw set.is_blind (shows_to y set).is_blind (blind_shows set y) now;
      on = λ p q is same e. by_parts (shows_to y set) h (own_of from (answer_to j line).next) q g.places g.octets
          (shown_knows set h p e y q is same now);
    }

pub other_line : (from : Role) (j : Judge) (line octets : List ℕ) (frame : PlainFrame) → Shows line (other from) octets frame
    → (own_of from j).watch ≡ Over → (own_of from (answer_to j line).next).set.is_blind ≡ false → OtherLine from j line (shown frame (differs (own_of (other from) j).held frame))
other_line from j line octets frame shows over room =
    other_by from j line (shown frame (differs (own_of (other from) j).held frame))
    (shown_end from j line octets frame shows (over_hears j from frame over)) room

-- what it hears and takes of the other end
noted : (frame : PlainFrame) (d : Bool) (p : Peer) → IsNumbered frame → heard true true (numbers_of p) (shown frame d) ≡ numbers_of (notes (Ok frame) p)
unfolding shown
noted (info ns nr pf packet) d p is = go (ns == length p.taken % 8)
  where
    go : (b : Bool) → record { sent = p.sent; acked = nth p.acked nr; taken = if b then length p.taken + 1 else length p.taken; told = p.told }
        ≡ numbers_of (taking b packet (hearing true nr p))
    go true = ap (λ m. record { sent = p.sent; acked = nth p.acked nr; taken = m; told = p.told }) (sym (length_push p.taken packet))
    go false = refl
noted (rr command nr pf) d p is = refl
noted (rnr command nr pf) d p is = refl
noted (rej command nr pf) d p is = refl
noted frame d p is = absurd is

taking_given : (b : Bool) (packet : List ℕ) (p : Peer) → (taking b packet p).given ≡ p.given
taking_given true packet p = refl
taking_given false packet p = refl

pub notes_given : (s : Said) (p : Peer) → (notes_said s p).given ≡ p.given
notes_given (Tells None nr) p = refl
notes_given (Tells (Some c) nr) p = taking_given (c.ns == length p.taken % 8) c.packet (hearing true nr p)
notes_given s p = refl

pub noted_line : (from : Role) (j : Judge) (line octets : List ℕ) (frame : PlainFrame) (p : Peer) → Shows line (other from) octets frame
    → IsNumbered frame → (own_of from j).watch ≡ Over → (own_of from (answer_to j line).next).set.is_blind ≡ false → Explains (own_of from j) p
    → Explains (own_of from (answer_to j line).next) (notes (Ok frame) p)
noted_line from j line octets frame p shows is over room e =
    (other_line from j line octets frame shows over room).on p (notes (Ok frame) p)
    (sym (noted frame (differs (own_of (other from) j).held frame) p is)) (notes_given (said (Ok frame)) p) e

-- a line of the end, of which nothing is told
pub passes_line : ReadsWhatIsSpelled → (from : Role) (j : Judge) (line octets : List ℕ) (frame : PlainFrame) (p : Peer) → Shows line from octets frame
    → IsNumbered frame → OwnLine from j line frame → Explains (own_of from j) p
    → Passes (own_of from (answer_to j line).next).set (own_of from (answer_to j line).next).held p frame
passes_line reads from j line octets frame p shows is own e =
    let spelled = (reads from n1 frame octets shows.low).0 shows.reads in
    let g = frame_passes (own_of from j).set (own_of from j).held p e frame (is_short frame spelled.within) is own.room own.told in
    record { q = g.q; sends = g.sends; passes = g.passes; shown = g.shown; knows = own.on g.q g.knows }

-- ---- traces

abbrev joined : Watched → Peer → JoinedOnce
joined w p = record { near = w.near; peer = p; out = w.out; back = w.back }

record Explained (c : LinkSettings) (w : Watched) : Type 0 where
  pub p : Peer
  pub silent : tape.IsSilent c (joined w p)
  pub given : p.given ≡ w.shown
  pub knows : Explains (own_of (other c.role) w.judge) p

explained : ReadsWhatIsSpelled → (c : LinkSettings) → c.longest ≡ n1 → (w : Watched) → IsSilent c w → (own_of (other c.role) w.judge).set.is_blind ≡ false
    → Explained c w
explained reads c longest w (Begins j up) room =
    record { p = fresh_peer; silent = tape.Begins; given = refl; knows = begun_knows j (other c.role) (up (other c.role)) room }
explained reads c longest w (Acts v act h) room =
    let e = explained reads c longest v h room in
    record { p = e.p; silent = tape.Acts (joined v e.p) act e.silent; given = e.given; knows = e.knows }
explained reads c longest w (Rests v front rear h) room =
    let e = explained reads c longest v h room in record { p = e.p; silent = e.silent; given = e.given; knows = e.knows }
explained reads c longest w (Says v line octets frame rest front shows is h) room =
    let here = subst (λ r. Shows line r octets frame) (sym (other_twice c.role)) shows in
    let over = watched_over _ _ _ c (other c.role) v h in
    let e = explained reads c longest v h (other_line (other c.role) v.judge line octets frame here over room).sees in
    let read : frame_of c.role c.longest octets ≡ Ok frame = ap (λ n. frame_of c.role n octets) longest ∙ shows.reads in
    record {
      p = notes (frame_of c.role c.longest octets) e.p;
      silent = tape.Shows (joined v e.p) octets rest front e.silent;
      given = ap (λ x. (notes x e.p).given) read ∙ notes_given (said (Ok frame)) e.p ∙ e.given;
      knows = subst (λ x. Explains (own_of (other c.role) (answer_to v.judge line).next) (notes x e.p)) (sym read)
          (noted_line (other c.role) v.judge line octets frame e.p here is over room e.knows);
    }
explained reads c longest w (Comes v line octets frame shows is quiet lags h) room =
    let own = own_line (other c.role) v.judge line octets frame shows is (watched_over _ _ _ c (other c.role) v h) quiet room in
    let e = explained reads c longest v h own.sees in
    let read : frame_of (other c.role) c.longest octets ≡ Ok frame = ap (λ n. frame_of (other c.role) n octets) longest ∙ shows.reads in
    let x = passes_line reads (other c.role) v.judge line octets frame e.p shows is own e.knows in
    record {
      p = x.q;
      silent = tape.Comes (joined v e.p) octets x.q (ap (λ y. judges y e.p) read ∙ x.passes) e.silent;
      given = x.shown ∙ ap (more frame) e.given;
      knows = x.knows;
    }
explained reads c longest w (Fails v line octets damage broken lags h) room = absurd damage

pub silence_means_order : ReadsWhatIsSpelled → OnAnySilentTape KeepsOrder → SilenceMeansOrder
silence_means_order reads order c low high longest w silent room once =
    let e = explained reads c longest w silent room in
    subst (λ (given : List (List ℕ)). IsPrefix w.near.up given) e.given (order c low high (joined w e.p) e.silent once).up
