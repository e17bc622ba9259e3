-- No rule of order is told of an end that keeps the rules.
use Rattle.x25_judge.proofs.verdicts.Names.{◌≡◌, ◌⊎◌, inl, inr, ℕ, ◌+◌, ◌%◌, ◌<◌, ◌≤◌, ◌==◌, arith, Bool, true, false, List, [], ◌∷◌, ◌++◌, length}
use Rattle.x25_judge.proofs.verdicts.Names.{drop, refl, sym, ap, ◌∙◌, subst, not, ◌&&◌, ◌||◌, Role, Dte, Dce, PlainFrame, info, rr, rnr}
use Rattle.x25_judge.proofs.verdicts.Names.{rej, ua, Peer, fresh_peer, hearing, taking, MayHear, MayNumber, In, other, Held, differs, keeps, no_octets}
use Rattle.x25_judge.proofs.verdicts.Names.{none_held, comes, IsBegun, IsDamaged, IsTimely, Shows, Way, is_of_order, answer_to, own_of, seen_by, forgets_each}
use Rattle.x25_judge.proofs.verdicts.Names.{held_by, shown, breaks_order, Judge, End, MaySay, MaySend, MayStand, declined, numbered, declines, takes_sabm}
use Rattle.x25_judge.proofs.verdicts.Names.{NoSessionIsAccused, nth, IsIn, is_below, sends_to, shows_to, unknown, State, At, Owes, passes, fresh, heard}
use Rattle.x25_judge.proofs.verdicts.Names.{may_answer, onward, upward, Frame, Info, Ready, Unread, Before, LinkSet, Nothing, Spot, Numbers, Stand, Out, Asking}
use Rattle.x25_judge.proofs.verdicts.Names.{Up, Free, AreBelow, Below, below_self, Leads, Stays, Steps, stays_at, below_is, Has, has_taken, has_less, has_sent}
use Rattle.x25_judge.proofs.{verdicts.Names.{cond_both, has_shown, is_untold, length_push, if◌then◌else◌, Ok, Option, Some, None, eq-eqb}, verdicts.Octets.{sent_held}}
use Rattle.x25_judge.specs.laws.Session.{rule_of as told_rule}
use Rattle.x25_judge.specs.Links.{rule_of}
use Rattle.std.proofs.Math.Bool.{or-true}
use Rattle.x25_possible_links.specs.laws.Link.{hears, begins}
use Rattle.x25_line.specs.laws.Said.{said as read_as}
use Rattle.x25_possible_links.proofs.Covers.{Covers, Here, Asked, Later, Begins}
use Rattle.x25_judge.proofs.verdicts.TakenUp.{apart_hears, down_if_over, says_apart, stays_apart}
use Rattle.x25_judge.specs.laws.Tapes.{takes_up}
use Rattle.x25_judge.proofs.{verdicts.Lines.{goes, past, told_of_order}, verdicts.Manners.{minds_fair}, verdicts.Silent.{heard_sent}}
use Rattle.x25_judge.proofs.verdicts.Octets.{HasSent, HasRoom, IsHeld, begun_held, each_room, held_less, held_more, is_before, keeps_room, pushed_held, same_octets}
use Rattle.x25_judge.proofs.verdicts.Following.{heard_keeps, IsPart, IsSame, IsSeen, Means, Says, front, means_on, means_same, numbers_of, says, sent_is, stand_of}
use Rattle.x25_line.specs.laws.Peer as peer
use Rattle.x25_line.specs.laws.PeerSessions as session
use Rattle.x25_packet_judge.specs.Book as book
use Rattle.x25_judge.specs.laws.Sessions as sessions
use Rattle.x25_possible_links.specs.laws.Link as link

-- ---- what comes

abbrev with_heard : Bool → Bool → ℕ → ℕ → Peer → Numbers
with_heard h t ns nr p = record {
  sent = p.sent;
  acked = if h then nth p.acked nr else p.acked;
  taken = if t && ns == length p.taken % 8 then length p.taken + 1 else length p.taken;
  told = p.told;
}

numbers_heard : (h t : Bool) (ns nr : ℕ) (packet : List ℕ) (p : Peer) → peer.IsWanted t ns p → with_heard h t ns nr p
    ≡ numbers_of (taking t packet (hearing h nr p))
numbers_heard true true ns nr packet p wanted =
    ap (λ m. record { sent = p.sent; acked = nth p.acked nr; taken = m; told = p.told })
    (ap (λ b. if b then length p.taken + 1 else length p.taken) (eq-eqb ns (length p.taken % 8) wanted) ∙ sym (length_push p.taken packet))
numbers_heard false true ns nr packet p wanted =
    ap (λ m. record { sent = p.sent; acked = p.acked; taken = m; told = p.told })
    (ap (λ b. if b then length p.taken + 1 else length p.taken) (eq-eqb ns (length p.taken % 8) wanted) ∙ sym (length_push p.taken packet))
numbers_heard true false ns nr packet p wanted = refl
numbers_heard false false ns nr packet p wanted = refl

ready_heard : (h : Bool) (nr : ℕ) (p : Peer) → record { sent = p.sent; acked = if h then nth p.acked nr else p.acked; taken = length p.taken; told = p.told }
    ≡ numbers_of (hearing h nr p)
ready_heard true nr p = refl
ready_heard false nr p = refl

-- what can't be read may have had as much
unread_more : (h t w : Bool) (nr : ℕ) (k : Numbers) → AreBelow (record {
  sent = k.sent;
  acked = if h then nth k.acked nr else k.acked;
  taken = if t && w then k.taken + 1 else k.taken;
  told = k.told;
}) (heard h t k Unread)
unread_more h t w nr k = record { sent = refl; acked = acks h; taken = takes t w; told = omega arith }
  where
    near : (a : ℕ) → nth a nr ≤ a + 7
    near a = omega arith

    acks : (h : Bool) → (if h then nth k.acked nr else k.acked) ≤ (if h then k.acked + 7 else k.acked)
    acks true = near k.acked
    acks false = omega arith

    takes : (t w : Bool) → (if t && w then k.taken + 1 else k.taken) ≤ (if t then k.taken + 1 else k.taken)
    takes true true = omega arith
    takes true false = omega arith
    takes false w = omega arith

module _ (set : LinkSet) (p : Peer) (end : List Frame) where
  takes_as : (y : Frame) (h t : Bool) → Has set (At (Up (numbers_of p))) (y ∷ end) → Has set (At (Up (heard h t (numbers_of p) y))) end
  takes_as y h t has =
      has_taken set.spots.items set.way.items (At (Up (numbers_of p))) (At (Up (heard h t (numbers_of p) y))) y end has
      (hears (numbers_of p) y h t)

  takes_unread : (h t w : Bool) (nr : ℕ) → Has set (At (Up (numbers_of p))) (Unread ∷ end) → Has set (At (Up (record {
    sent = p.sent;
    acked = if h then nth p.acked nr else p.acked;
    taken = if t && w then length p.taken + 1 else length p.taken;
    told = p.told;
  }))) end
  takes_unread h t w nr has =
      has_less set.spots.items set.way.items (Up (heard h t (numbers_of p) Unread)) (Up (record {
        sent = p.sent;
        acked = if h then nth p.acked nr else p.acked;
        taken = if t && w then length p.taken + 1 else length p.taken;
        told = p.told;
      })) end (takes_as Unread h t has) (unread_more h t w nr (numbers_of p))

  passes_it : (s : Stand) (y : Frame) → Has set (At s) (y ∷ end) → Has set (At s) end
  passes_it s y has = has_taken set.spots.items set.way.items (At s) (At s) y end has (passes s y)

  heard_ready : (q : Peer) (y : Frame) (nr : ℕ) (h : Bool) → (y ≡ Ready nr) ⊎ (y ≡ Unread) → q ≡ hearing h nr p
      → Has set (At (Up (numbers_of p))) (y ∷ end) → Has set (At (Up (numbers_of q))) end
  heard_ready q y nr h (inl e) is has =
      subst (λ k. Has set (At (Up k)) end) (ready_heard h nr p ∙ ap numbers_of (sym is))
      (takes_as (Ready nr) h false (subst (λ z. Has set (At (Up (numbers_of p))) (z ∷ end)) e has))
  heard_ready q y nr h (inr e) is has =
      subst (λ k. Has set (At (Up k)) end) (ready_heard h nr p ∙ ap numbers_of (sym is))
      (takes_unread h false false nr (subst (λ z. Has set (At (Up (numbers_of p))) (z ∷ end)) e has))

  seen_ready : (y : Frame) (nr : ℕ) (f : PlainFrame) → IsSeen y f → ((d : Bool) → shown f d ≡ Ready nr) → (y ≡ Ready nr) ⊎ (y ≡ Unread)
  seen_ready y nr f (inl g) same = inl (g.1 ∙ same g.0)
  seen_ready y nr f (inr g) same = inr g

  pub heard_has : (q : Peer) (y : Frame) (f : PlainFrame) → IsSeen y f → MayHear p (Ok f) q → Has set (At (Up (numbers_of p))) (y ∷ end)
      → Has set (At (Up (numbers_of q))) end
  unfolding shown
  heard_has q y (info ns nr pf packet) (inl g) may has =
      subst (λ k. Has set (At (Up k)) end) (numbers_heard may.0 may.1 ns nr packet p may.2 ∙ ap numbers_of (sym may.3))
      (takes_as (Info ns nr g.0) may.0 may.1 (subst (λ z. Has set (At (Up (numbers_of p))) (z ∷ end)) g.1 has))
  heard_has q y (info ns nr pf packet) (inr g) may has =
      subst (λ k. Has set (At (Up k)) end) (numbers_heard may.0 may.1 ns nr packet p may.2 ∙ ap numbers_of (sym may.3))
      (takes_unread may.0 may.1 (ns == length p.taken % 8) nr (subst (λ z. Has set (At (Up (numbers_of p))) (z ∷ end)) g has))
  heard_has q y (rr command nr pf) is may has =
      heard_ready q y nr may.0 (seen_ready y nr (rr command nr pf) is (λ d. refl)) may.1 has
  heard_has q y (rnr command nr pf) is may has =
      heard_ready q y nr may.0 (seen_ready y nr (rnr command nr pf) is (λ d. refl)) may.1 has
  heard_has q y (rej command nr pf) is may has =
      heard_ready q y nr may.0 (seen_ready y nr (rej command nr pf) is (λ d. refl)) may.1 has
  heard_has q y f is may has =
      subst (λ r. Has set (At (Up (numbers_of r))) end) (sym may) (passes_it (Up (numbers_of p)) y has)

  pub accepted_has : (y : Frame) (f : Bool) → IsSeen y (ua f) → Has set (At Asking) (y ∷ end) → Has set (At fresh) end
  unfolding shown
  accepted_has y f is has =
      has_taken set.spots.items set.way.items (At Asking) (At fresh) y end has (begins y (answers is))
    where
      answers : IsSeen y (ua f) → may_answer y ≡ true
      answers (inl g) = ap may_answer g.1
      answers (inr g) = ap may_answer g

-- ---- how many it has sent, in the place that it has

abbrev MayHaveSent : ℕ → Stand → Type 0
MayHaveSent n (Up k) = k.sent ≡ n
MayHaveSent n Free = Unit {0}
MayHaveSent n Out = ⊥
MayHaveSent n Asking = ⊥

onward_has : (n : ℕ) (u : Stand) (x : Frame) → HasSent n (onward u x) → HasSent n u
onward_has n (Up k) x h = sym (heard_sent k x) ∙ h
onward_has n u x h = tt

onward_may_have : (n : ℕ) (u : Stand) (x : Frame) → MayHaveSent n u → MayHaveSent n (onward u x)
onward_may_have n (Up k) x h = heard_sent k x ∙ h
onward_may_have n Free x h = tt
onward_may_have n u x h = absurd h

may_has : (n : ℕ) (s : Stand) → MayHaveSent n s → HasSent n s
may_has n (Up k) h = h
may_has n s h = tt

below_may_have : (n : ℕ) (s u : Stand) → Below s u → MayHaveSent n s → MayHaveSent n u
below_may_have n (Up k) (Up j) b h = b.sent ∙ h
below_may_have n (Up k) Free b h = tt
below_may_have n Free Free b h = tt
below_may_have n Out u b h = absurd h
below_may_have n Asking u b h = absurd h
below_may_have n s u b h = absurd b

StateHas : ℕ → State → Type 0
StateHas n (At s) = MayHaveSent n s
StateHas n (Owes s) = ⊥

covers_has : (n : ℕ) (u : Stand) (v : List Frame) (s : State) (end : List Frame) → Covers u v s end → StateHas n s → HasSent n u
unfolding StateHas
covers_has n _ _ _ end (Here s u _ b) h = may_has n u (below_may_have n s u b h)
covers_has n _ _ _ end (Asked s u q x _ b is) h = absurd h
covers_has n _ _ s end (Later u x v _ _ k) h = onward_has n u x (covers_has n (onward u x) v s end k h)
covers_has n _ _ s end (Begins x v _ _ a k) h = tt

leads_has : (n : ℕ) (u : Stand) (way : List Frame) (t : Stand) (end : List Frame) → Leads u way t end → MayHaveSent n u → MayHaveSent n t
leads_has n _ _ _ _ (Stays u way) h = h
leads_has n _ _ t end (Steps u x way _ _ e k) h = leads_has n (onward u x) way t end k (onward_may_have n u x h)

up_has_sent : (set : LinkSet) (k : Numbers) (end : List Frame) → Has set (At (Up k)) end → (q : Spot) × IsIn q set.spots.items × HasSent k.sent q.stand
unfolding StateHas
up_has_sent set k end g = (
  g.0,
  g.1,
  covers_has k.sent g.0.stand (drop g.0.at set.way.items) (At g.2.stand) g.2.end g.2.covers
      (leads_has k.sent g.2.good end g.2.stand g.2.end g.2.leads
      (below_may_have k.sent (Up k) g.2.good g.2.below refl)),
)

-- ---- the end, beside the places in which it is had

-- the octets that go with its numbers, in a session
abbrev pub HeldIn : session.Stand → Held → Peer → Type 0
HeldIn session.In held p = IsHeld held p.given p.sent
HeldIn stand held p = Unit {0}

pub record Follows (set : LinkSet) (held : Held) (stand : session.Stand) (p : Peer) (way : Way) : Type 0 where
  pub end : List Frame
  pub has : Has set (At (stand_of stand p)) end
  pub means : Means end way
  pub room : HasRoom held
  pub octets : HeldIn stand held p

in_session : (stand : session.Stand) (held : Held) (p : Peer) → stand ≡ In → HeldIn stand held p → IsHeld held p.given p.sent
in_session stand held p is h = subst (λ s. HeldIn s held p) is h

-- an I frame that goes again has the octets that it had
same_info : (held : Held) (p : Peer) (ns nr : ℕ) (pf : Bool) (packet : List ℕ) → IsHeld held p.given p.sent → (n : ℕ)
    → MayNumber p ns packet n → n ≤ p.sent → (n == p.sent || not (differs held (info ns nr pf packet))) ≡ true
same_info held p ns nr pf packet is n m low = go (n == p.sent) refl
  where
    go : (b : Bool) → (n == p.sent) ≡ b → (b || not (differs held (info ns nr pf packet))) ≡ true
    go true e = refl
    go false e = ap not (same_octets held p.given p.sent n ns nr pf packet m.number (is_before n p.sent low e) m.again m.same is)

same_by_held : (held : Held) (p : Peer) (frame : PlainFrame) → IsHeld held p.given p.sent → IsSame p frame (differs held frame)
same_by_held held p (info ns nr pf packet) is = λ n m low. same_info held p ns nr pf packet is n m low
same_by_held held p frame is = tt

same_anyhow : (p : Peer) (frame : PlainFrame) → IsSame p frame false
same_anyhow p (info ns nr pf packet) = λ n m low. or-true (n == p.sent)
same_anyhow p frame = tt

-- ---- the end sends

told_held : (held : Held) (p q : Peer) (t : ℕ) → q ≡ peer.told_to t p → IsHeld held p.given p.sent → IsHeld held q.given q.sent
told_held held p q t e is = subst (λ (r : Peer). IsHeld held r.given r.sent) (sym e) is

counted_held : (held : Held) (p q : Peer) (frame : PlainFrame) → MaySend p frame q → IsHeld held p.given p.sent → IsHeld (keeps held frame) q.given q.sent
unfolding keeps
counted_held held p q (info ns nr pf packet) may is =
    subst (λ (r : Peer). IsHeld (keeps held (info ns nr pf packet)) r.given r.sent) (sym may.6)
    (sent_held held p.given p.sent may.0 ns nr pf packet may.2.number may.3 may.2.again may.4 may.2.same is)
counted_held held p q (rr command nr pf) may is = told_held held p q may.0 may.2 is
counted_held held p q (rnr command nr pf) may is = told_held held p q may.0 may.2 is
counted_held held p q (rej command nr pf) may is = told_held held p q may.0 may.2 is
counted_held held p q frame may is = absurd may

-- where its octets are damaged
lost_counted : (qs : List Spot) (held : Held) (p q : Peer) (frame : PlainFrame) → MaySend p frame q
    → ((at : Spot) × IsIn at qs × HasSent p.sent at.stand) → IsHeld held p.given p.sent → IsHeld (forgets_each qs held) q.given q.sent
lost_counted qs held p q (info ns nr pf packet) may at is =
    subst (λ (r : Peer). IsHeld (forgets_each qs held) r.given r.sent) (sym may.6)
    (subst (λ m. IsHeld (forgets_each qs held) p.given m) (sent_is may.0 p.sent may.3)
    (cond_both (may.0 == p.sent) (p.sent + 1) p.sent (λ m. IsHeld (forgets_each qs held) p.given m)
    (λ _. held_more qs held p.given p.sent is at) (λ _. held_less qs held p.given p.sent is)))
lost_counted qs held p q (rr command nr pf) may at is =
    told_held (forgets_each qs held) p q may.0 may.2 (held_less qs held p.given p.sent is)
lost_counted qs held p q (rnr command nr pf) may at is =
    told_held (forgets_each qs held) p q may.0 may.2 (held_less qs held p.given p.sent is)
lost_counted qs held p q (rej command nr pf) may at is =
    told_held (forgets_each qs held) p q may.0 may.2 (held_less qs held p.given p.sent is)
lost_counted qs held p q frame may at is = absurd may

-- what is held then, as it counts in a session, and where one begins
next_held : (held now : Held) (stand next : session.Stand) (p q : Peer) (way rest : Way) (frame : PlainFrame)
    → (stand ≡ In → MaySend p frame q → IsHeld held p.given p.sent → IsHeld now q.given q.sent) → IsHeld now [] 0
    → MaySay stand p way frame next q rest → HeldIn stand held p → HeldIn next now q
next_held held now stand _ p q way _ frame counts begun (numbered _ _ is may) was = counts is may (in_session stand held p is was)
next_held held now stand _ p _ way _ _ counts begun (declines f) was = none stand
  where
    none : (s : session.Stand) → HeldIn (declined s) now p
    none session.Asking = tt
    none s = tt
next_held held now stand _ p _ way _ _ counts begun (takes_sabm b f rest is) was = begun
next_held held now stand _ p _ way _ _ counts begun other was = tt

-- ---- one line

module _ {set : LinkSet} {held : Held} {stand : session.Stand} {p : Peer} {way : Way} (h : Follows set held stand p way) where
  module _ (next : session.Stand) (q : Peer) (rest : Way) (frame : PlainFrame) (may : MaySay stand p way frame next q rest) where
    said : Says set (shown frame (differs held frame)) next q rest
    said =
        says set stand next p q way rest h.end frame (differs held frame) h.has h.means may
        (λ is. same_by_held held p frame (in_session stand held p is h.octets))

    pub says_untold : (sends_to (shown frame (differs held frame)) set).told ≡ Nothing
    says_untold = is_untold set (shown frame (differs held frame)) said.state (At (stand_of next q)) said.end said.may said.has

    says_on : Follows (sends_to (shown frame (differs held frame)) set).set (keeps held frame) next q rest
    says_on =
        let room = keeps_room held frame h.room in
        record {
          end = said.end;
          has = has_sent set (shown frame (differs held frame)) said.state (At (stand_of next q)) said.end said.may said.has;
          means = said.means;
          room = room;
          octets = next_held held (keeps held frame) stand next p q way rest frame (λ is may was. counted_held held p q frame may was)
              (begun_held (keeps held frame) [] room) may h.octets;
        }

  garbled : (next : session.Stand) (q : Peer) (rest : Way) (state : State) (end : List Frame) → link.MaySend state end Unread (At (stand_of next q))
      → Has set state end → Means end rest
      → HeldIn next (forgets_each set.spots.items held) q → Follows (sends_to Unread set).set (forgets_each set.spots.items held) next q rest
  garbled next q rest state end may has means is = record {
    end = end;
    has = has_sent set Unread state (At (stand_of next q)) end may has;
    means = means;
    room = each_room set.spots.items held h.room;
    octets = is;
  }

  garbles_on : (next : session.Stand) (q : Peer) (rest : Way) (frame : PlainFrame) → MaySay stand p way frame next q rest
      → Follows (sends_to Unread set).set (forgets_each set.spots.items held) next q rest
  garbles_on next q rest frame may =
      let s = says set stand next p q way rest h.end frame false h.has h.means may (λ is. same_anyhow p frame) in
      let room = each_room set.spots.items held h.room in
      garbled next q rest s.state s.end (link.was_any s.state (At (stand_of next q)) s.end (shown frame false) s.may) s.has s.means
      (next_held held (forgets_each set.spots.items held) stand next p q way rest frame
      (λ is may was. lost_counted set.spots.items held p q frame may
      (up_has_sent set (numbers_of p) h.end (subst (λ s. Has set (At (stand_of s p)) h.end) is h.has)) was)
      (begun_held (forgets_each set.spots.items held) [] room) may h.octets)

  noise_on : Follows (sends_to Unread set).set (forgets_each set.spots.items held) stand p way
  noise_on = garbled stand p way (At (stand_of stand p)) h.end (link.was_none (stand_of stand p) h.end) h.has h.means (less stand h.octets)
    where
      less : (s : session.Stand) → HeldIn s held p → HeldIn s (forgets_each set.spots.items held) p
      less session.In is = held_less set.spots.items held p.given p.sent is
      less s is = tt

  -- the other end sends
  shown_on : (y : Frame) (what : Option PlainFrame) → IsPart y what → IsTimely way → Follows (shows_to y set) held stand p (way ++ what ∷ [])
  shown_on y what is timely = record {
    end = h.end ++ y ∷ [];
    has = has_shown y (At (stand_of stand p)) h.end set (λ full. subst (λ n. n < 64) (sym (means_same h.end way h.means)) timely) h.has;
    means = means_on h.end way y what is h.means;
    room = h.room;
    octets = h.octets;
  }

  -- ---- without a line

  left : Follows set held session.Out p way
  left = record {
    end = h.end;
    has = has_less set.spots.items set.way.items (stand_of stand p) Out h.end h.has tt;
    means = h.means;
    room = h.room;
    octets = tt;
  }

  handed : (packet : List ℕ) → Follows set held stand (record p { given = p.given ++ packet ∷ [] }) way
  handed packet = record {
    end = h.end;
    has = subst (λ s. Has set (At s) h.end) (same stand) h.has;
    means = h.means;
    room = h.room;
    octets = more stand h.octets;
  }
    where
      same : (s : session.Stand) → stand_of s p ≡ stand_of s (record p { given = p.given ++ packet ∷ [] })
      same session.Out = refl
      same s = refl

      more : (s : session.Stand) → HeldIn s held p → HeldIn s held (record p { given = p.given ++ packet ∷ [] })
      more session.In is = pushed_held held p.given packet p.sent is
      more s is = tt

module _ {set : LinkSet} {held : Held} {p : Peer} {way : Way} where
  passed : {stand : session.Stand} {what : Option PlainFrame} → Follows set held stand p (what ∷ way) → Follows set held stand p way
  passed {stand} {what} h =
      let g = front set (stand_of stand p) h.end what way h.has h.means in record {
        end = g.rest;
        has = passes_it set p g.rest (stand_of stand p) g.first g.has;
        means = g.means;
        room = h.room;
        octets = h.octets;
      }

  came : (q : Peer) (f : PlainFrame) → MayHear p (Ok f) q → Follows set held In p (Some f ∷ way) → Follows set held In q way
  came q f may h =
      let g = front set (Up (numbers_of p)) h.end (Some f) way h.has h.means in record {
        end = g.rest;
        has = heard_has set p g.rest q g.first f g.is may g.has;
        means = g.means;
        room = h.room;
        octets = heard_keeps (IsHeld held) p q (read_as (Ok f)) may h.octets;
      }

  accepted : (f : Bool) → Follows set held session.Asking p (Some (ua f) ∷ way) → Follows set held In fresh_peer way
  accepted f h =
      let g = front set Asking h.end (Some (ua f)) way h.has h.means in record {
        end = g.rest;
        has = accepted_has set p g.rest g.first f g.is g.has;
        means = g.means;
        room = h.room;
        octets = begun_held held [] h.room;
      }

-- ---- what a line makes of the ends

pub record IsEnd (set : LinkSet) (held : Held) (e : End) : Type 0 where
  pub places : e.set ≡ set
  pub octets : e.held ≡ held

same_end : (e f : End) → e ≡ f → IsEnd f.set f.held e
same_end e f is = record { places = ap (λ (e : End). e.set) is; octets = ap (λ (e : End). e.held) is }

-- the end, where the link isn't taken up
same_up : (e f : End) (b : Bool) (up set : LinkSet) → e ≡ f → f.set ≡ (if b then up else set) → b ≡ false → IsEnd set f.held e
same_up e f b up set is at down = record {
  places = ap (λ (e : End). e.set) is ∙ (at ∙ ap (λ c. if c then up else set) down);
  octets = ap (λ (e : End). e.held) is;
}

pub sent_end : (from : Role) (j : Judge) (line octets : List ℕ) (frame : PlainFrame) → Shows line from octets frame → takes_up j from frame ≡ false
    → IsEnd (sends_to (shown frame (differs (own_of from j).held frame)) (own_of from j).set).set
    (keeps (held_by (sends_to (shown frame (differs (own_of from j).held frame)) (own_of from j).set).told (own_of from j).held) frame)
    (own_of from (answer_to j line).next)
sent_end from j line octets frame shows down = same_up _ _ (takes_up j from frame) _ _ (goes j line from octets frame shows).own refl down

pub shown_end : (from : Role) (j : Judge) (line octets : List ℕ) (frame : PlainFrame) → Shows line (other from) octets frame
    → takes_up j (other from) frame ≡ false → IsEnd (shows_to (shown frame (differs (own_of (other from) j).held frame)) (own_of from j).set) (own_of from j).held
    (own_of from (answer_to j line).next)
shown_end Dte j line octets frame shows down = same_up _ _ (takes_up j Dce frame) _ _ (goes j line Dce octets frame shows).opposite refl down
shown_end Dce j line octets frame shows down = same_up _ _ (takes_up j Dte frame) _ _ (goes j line Dte octets frame shows).opposite refl down

pub missed_end : (from : Role) (j : Judge) (line octets : List ℕ) → IsDamaged line from octets
    → IsEnd (sends_to Unread (own_of from j).set).set (forgets_each (own_of from j).set.spots.items (own_of from j).held)
    (own_of from (answer_to j line).next)
missed_end from j line octets broken = same_end _ _ (past j line from octets broken).own

pub lost_end : (from : Role) (j : Judge) (line octets : List ℕ) → IsDamaged line (other from) octets
    → IsEnd (shows_to Unread (own_of from j).set) (own_of from j).held (own_of from (answer_to j line).next)
lost_end Dte j line octets broken = same_end _ _ (past j line Dce octets broken).opposite
lost_end Dce j line octets broken = same_end _ _ (past j line Dte octets broken).opposite

-- ---- and of what is known of them

abbrev FollowsOf : End → session.Stand → Peer → Way → Type 0
FollowsOf e stand p way = Follows e.set e.held stand p way

by_end : {set : LinkSet} {held : Held} {e : End} {stand : session.Stand} {p : Peer} {way : Way} → IsEnd set held e → Follows set held stand p way
    → FollowsOf e stand p way
by_end {set} {held} {e} {stand} {p} {way} g h =
    subst (λ (s : LinkSet). Follows s e.held stand p way) (sym g.places)
    (subst (λ (x : Held). Follows set x stand p way) (sym g.octets) h)

is_lost : (what : Option PlainFrame) → IsPart Unread what
is_lost None = refl
is_lost (Some f) = inr refl

-- ---- the laws

pub seen_fair : (from : Role) (j : Judge) (frame : PlainFrame) → (sends_to (shown frame (differs (own_of from j).held frame)) (own_of from j).set).told
    ≡ Nothing → is_of_order (seen_by j from frame).seen.rule ≡ false
seen_fair from j frame e =
    minds_fair j.window _ _ frame _ (ap (λ t. is_of_order (rule_of t (shown frame (differs (own_of from j).held frame)))) e)

pub none_of_order : (from : Role) (j : Judge) (frame : PlainFrame) → is_of_order (seen_by j from frame).seen.rule ≡ false
    → is_of_order (told_rule j from frame) ≡ false
none_of_order from j frame e =
    let t = seen_by j from frame in
    told_of_order t.seen.rule (book.sees from j.reading frame (breaks_order t.seen.rule) t.seen.is_open j.book).verdict.rule e

-- a set-up begins a session
comes_to : (way : List Frame) (u : Stand) → is_below fresh (comes way u) ≡ true → Covers u way (At fresh) []
comes_to [] u e = Here fresh u [] (below_is fresh u e)
comes_to (x ∷ way) Asking e = go (may_answer x) refl e (comes_to way fresh) (comes_to way Asking)
  where
    go : (b : Bool) → may_answer x ≡ b → is_below fresh (comes way (if b then fresh else Asking)) ≡ true
        → (is_below fresh (comes way fresh) ≡ true → Covers fresh way (At fresh) [])
        → (is_below fresh (comes way Asking) ≡ true → Covers Asking way (At fresh) []) → Covers Asking (x ∷ way) (At fresh) []
    go true a h one two = Begins x way (At fresh) [] a (one h)
    go false a h one two = Later Asking x way (At fresh) [] (two h)
comes_to (x ∷ way) u e = Later u x way (At fresh) [] (comes_to way (upward u x) e)

begun : (from : Role) (j : Judge) → IsBegun j from → FollowsOf (own_of from j) In fresh_peer []
begun from j h =
    let q = h.up.0 in
    let way = drop q.at (own_of from j).set.way.items in
    record {
      end = [];
      has = (q, h.up.1, stays_at q.stand way fresh fresh [] (below_self fresh) (comes_to way q.stand h.up.2));
      means = tt;
      room = record { octets = h.octets; known = h.known };
      octets = begun_held (own_of from j).held [] (record { octets = h.octets; known = h.known });
    }

at_first : Follows unknown none_held session.Out fresh_peer []
unfolding no_octets
at_first = record {
  end = [];
  has = has_less unknown.spots.items unknown.way.items Free Out []
      (has_taken unknown.spots.items unknown.way.items (At Free) (At Free) Before []
      (_, inl refl, stays_at Free (Before ∷ []) Free Free (Before ∷ []) tt (Here Free Free (Before ∷ []) tt)) (passes Free Before)) tt;
  means = tt;
  room = record { octets = refl; known = refl };
  octets = tt;
}

standing : (from : Role) (j : Judge) (stand : session.Stand) (p : Peer) (way : Way) → MayStand from j stand p way → FollowsOf (own_of from j) stand p way
standing Dte _ _ _ _ (sessions.Starts window defaults reading strictness) = at_first
standing Dce _ _ _ _ (sessions.Starts window defaults reading strictness) = at_first
standing from _ _ _ _ (sessions.SetUp j b) = begun from j b
standing from _ stand _ way (sessions.HandsDown j _ p _ packet h) = handed (standing from j stand p way h) packet
standing from j _ p way (sessions.Leaves _ stand _ _ h) = left (standing from j stand p way h)
standing from _ _ _ _ (sessions.Says j stand next p q way rest line octets frame shows may h) =
    let over = says_apart (own_of from j).watch stand next p q way rest frame (differs (own_of from j).held frame) (stays_apart from j stand p way h) may in
    let g = sent_end from j line octets frame shows (down_if_over j from frame over) in
    let was = standing from j stand p way h in
    by_end {e = own_of from (answer_to j line).next} (record {
      places = g.places;
      octets = g.octets ∙ ap (λ t. keeps (held_by t (own_of from j).held) frame) (says_untold was next q rest frame may);
    }) (says_on was next q rest frame may)
standing from _ stand p _ (sessions.Shown j _ _ way line octets frame shows timely h) =
    by_end (shown_end from j line octets frame shows (apart_hears j from stand frame (stays_apart from j stand p way h)))
    (shown_on (standing from j stand p way h) _ (Some frame) (inl (differs (own_of (other from) j).held frame, refl)) timely)
standing from _ _ _ _ (sessions.Garbles j stand next p q way rest line octets frame broken may h) =
    by_end (missed_end from j line octets broken) (garbles_on (standing from j stand p way h) next q rest frame may)
standing from _ stand p way (sessions.Noises j _ _ _ line octets broken h) =
    by_end (missed_end from j line octets broken) (noise_on (standing from j stand p way h))
standing from _ stand p _ (sessions.Fails j _ _ way line octets what broken timely h) =
    by_end (lost_end from j line octets broken) (shown_on (standing from j stand p way h) Unread what (is_lost what) timely)
standing from j stand p way (sessions.Passes _ _ _ what _ h) = passed (standing from j stand p (what ∷ way) h)
standing from j _ _ way (sessions.Comes _ p q frame _ may h) = came q frame may (standing from j In p (Some frame ∷ way) h)
standing from j _ _ way (sessions.TakesUa _ p f _ h) = accepted f (standing from j session.Asking p (Some (ua f) ∷ way) h)

pub no_session_is_accused : NoSessionIsAccused
no_session_is_accused from j stand next p q way rest line octets frame may shows says_it =
    none_of_order from j frame
    (seen_fair from j frame (says_untold (standing from j stand p way may) next q rest frame says_it))
