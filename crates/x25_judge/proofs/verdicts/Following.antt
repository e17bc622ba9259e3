-- An end that keeps the rules of docs/PEER.md, beside the places in which the judge has it.
use Rattle.x25_judge.proofs.verdicts.Names.{◌≡◌, ◌⊎◌, inl, inr, ℕ, ◌+◌, ◌%◌, ◌≤◌, ◌==◌, arith, max, Bool, true, false, List, [], ◌∷◌, ◌++◌, length, suc, Option}
use Rattle.x25_judge.proofs.verdicts.Names.{Some, None, refl, sym, ap, ◌∙◌, subst, not, ◌&&◌, ◌||◌, nat_le, nat_lt, and_from, both_ways, cond-true, cond_both}
use Rattle.x25_judge.proofs.verdicts.Names.{lt-ltb, PlainFrame, info, rr, rnr, rej, sabm, disc, ua, Peer, fresh_peer, MayAcknowledge, MayNumber, Said, Tells}
use Rattle.x25_judge.proofs.verdicts.Names.{In, shown, Way, MaySay, MaySend, HaveNoUa, IsUa, declined, numbered, asks_again, closes, declines, rejects}
use Rattle.x25_judge.proofs.verdicts.Names.{takes_disc, takes_sabm, waits_on, IsIn, State, At, Owes, owes, fresh, has_ua, is_asking, is_ua, may_acknowledge}
use Rattle.x25_judge.proofs.verdicts.Names.{may_number, sends_as, Frame, Ready, Sabm, Disc, Ua, Dm, Frmr, Unread, LinkSet, Numbers, Stand, Out, Asking, Up}
use Rattle.x25_judge.proofs.verdicts.Names.{Free, Has, has_taken, if◌then◌else◌, eq-eqb, le-leb}
use Rattle.x25_judge.specs.laws.Sessions.{asks}
use Rattle.std.proofs.lemmas.Bool.Decides.{nat_tests}
use Rattle.x25_line.specs.laws.Peer as peer
use Rattle.x25_line.specs.laws.PeerSessions as session
use Rattle.x25_possible_links.specs.laws.Link as link

abbrev pub numbers_of : Peer → Numbers
numbers_of p = record { sent = p.sent; acked = p.acked; taken = length p.taken; told = p.told }

abbrev pub stand_of : session.Stand → Peer → Stand
stand_of session.Out p = Out
stand_of session.Asking p = Asking
stand_of session.In p = Up (numbers_of p)

-- what comes changes nothing of what it was given and has sent
module _ (P : List (List ℕ) → ℕ → Type 0) where
  hearing_keeps : (b : Bool) (nr : ℕ) (p : Peer) → P p.given p.sent → P (peer.hearing b nr p).given (peer.hearing b nr p).sent
  hearing_keeps true nr p h = h
  hearing_keeps false nr p h = h

  taking_keeps : (b : Bool) (packet : List ℕ) (p : Peer) → P p.given p.sent → P (peer.taking b packet p).given (peer.taking b packet p).sent
  taking_keeps true packet p h = h
  taking_keeps false packet p h = h

  pub heard_keeps : (p q : Peer) (s : Said) → peer.MayMake p s q → P p.given p.sent → P q.given q.sent
  heard_keeps p q (Tells None nr) may h = subst (λ (r : Peer). P r.given r.sent) (sym may.1) (hearing_keeps may.0 nr p h)
  heard_keeps p q (Tells (Some c) nr) may h =
      subst (λ (r : Peer). P r.given r.sent) (sym may.3)
      (taking_keeps may.1 c.packet (peer.hearing may.0 nr p) (hearing_keeps may.0 nr p h))
  heard_keeps p q s may h = subst (λ (r : Peer). P r.given r.sent) (sym may) h

-- ---- what is on the way

-- it is shown as this frame, or can't be read
abbrev pub IsSeen : Frame → PlainFrame → Type 0
IsSeen y f = ((d : Bool) × (y ≡ shown f d)) ⊎ (y ≡ Unread)

-- and damaged octets can't be read
abbrev pub IsPart : Frame → Option PlainFrame → Type 0
IsPart y None = y ≡ Unread
IsPart y (Some f) = IsSeen y f

abbrev pub Means : List Frame → Way → Type 0
Means [] [] = Unit {0}
Means (y ∷ end) (f ∷ way) = IsPart y f × Means end way
Means end way = ⊥

pub means_on : (end : List Frame) (way : Way) (y : Frame) (f : Option PlainFrame) → IsPart y f → Means end way → Means (end ++ y ∷ []) (way ++ f ∷ [])
means_on [] [] y f is m = (is, tt)
means_on (z ∷ end) (g ∷ way) y f is m = (m.0, means_on end way y f is m.1)
means_on end way y f is m = absurd m

pub means_same : (end : List Frame) (way : Way) → Means end way → length end ≡ length way
means_same [] [] m = refl
means_same (z ∷ end) (g ∷ way) m = ap suc (means_same end way m.1)
means_same end way m = absurd m

-- what is in front
pub record Front (set : LinkSet) (s : Stand) (f : Option PlainFrame) (way : Way) : Type 0 where
  pub first : Frame
  pub rest : List Frame
  pub is : IsPart first f
  pub has : Has set (At s) (first ∷ rest)
  pub means : Means rest way

pub front : (set : LinkSet) (s : Stand) (end : List Frame) (f : Option PlainFrame) (way : Way) → Has set (At s) end → Means end (f ∷ way) → Front set s f way
front set s [] f way has m = absurd m
front set s (y ∷ end) f way has m = record { first = y; rest = end; is = m.0; has = has; means = m.1 }

-- no UA is among them
not_ua : (y : Frame) (f : PlainFrame) → IsSeen y f → is_ua (shown f false) ≡ false → is_ua y ≡ false
unfolding shown
not_ua y (ua f) (inl h) e = absurd (both_ways true e refl)
not_ua y f (inr h) e = ap is_ua h
not_ua y f (inl h) e = ap is_ua h.1

is_no_ua : (f : PlainFrame) → (IsUa f → ⊥) → is_ua (shown f false) ≡ false
unfolding shown
is_no_ua (ua f) none = absurd (none tt)
is_no_ua f none = refl

no_ua : (end : List Frame) (way : Way) → Means end way → HaveNoUa way → has_ua end ≡ false
no_ua [] [] m h = refl
no_ua (y ∷ end) (None ∷ way) m h = ap (λ b. b || has_ua end) (ap is_ua m.0) ∙ no_ua end way m.1 h
no_ua (y ∷ end) (Some f ∷ way) m h =
    ap (λ b. b || has_ua end) (not_ua y f m.0 (is_no_ua f h.0)) ∙ no_ua end way m.1 h.1
no_ua end way m h = absurd m

-- ---- numbers

acknowledged : (p : Peer) (nr t : ℕ) → MayAcknowledge p nr t → may_acknowledge t (numbers_of p) nr ≡ true
acknowledged p nr t m =
    and_from (nr == t % 8) (nat_le p.told t && nat_le t (length p.taken)) (eq-eqb nr (t % 8) m.number)
    (and_from (nat_le p.told t) (nat_le t (length p.taken)) (le-leb p.told t m.rising) (le-leb t (length p.taken) m.taken))

may_be_numbered : (p : Peer) (ns n : ℕ) (packet : List ℕ) (d : Bool) → MayNumber p ns packet n → n ≤ p.sent → (n == p.sent || not d) ≡ true
    → may_number n (numbers_of p) ns d ≡ true
may_be_numbered p ns n packet d m low same =
    and_from (ns == n % 8) (nat_le n p.sent && (nat_le p.sent (n + 7) && (nat_lt n (p.acked + 7) && (n == p.sent || not d))))
    (eq-eqb ns (n % 8) m.number)
    (and_from (nat_le n p.sent) (nat_le p.sent (n + 7) && (nat_lt n (p.acked + 7) && (n == p.sent || not d))) (le-leb n p.sent low)
    (and_from (nat_le p.sent (n + 7)) (nat_lt n (p.acked + 7) && (n == p.sent || not d)) (le-leb p.sent (n + 7) m.again)
    (and_from (nat_lt n (p.acked + 7)) (n == p.sent || not d) (lt-ltb n (p.acked + 7) m.window) same)))

pub sent_is : (n m : ℕ) → n ≤ m → (if n == m then m + 1 else m) ≡ max m (n + 1)
sent_is n m low = cond_both (n == m) (m + 1) m (λ k. k ≡ max m (n + 1)) (λ e. grind (arith, nat_tests, e)) (λ e. grind (arith, nat_tests, e, low))

-- the same octets go again
abbrev pub IsSame : Peer → PlainFrame → Bool → Type 0
IsSame p (info ns nr pf packet) d = (n : ℕ) → MayNumber p ns packet n → n ≤ p.sent → (n == p.sent || not d) ≡ true
IsSame p frame d = Unit {0}

pub record Counts (p q : Peer) (end : List Frame) (x : Frame) : Type 0 where
  pub number : ℕ
  pub last : ℕ
  pub goes : sends_as number last (Up (numbers_of p)) end x ≡ Some (Up (numbers_of q))

ready_counts : (p q : Peer) (end : List Frame) (nr t : ℕ) → MayAcknowledge p nr t → q ≡ peer.told_to t p → Counts p q end (Ready nr)
ready_counts p q end nr t m e = record {
  number = 0;
  last = t;
  goes = cond-true (may_acknowledge t (numbers_of p) nr) (Some (Up (link.told_to t (numbers_of p)))) None (acknowledged p nr t m)
      ∙ ap (λ r. Some (Up (numbers_of r))) (sym e);
}

counts : (p q : Peer) (end : List Frame) (frame : PlainFrame) (d : Bool) → MaySend p frame q → IsSame p frame d → Counts p q end (shown frame d)
unfolding shown
counts p q end (info ns nr pf packet) d may same =
    let n = may.0 in
    let t = may.1 in record {
      number = n;
      last = t;
      goes = cond-true (may_number n (numbers_of p) ns d && may_acknowledge t (numbers_of p) nr) _ None
          (and_from (may_number n (numbers_of p) ns d) (may_acknowledge t (numbers_of p) nr)
          (may_be_numbered p ns n packet d may.2 may.3 (same n may.2 may.3)) (acknowledged p nr t may.5))
          ∙ ap (λ m. Some (Up (record { sent = m; acked = p.acked; taken = length p.taken; told = t }))) (sent_is n p.sent may.3)
          ∙ ap (λ r. Some (Up (numbers_of r))) (sym may.6);
    }
counts p q end (rr command nr pf) d may same = ready_counts p q end nr may.0 may.1 may.2
counts p q end (rnr command nr pf) d may same = ready_counts p q end nr may.0 may.1 may.2
counts p q end (rej command nr pf) d may same = ready_counts p q end nr may.0 may.1 may.2
counts p q end frame d may same = absurd may

-- ---- what it sends

pub owed_first : (s : Stand) → IsIn fresh (link.owed s Sabm)
owed_first Out = inl refl
owed_first s = inl refl

-- where it stands before it sends this, once it has taken what it answers
pub record Says (set : LinkSet) (x : Frame) (stand : session.Stand) (p : Peer) (way : Way) : Type 0 where
  pub state : State
  pub end : List Frame
  pub has : Has set state end
  pub may : link.MaySend state end x (At (stand_of stand p))
  pub means : Means end way

module _ (set : LinkSet) where
  sends_it : (s : Stand) (end : List Frame) (x : Frame) (n t : ℕ) (stand : session.Stand) (p : Peer) (way : Way)
      → Has set (At s) end → Means end way → sends_as n t s end x ≡ Some (stand_of stand p) → Says set x stand p way
  sends_it s end x n t stand p way has m e =
      record { state = At s; end = end; has = has; may = link.sends s (stand_of stand p) end x n t e; means = m }

  answers_it : (s : Stand) (end : List Frame) (f : PlainFrame) (rest : Way) (stand : session.Stand) (p : Peer)
      → ((y : Frame) → IsSeen y f → IsIn (stand_of stand p) (link.owed s y)) → Has set (At s) end → Means end (Some f ∷ rest) → Says set Ua stand p rest
  answers_it s end f rest stand p owed has m =
      let g = front set s end (Some f) rest has m in record {
        state = Owes (stand_of stand p);
        end = g.rest;
        has = has_taken set.spots.items set.way.items (At s) (Owes (stand_of stand p)) g.first g.rest g.has
            (owes s (stand_of stand p) g.first (owed g.first g.is));
        may = link.answers (stand_of stand p) g.rest;
        means = g.means;
      }

  -- it is owed to the frame, and to octets that may have been any
  owes_it : (s r : Stand) (f : PlainFrame) (x : Frame) → ((d : Bool) → shown f d ≡ x) → IsIn r (link.owed s x) → IsIn r (link.asked s)
      → (y : Frame) → IsSeen y f → IsIn r (link.owed s y)
  owes_it s r f x is here any y (inl h) = subst (λ z. IsIn r (link.owed s z)) (sym (h.1 ∙ is h.0)) here
  owes_it s r f x is here any y (inr h) = subst (λ z. IsIn r (link.owed s z)) (sym h) any

  asked_out : (s : Stand) → IsIn Out (link.asked s)
  asked_out Asking = inr (inr (inl refl))
  asked_out Free = inr (inr (inl refl))
  asked_out s = inr (inl refl)

  asked_fresh : (s : Stand) → IsIn fresh (link.asked s)
  asked_fresh Out = inl refl
  asked_fresh s = inl refl

  asks_free : (s : Stand) (end : List Frame) → has_ua end ≡ false → link.asks s end ≡ Some Asking
  asks_free s end e = go (is_asking s)
    where
      go : (b : Bool) → (if b || not (has_ua end) then Some Asking else None) ≡ Some Asking
      go true = refl
      go false = ap (λ c. if not c then Some Asking else None) e

  pub says : (stand next : session.Stand) (p q : Peer) (way rest : Way) (end : List Frame) (frame : PlainFrame) (d : Bool)
      → Has set (At (stand_of stand p)) end → Means end way → MaySay stand p way frame next q rest → (stand ≡ In → IsSame p frame d)
      → Says set (shown frame d) next q rest
  unfolding shown
  says stand _ p q way _ end frame d has m (numbered _ _ is may) same =
      let c = counts p q end frame d may (same is) in
      sends_it (Up (numbers_of p)) end (shown frame d) c.number c.last session.In q way
      (subst (λ s. Has set (At (stand_of s p)) end) is has) m c.goes
  says stand _ p _ way _ end _ d has m (asks b none) same =
      sends_it (stand_of stand p) end Sabm 0 0 session.Asking p way has m (asks_free (stand_of stand p) end (no_ua end way m none))
  says stand _ p _ way _ end _ d has m (asks_again b is) same =
      sends_it (stand_of stand p) end Sabm 0 0 session.Asking p way has m
      (ap (λ s. link.asks (stand_of s p) end) is)
  says stand _ p _ way _ end _ d has m (closes b) same = sends_it (stand_of stand p) end Disc 0 0 session.Out p way has m refl
  says stand _ p _ way _ end _ d has m (declines f) same =
      sends_it (stand_of stand p) end Dm 0 0 (declined stand) p way has m (ap (λ (s : Stand). Some s) (same_stand stand))
    where
      same_stand : (stand : session.Stand) → link.declines (stand_of stand p) ≡ stand_of (declined stand) p
      same_stand session.Out = refl
      same_stand session.Asking = refl
      same_stand session.In = refl
  says stand _ p _ way _ end _ d has m (rejects f why) same = sends_it (stand_of stand p) end Frmr 0 0 session.Out p way has m refl
  says stand _ p _ way _ end _ d has m (takes_disc b f rest is) same =
      answers_it (stand_of stand p) end (disc b) rest session.Out p
      (owes_it (stand_of stand p) Out (disc b) Disc (λ d. refl) (inl refl) (asked_out (stand_of stand p))) has (subst (λ w. Means end w) is m)
  says stand _ p _ way _ end _ d has m (takes_sabm b f rest is) same =
      answers_it (stand_of stand p) end (sabm b) rest session.In fresh_peer
      (owes_it (stand_of stand p) fresh (sabm b) Sabm (λ d. refl) (owed_first (stand_of stand p)) (asked_fresh (stand_of stand p))) has
      (subst (λ w. Means end w) is m)
  says stand _ p _ way _ end _ d has m (waits_on b f rest waits is) same =
      answers_it Asking end (sabm b) rest session.Asking p (owes_it Asking Asking (sabm b) Sabm (λ d. refl) (inr (inl refl)) (inr (inl refl)))
      (subst (λ s. Has set (At (stand_of s p)) end) waits has) (subst (λ w. Means end w) is m)
