-- Each step of a peer of the link is one of an end that keeps the rules of a link.
use Rattle.x25_possible_peers.proofs.Names.{◌≡◌, inl, inr, ℕ, ◌+◌, ◌-◌, ◌%◌, ◌≤◌, ◌==◌, Bool, true, false, not, ◌&&◌, ◌||◌, List, [], ◌∷◌, ◌++◌, length, Option}
use Rattle.x25_possible_peers.proofs.Names.{Some, None, refl, sym, ap, ap₂, subst, ◌∙◌, arith, nat_le, nat_lt, if◌then◌else◌, and_from, eq-eqb, eqb-true}
use Rattle.x25_possible_peers.proofs.Names.{le-leb, append-nil, length_push, Ends, Letter, near_now, Peer, Said, Carried, IsIn, Owes, may_acknowledge}
use Rattle.x25_possible_peers.proofs.Names.{may_number, Frame, Stand, Up, numbers_of, stand_of, differs, frames_of, AreShown}
use Rattle.std.proofs.{Common.{max, suc, slice_get}, Math.Bool.{or-true}, lemmas.Bool.{lt-ltb, both_ways, cond-true}}
use Rattle.std.proofs.lemmas.List.{append_cancel_left, append_cancel_right}
use Rattle.x25_line.specs.laws.{Ends.{letter, Does, put_for, how_many}, Peer.{fresh_peer, MayAcknowledge, MayNumber}, Said.{ua_of}, Tape.{same_octets, is_item}}
use Rattle.x25_possible_links.specs.declared.stand.Stand.TheVariants.{Out, Asking, Free}
use Rattle.x25_possible_links.specs.laws.Link.{At, MaySend, MayTake, fresh, has_ua, is_asking, is_ua, owed, sends_as}
use Rattle.x25_possible_peers.specs.laws.LinkPeers.{StandsAt, ArePut, IsOwn, HasLeft, IsAllowed, LinkStepsAreAllowed}
use Rattle.x25_window.specs.code.Modulo.{resolved}
use Rattle.x25_line.specs.laws.Ends as line
use Rattle.x25_line.specs.laws.Peer as peer
use Rattle.x25_line.specs.laws.Said as read
use Rattle.x25_possible_links.specs.laws.Link as link
use Rattle.x25_possible_links.specs.declared.frame.Frame.TheVariants as frame

-- ---- numbers in a session

acknowledged : (p : Peer) (nr t : ℕ) → MayAcknowledge p nr t → may_acknowledge t (numbers_of p) nr ≡ true
acknowledged p nr t m =
    and_from (nr == t % 8) (nat_le p.told t && nat_le t (length p.taken)) (eq-eqb nr (t % 8) m.number)
    (and_from (nat_le p.told t) (nat_le t (length p.taken)) (le-leb p.told t m.rising) (le-leb t (length p.taken) m.taken))

numbered : (p : Peer) (ns n : ℕ) (packet : List ℕ) (d : Bool) → MayNumber p ns packet n → n ≤ p.sent → d ≡ false
    → may_number n (numbers_of p) ns d ≡ true
numbered p ns n packet d m low same =
    and_from (ns == n % 8) (nat_le n p.sent && (nat_le p.sent (n + 7) && (nat_lt n (p.acked + 7) && (n == p.sent || not d))))
    (eq-eqb ns (n % 8) m.number)
    (and_from (nat_le n p.sent) (nat_le p.sent (n + 7) && (nat_lt n (p.acked + 7) && (n == p.sent || not d))) (le-leb n p.sent low)
    (and_from (nat_le p.sent (n + 7)) (nat_lt n (p.acked + 7) && (n == p.sent || not d)) (le-leb p.sent (n + 7) m.again)
    (and_from (nat_lt n (p.acked + 7)) (n == p.sent || not d) (lt-ltb n (p.acked + 7) m.window)
    (ap (λ c. n == p.sent || not c) same ∙ or-true (n == p.sent)))))

pub sent_is : (n m : ℕ) → n ≤ m → (if n == m then m + 1 else m) ≡ max m (n + 1)
sent_is n m low = go (n == m) refl
  where
    last : (n m : ℕ) → n ≡ m → m + 1 ≡ max m (n + 1)
    last n m e = omega (arith, e)

    before : (n m : ℕ) → n ≤ m → (n ≡ m → ⊥) → m ≡ max m (n + 1)
    before n m low ne = omega (arith, low, ne)

    go : (b : Bool) → (n == m) ≡ b → (if b then m + 1 else m) ≡ max m (n + 1)
    go true e = last n m (eqb-true n m e)
    go false e = before n m low (λ same. both_ways (n == m) e (eq-eqb n m same))

same_as_itself : (xs : List ℕ) → same_octets xs xs ≡ true
same_as_itself [] = refl
same_as_itself (x ∷ xs) = and_from (x == x) (same_octets xs xs) (eq-eqb x x refl) (same_as_itself xs)

-- an N(S) stands for one number
pub number_is : (sent n : ℕ) → n ≤ sent → sent ≤ n + 7 → resolved (sent - 7) (n % 8) ≡ n
number_is sent n low again = omega (arith, low, again)

-- the packet of its number goes, each time
same_packet : (p : Peer) (c : Carried) (nr n : ℕ) → MayNumber p c.ns c.packet n → n ≤ p.sent → differs p (read.Tells (Some c) nr) ≡ false
same_packet p c nr n m low =
    let is : resolved (p.sent - 7) c.ns ≡ n = ap (λ k. resolved (p.sent - 7) k) m.number ∙ number_is p.sent n low m.again in
    ap (λ k. not (is_item (slice_get p.given k) c.packet)) is ∙ ap (λ o. not (is_item o c.packet)) m.same
    ∙ ap (λ b. not b) (same_as_itself c.packet)

-- ---- what it sends in a session

pub record Counts (p q : Peer) (way : List Frame) (x : Frame) : Type 0 where
  pub number : ℕ
  pub last : ℕ
  pub goes : sends_as number last (Up (numbers_of p)) way x ≡ Some (Up (numbers_of q))

lower : (n m : ℕ) → max m (n + 1) ≤ m + 1 → n ≤ m
lower n m h = omega (arith, h)

counts : (p q : Peer) (way : List Frame) (carried : Option Carried) (nr : ℕ) (x : Frame) → peer.MaySay ⊥ p (read.Tells carried nr) q
    → q.sent ≤ p.sent + 1 → IsIn x (frames_of (differs p (read.Tells carried nr)) (read.Tells carried nr)) → Counts p q way x
counts p q way None nr x may turn (inl is) =
    let t = may.0 in record {
      number = 0;
      last = t;
      goes = ap (λ y. sends_as 0 t (Up (numbers_of p)) way y) is
          ∙ cond-true (may_acknowledge t (numbers_of p) nr) (Some (Up (link.told_to t (numbers_of p)))) None (acknowledged p nr t may.1)
          ∙ ap (λ r. Some (Up (numbers_of r))) (sym may.2);
    }
counts p q way None nr x may turn (inr none) = absurd none
counts p q way (Some c) nr x may turn (inl is) =
    let n = may.0 in
    let t = may.1 in
    let d = differs p (read.Tells (Some c) nr) in
    let low : n ≤ p.sent = lower n p.sent (subst (λ (r : Peer). r.sent ≤ p.sent + 1) may.4 turn) in record {
      number = n;
      last = t;
      goes = ap (λ y. sends_as n t (Up (numbers_of p)) way y) is
          ∙ cond-true (may_number n (numbers_of p) c.ns d && may_acknowledge t (numbers_of p) nr) _ None
          (and_from (may_number n (numbers_of p) c.ns d) (may_acknowledge t (numbers_of p) nr)
          (numbered p c.ns n c.packet d may.2 low (same_packet p c nr n may.2 low)) (acknowledged p nr t may.3))
          ∙ ap (λ m. Some (Up (record { sent = m; acked = p.acked; taken = length p.taken; told = t }))) (sent_is n p.sent low)
          ∙ ap (λ r. Some (Up (numbers_of r))) (sym may.4);
    }
counts p q way (Some c) nr x may turn (inr none) = absurd none

-- ---- what it makes of what comes in a session

abbrev Hears : Peer → Frame → Peer → Type 0
Hears p x q = MayTake (At (Up (numbers_of p))) x (At (Up (numbers_of q)))

hears_to : (p q r : Peer) (x y : Frame) → q ≡ r → x ≡ y → Hears p y r → Hears p x q
hears_to p q r x y e f h = subst (λ z. Hears p z q) (sym f) (subst (λ (s : Peer). Hears p y s) (sym e) h)

number_heard : (p : Peer) (nr : ℕ) (hears : Bool) → Hears p (frame.Ready nr) (peer.hearing hears nr p)
number_heard p nr true = link.hears (numbers_of p) (frame.Ready nr) true false
number_heard p nr false = link.hears (numbers_of p) (frame.Ready nr) false false

pub one_more : (p : Peer) (ns : ℕ) (packet : List ℕ) → ns ≡ length p.taken % 8
    → (if ns == length p.taken % 8 then length p.taken + 1 else length p.taken) ≡ length (p.taken ++ packet ∷ [])
one_more p ns packet wanted =
    ap (λ b. if b then length p.taken + 1 else length p.taken) (eq-eqb ns (length p.taken % 8) wanted) ∙ sym (length_push p.taken packet)

packet_heard : (p : Peer) (ns nr : ℕ) (d hears takes : Bool) (packet : List ℕ) → peer.IsWanted takes ns p
    → Hears p (frame.Info ns nr d) (peer.taking takes packet (peer.hearing hears nr p))
packet_heard p ns nr d true true packet wanted =
    subst (λ m. MayTake (At (Up (numbers_of p))) (frame.Info ns nr d)
    (At (Up (record { sent = p.sent; acked = resolved p.acked nr; taken = m; told = p.told })))) (one_more p ns packet wanted)
    (link.hears (numbers_of p) (frame.Info ns nr d) true true)
packet_heard p ns nr d false true packet wanted =
    subst (λ m. MayTake (At (Up (numbers_of p))) (frame.Info ns nr d)
    (At (Up (record { sent = p.sent; acked = p.acked; taken = m; told = p.told })))) (one_more p ns packet wanted)
    (link.hears (numbers_of p) (frame.Info ns nr d) false true)
packet_heard p ns nr d true false packet wanted = link.hears (numbers_of p) (frame.Info ns nr d) true false
packet_heard p ns nr d false false packet wanted = link.hears (numbers_of p) (frame.Info ns nr d) false false

said_heard : (p q : Peer) (said : Said) (x : Frame) (d : Bool) → peer.MayMake p said q → IsIn x (frames_of d said) → Hears p x q
said_heard p q (read.Tells None nr) x d may (inl is) =
    hears_to p q (peer.hearing may.0 nr p) x (frame.Ready nr) may.1 is (number_heard p nr may.0)
said_heard p q (read.Tells (Some c) nr) x d may (inl is) =
    hears_to p q (peer.taking may.1 c.packet (peer.hearing may.0 nr p)) x (frame.Info c.ns nr d) may.3 is
    (packet_heard p c.ns nr d may.0 may.1 c.packet may.2)
said_heard p q (read.Tells None nr) x d may (inr none) = absurd none
said_heard p q (read.Tells (Some c) nr) x d may (inr none) = absurd none
said_heard p q read.Odd x d may is = absurd is
said_heard p q other x d may is = hears_to p q p x x may refl (link.passes (Up (numbers_of p)) x)

-- ---- no UA is on the way

not_ua : (said : Said) (x : Frame) (d : Bool) → IsIn x (frames_of d said) → ua_of said ≡ 0 → is_ua x ≡ false
not_ua (read.Tells None nr) x d (inl is) none = ap is_ua is
not_ua (read.Tells (Some c) nr) x d (inl is) none = ap is_ua is
not_ua read.Sabm x d (inl is) none = ap is_ua is
not_ua read.Disc x d (inl is) none = ap is_ua is
not_ua read.Ua x d is none = absurd (omega (arith, none))
not_ua read.Else x d (inl is) none = ap is_ua is
not_ua read.Else x d (inr (inl is)) none = ap is_ua is
not_ua read.Else x d (inr (inr (inl is))) none = ap is_ua is
not_ua read.Else x d (inr (inr (inr is))) none = absurd is
not_ua (read.Tells None nr) x d (inr is) none = absurd is
not_ua (read.Tells (Some c) nr) x d (inr is) none = absurd is
not_ua read.Sabm x d (inr is) none = absurd is
not_ua read.Disc x d (inr is) none = absurd is
not_ua read.Odd x d is none = absurd is

no_ua : (es : List Letter) (way : List Frame) → AreShown es way → how_many ua_of es ≡ 0 → has_ua way ≡ false
no_ua [] [] shown none = refl
no_ua (e ∷ es) (x ∷ way) shown none =
    ap (λ b. b || has_ua way) (not_ua e.said x shown.0.0 shown.0.1 (omega (arith, none)))
    ∙ no_ua es way shown.1 (omega (arith, none))
no_ua [] (x ∷ way) shown none = absurd shown
no_ua (e ∷ es) [] shown none = absurd shown

asks_free : (s : Stand) (way : List Frame) → has_ua way ≡ false → link.asks s way ≡ Some Asking
asks_free s way e = go (is_asking s)
  where
    go : (b : Bool) → (if b || not (has_ua way) then Some Asking else None) ≡ Some Asking
    go true = refl
    go false = ap (λ c. if not c then Some Asking else None) e

-- ---- what comes and what is sent, by the letters

abbrev Letters : Ends → List Letter → List Letter → List Frame → List Frame → Type 0
Letters w taken put came own =
    AreShown taken came × ArePut (near_now w) put own × HasLeft w.two.near.stand taken own

module _ (w : Ends) (P : List Frame → List Frame → Type 0) where
  of_none : (came own : List Frame) → P [] [] → Letters w [] [] came own → P came own
  of_none [] [] p h = p
  of_none (y ∷ came) own p h = absurd h.0
  of_none [] (x ∷ own) p h = absurd h.1

  of_put : (e : Letter) (came own : List Frame)
      → ((x : Frame) → IsIn x (frames_of (differs (near_now w) e.said) e.said) → HasLeft w.two.near.stand [] (x ∷ []) → P [] (x ∷ []))
      → Letters w [] (e ∷ []) came own → P came own
  of_put e [] (x ∷ []) p h = p x h.1 h.2
  of_put e (y ∷ came) own p h = absurd h.0
  of_put e [] [] p h = absurd h.1
  of_put e [] (x ∷ z ∷ own) p h = absurd h.1

  of_taken : (e : Letter) (came own : List Frame) → ((y : Frame) (d : Bool) → IsIn y (frames_of d e.said) → P (y ∷ []) [])
      → Letters w (e ∷ []) [] came own → P came own
  of_taken e (y ∷ []) [] p h = p y h.0.0.0 h.0.0.1
  of_taken e [] own p h = absurd h.0
  of_taken e (y ∷ z ∷ came) own p h = absurd h.0.1
  of_taken e (y ∷ []) (x ∷ own) p h = absurd h.1

  of_both : (e f : Letter) (came own : List Frame)
      → ((y x : Frame) (d : Bool) → IsIn y (frames_of d e.said) → IsIn x (frames_of (differs (near_now w) f.said) f.said)
      → HasLeft w.two.near.stand (e ∷ []) (x ∷ []) → P (y ∷ []) (x ∷ []))
      → Letters w (e ∷ []) (f ∷ []) came own → P came own
  of_both e f (y ∷ []) (x ∷ []) p h = p y x h.0.0.0 h.0.0.1 h.1 h.2
  of_both e f [] own p h = absurd h.0
  of_both e f (y ∷ z ∷ came) own p h = absurd h.0.1
  of_both e f (y ∷ []) [] p h = absurd h.1
  of_both e f (y ∷ []) (x ∷ z ∷ own) p h = absurd h.1

letters_are : (w : Ends) (taken taken₂ put put₂ : List Letter) (came own : List Frame) → taken₂ ≡ taken → put₂ ≡ put
    → Letters w taken put came own → Letters w taken₂ put₂ came own
letters_are w taken taken₂ put put₂ came own e f h =
    subst (λ es. Letters w es put₂ came own) (sym e) (subst (λ es. Letters w taken es came own) (sym f) h)

-- ---- where it stands

in_session : (s : Stand) (w : Ends) → StandsAt s w → w.two.near.stand ≡ line.In → s ≡ Up (numbers_of (near_now w))
in_session s w (inl e) is = e ∙ ap (λ c. stand_of c (near_now w)) is
in_session s w (inr out) is = cc

asking : (s : Stand) (w : Ends) → StandsAt s w → w.two.near.stand ≡ line.Asking → s ≡ Asking
asking s w (inl e) is = e ∙ ap (λ c. stand_of c (near_now w)) is
asking s w (inr out) is = cc

pub now_is : (n : ℕ) (p : Peer) (all : ℕ → Peer) → put_for n p all n ≡ p
now_is n p all = ap (λ b. if b then p else all n) (eq-eqb n n refl)

stays : (s : Stand) (w v : Ends) → StandsAt s w → v.two.near ≡ w.two.near → near_now v ≡ near_now w → StandsAt s v
stays s w v (inl e) near now = inl (e ∙ ap₂ (λ (n : line.Stander) (p : Peer). stand_of n.stand p) (sym near) (sym now))
stays s w v (inr out) near now = inr (ap (λ (n : line.Stander). n.stand) near ∙ out)

-- ---- each step

pub only : (x y : Frame) → IsIn x (y ∷ []) → x ≡ y
only x y (inl is) = is
only x y (inr none) = absurd none

module _ (s : Stand) (w v : Ends) (way : List Frame) (at : StandsAt s w) where
  abbrev Fits : List Frame → List Frame → Type 0
  Fits came own = IsAllowed s v came way own

  sends_it : (x y : Frame) (r : Stand) → x ≡ y → StandsAt r v → MaySend (At s) way y (At r) → Fits [] (x ∷ [])
  sends_it x y r is there may = record { stand = r; stands = there; goes = subst (λ z. MaySend (At s) way z (At r)) (sym is) may }

  takes_it : (x y : Frame) (r : Stand) → x ≡ y → StandsAt r v → MayTake (At s) y (At r) → Fits (x ∷ []) []
  takes_it x y r is there may = record { stand = r; stands = there; goes = subst (λ z. MayTake (At s) z (At r)) (sym is) may }

  answers_it : (x y z : Frame) (r : Stand) → x ≡ y → z ≡ frame.Ua → StandsAt r v → IsIn r (owed s y) → Fits (x ∷ []) (z ∷ [])
  answers_it x y z r is ua there owes = record {
    stand = r;
    stands = there;
    goes = (
      subst (λ a. MayTake (At s) a (Owes r)) (sym is) (link.owes s r y owes),
      subst (λ a. MaySend (Owes r) way a (At r)) (sym ua) (link.answers r way),
    );
  }

  numbered_goes : (carried : Option Carried) (nr n : ℕ) (q : Peer) → w.two.near.stand ≡ line.In
      → peer.MaySay ⊥ (near_now w) (read.Tells carried nr) q → v.two.near ≡ w.two.near → near_now v ≡ q
      → (near_now v).sent ≤ (near_now w).sent + 1 → (came own : List Frame)
      → Letters w [] (letter n (read.Tells carried nr) ∷ []) came own → Fits came own
  numbered_goes carried nr n q is may near now turn came own h =
      of_put w Fits (letter n (read.Tells carried nr)) came own (λ x shown left. (
      let c = counts (near_now w) q way carried nr x may (subst (λ (r : Peer). r.sent ≤ (near_now w).sent + 1) now turn) shown in record {
        stand = Up (numbers_of q);
        stands = inl (sym (ap (λ (m : line.Stander). stand_of m.stand (near_now v)) near ∙ ap (λ c. stand_of c (near_now v)) is
            ∙ ap (λ (r : Peer). Up (numbers_of r)) now));
        goes = subst (λ z. MaySend (At z) way x (At (Up (numbers_of q)))) (sym (in_session s w at is))
            (link.sends (Up (numbers_of (near_now w))) (Up (numbers_of q)) way x c.number c.last c.goes);
      })) h

  heard_goes : (e : Letter) (q : Peer) → w.two.near.stand ≡ line.In → peer.MayMake (near_now w) e.said q → v.two.near ≡ w.two.near
      → near_now v ≡ q → (came own : List Frame) → Letters w (e ∷ []) [] came own → Fits came own
  heard_goes e q is may near now came own h =
      of_taken w Fits e came own (λ y d shown. record {
        stand = Up (numbers_of q);
        stands = inl (sym (ap (λ (m : line.Stander). stand_of m.stand (near_now v)) near ∙ ap (λ c. stand_of c (near_now v)) is
            ∙ ap (λ (r : Peer). Up (numbers_of r)) now));
        goes = subst (λ z. MayTake (At z) y (At (Up (numbers_of q)))) (sym (in_session s w at is))
            (said_heard (near_now w) q e.said y d may shown);
      }) h

  -- it sends DM, FRMR, or octets that spell no frame
  free_goes : (n : ℕ) → v.two.near ≡ w.two.near → near_now v ≡ near_now w → (came own : List Frame)
      → Letters w [] (letter n read.Else ∷ []) came own → Fits came own
  free_goes n near now came own h = of_put w Fits (letter n read.Else) came own go h
    where
      declines : (c : line.Stand) (x : Frame) → w.two.near.stand ≡ c → x ≡ frame.Dm → (w.two.near.stand ≡ line.In → ⊥) → Fits [] (x ∷ [])
      declines line.Out x is dm left =
          sends_it x frame.Dm (link.declines s) dm (inr (ap (λ (m : line.Stander). m.stand) near ∙ is)) (link.sends s (link.declines s) way frame.Dm 0 0 refl)
      declines line.Asking x is dm left =
          let e = asking s w at is in
          sends_it x frame.Dm s dm (stays s w v at near now)
          (link.sends s s way frame.Dm 0 0 (ap (λ z. Some (link.declines z)) e ∙ ap (λ z. Some z) (sym e)))
      declines line.In x is dm left = absurd (left is)

      go : (x : Frame) → IsIn x (frame.Dm ∷ frame.Frmr ∷ frame.Unread ∷ []) → HasLeft w.two.near.stand [] (x ∷ []) → Fits [] (x ∷ [])
      go x (inl is) left = declines w.two.near.stand x refl is (subst (λ z. HasLeft w.two.near.stand [] (z ∷ [])) is left)
      go x (inr (inl is)) left =
          sends_it x frame.Frmr Out is
          (inr (ap (λ (m : line.Stander). m.stand) near ∙ subst (λ z. HasLeft w.two.near.stand [] (z ∷ [])) is left))
          (link.sends s Out way frame.Frmr 0 0 refl)
      go x (inr (inr (inl is))) left = sends_it x frame.Unread s is (stays s w v at near now) (link.was_none s way)
      go x (inr (inr (inr none))) left = absurd none

  odd_goes : (n : ℕ) (came own : List Frame) → Letters w [] (letter n read.Odd ∷ []) came own → Fits came own
  odd_goes n came own h = of_put w Fits (letter n read.Odd) came own (λ x none left. absurd none) h

  asks_goes : (n : ℕ) → has_ua way ≡ false → v.two.near.stand ≡ line.Asking → (came own : List Frame)
      → Letters w [] (letter n read.Sabm ∷ []) came own → Fits came own
  asks_goes n none is came own h = of_put w Fits (letter n read.Sabm) came own go h
    where
      go : (x : Frame) → IsIn x (frame.Sabm ∷ []) → HasLeft w.two.near.stand [] (x ∷ []) → Fits [] (x ∷ [])
      go x (inl sabm) left =
          sends_it x frame.Sabm Asking sabm (inl (sym (ap (λ c. stand_of c (near_now v)) is)))
          (link.sends s Asking way frame.Sabm 0 0 (asks_free s way none))
      go x (inr void) left = absurd void

  closes_goes : (n : ℕ) → v.two.near.stand ≡ line.Out → (came own : List Frame)
      → Letters w [] (letter n read.Disc ∷ []) came own → Fits came own
  closes_goes n is came own h = of_put w Fits (letter n read.Disc) came own go h
    where
      go : (x : Frame) → IsIn x (frame.Disc ∷ []) → HasLeft w.two.near.stand [] (x ∷ []) → Fits [] (x ∷ [])
      go x (inl disc) left = sends_it x frame.Disc Out disc (inr is) (link.sends s Out way frame.Disc 0 0 refl)
      go x (inr void) left = absurd void

  leaves_goes : v.two.near.stand ≡ line.Out → (came own : List Frame) → Letters w [] [] came own → Fits came own
  leaves_goes is came own h = of_none w Fits came own (record { stand = s; stands = inr is; goes = refl }) h

  passes_goes : (e : Letter) → v.two.near ≡ w.two.near → near_now v ≡ near_now w → (came own : List Frame)
      → Letters w (e ∷ []) [] came own → Fits came own
  passes_goes e near now came own h =
      of_taken w Fits e came own (λ y d shown. takes_it y y s refl (stays s w v at near now) (link.passes s y)) h

  begins_goes : (n : ℕ) → w.two.near.stand ≡ line.Asking → v.two.near.stand ≡ line.In → near_now v ≡ fresh_peer → (came own : List Frame)
      → Letters w (letter n read.Ua ∷ []) [] came own → Fits came own
  begins_goes n was is now came own h = of_taken w Fits (letter n read.Ua) came own go h
    where
      go : (y : Frame) (d : Bool) → IsIn y (frame.Ua ∷ []) → Fits (y ∷ []) []
      go y d (inl ua) =
          takes_it y frame.Ua fresh ua
          (inl (sym (ap (λ c. stand_of c (near_now v)) is ∙ ap (λ (r : Peer). Up (numbers_of r)) now)))
          (subst (λ z. MayTake (At z) frame.Ua (At fresh)) (sym (asking s w at was)) (link.begins frame.Ua refl))
      go y d (inr none) = absurd none

  -- it answers SABM, and stands so then
  owes_goes : (n m : ℕ) (r : Stand) → IsIn r (owed s frame.Sabm) → StandsAt r v → (came own : List Frame)
      → Letters w (letter n read.Sabm ∷ []) (letter m read.Ua ∷ []) came own → Fits came own
  owes_goes n m r owes there came own h =
      of_both w Fits (letter n read.Sabm) (letter m read.Ua) came own
      (λ x z d is ua left. answers_it x frame.Sabm z r (only x frame.Sabm is) (only z frame.Ua ua) there owes) h

  -- or DISC, where it has left its session
  out_goes : (n m : ℕ) → v.two.near ≡ w.two.near → (came own : List Frame)
      → Letters w (letter n read.Disc ∷ []) (letter m read.Ua ∷ []) came own → Fits came own
  out_goes n m near came own h =
      of_both w Fits (letter n read.Disc) (letter m read.Ua) came own
      (λ x z d is ua left. answers_it x frame.Disc z Out (only x frame.Disc is) (only z frame.Ua ua)
      (inr (ap (λ (m : line.Stander). m.stand) near ∙ left)) (inl refl)) h

-- ---- all of them

owed_first : (s : Stand) → IsIn fresh (owed s frame.Sabm)
owed_first Out = inl refl
owed_first Asking = inl refl
owed_first (Up k) = inl refl
owed_first Free = inl refl

owed_asking : (s : Stand) → s ≡ Asking → IsIn Asking (owed s frame.Sabm)
owed_asking s e = subst (λ z. IsIn Asking (owed z frame.Sabm)) (sym e) (inr (inl refl))

-- what comes and is put by a step, and that it is allowed
record Makes (s : Stand) (w v : Ends) (way : List Frame) : Type 0 where
  taken : List Letter
  put : List Letter
  back : w.two.back ≡ taken ++ v.two.back
  out : v.two.out ≡ w.two.out ++ put
  allowed : (came own : List Frame) → Letters w taken put came own → IsAllowed s v came way own

module _ (s : Stand) (w : Ends) (way : List Frame) (at : StandsAt s w) where
  makes : (v : Ends) (does : Does w v) → IsOwn does → AreShown v.two.back way → (near_now v).sent ≤ (near_now w).sent + 1 → Makes s w v way
  makes _ (line.sends carried nr q is may) own shown turn = record {
    taken = [];
    put = letter w.two.near.begun (read.Tells carried nr) ∷ [];
    back = refl;
    out = refl;
    allowed = λ came own h. numbered_goes s w _ way at carried nr w.two.near.begun q is may refl (now_is w.two.near.begun q w.near_of) turn came own h;
  }
  makes _ (line.listens e rest q front is may) own shown turn = record {
    taken = e ∷ [];
    put = [];
    back = front;
    out = sym (append-nil w.two.out);
    allowed = λ came own h. heard_goes s w _ way at e q is may refl (now_is w.two.near.begun q w.near_of) came own h;
  }
  makes _ (line.moves _ line.free) own shown turn = record {
    taken = [];
    put = letter w.two.near.begun read.Else ∷ [];
    back = refl;
    out = refl;
    allowed = λ came own h. free_goes s w _ way at w.two.near.begun refl refl came own h;
  }
  makes _ (line.moves _ line.odd) own shown turn = record {
    taken = [];
    put = letter w.two.near.begun read.Odd ∷ [];
    back = refl;
    out = refl;
    allowed = λ came own h. odd_goes s w _ way at w.two.near.begun came own h;
  }
  makes _ (line.moves _ (line.asks patient)) own shown turn = record {
    taken = [];
    put = letter w.two.near.begun read.Sabm ∷ [];
    back = refl;
    out = refl;
    allowed = λ came own h. asks_goes s w _ way at w.two.near.begun (no_ua w.two.back way shown patient.ua) refl came own h;
  }
  makes _ (line.moves _ line.closes) own shown turn = record {
    taken = [];
    put = letter w.two.near.begun read.Disc ∷ [];
    back = refl;
    out = refl;
    allowed = λ came own h. closes_goes s w _ way at w.two.near.begun refl came own h;
  }
  makes _ (line.moves _ line.leaves) own shown turn = record {
    taken = [];
    put = [];
    back = refl;
    out = sym (append-nil w.two.out);
    allowed = λ came own h. leaves_goes s w _ way at refl came own h;
  }
  makes _ (line.moves _ (line.hears e rest front)) own shown turn = record {
    taken = e ∷ [];
    put = [];
    back = front;
    out = sym (append-nil w.two.out);
    allowed = λ came own h. passes_goes s w _ way at e refl refl came own h;
  }
  makes _ (line.moves _ (line.takes_ua n rest front is)) own shown turn = record {
    taken = letter n read.Ua ∷ [];
    put = [];
    back = front;
    out = sym (append-nil w.two.out);
    allowed = λ came own h. begins_goes s w _ way at n is refl (now_is (suc w.two.near.begun) fresh_peer w.near_of) came own h;
  }
  makes _ (line.moves _ (line.takes_sabm n rest front)) own shown turn = record {
    taken = letter n read.Sabm ∷ [];
    put = letter (suc w.two.near.begun) read.Ua ∷ [];
    back = front;
    out = refl;
    allowed = λ came own h. owes_goes s w _ way at n (suc w.two.near.begun) fresh (owed_first s)
        (inl (sym (ap (λ (r : Peer). Up (numbers_of r)) (now_is (suc w.two.near.begun) fresh_peer w.near_of)))) came own h;
  }
  makes _ (line.moves _ (line.waits_on n rest front is)) own shown turn = record {
    taken = letter n read.Sabm ∷ [];
    put = letter w.two.near.begun read.Ua ∷ [];
    back = front;
    out = refl;
    allowed = λ came own h. owes_goes s w _ way at n w.two.near.begun Asking (owed_asking s (asking s w at is))
        (inl (sym (ap (λ c. stand_of c (near_now w)) is))) came own h;
  }
  makes _ (line.moves _ (line.takes_disc n rest front)) own shown turn = record {
    taken = letter n read.Disc ∷ [];
    put = letter w.two.near.begun read.Ua ∷ [];
    back = front;
    out = refl;
    allowed = λ came own h. out_goes s w _ way at n w.two.near.begun refl came own h;
  }
  makes _ (line.moves _ (line.loses place es less)) own shown turn = absurd own

pub link_steps : LinkStepsAreAllowed
link_steps w v s came way own at shown step =
    let m = makes s w way at v step.does step.is_own shown step.in_turn in
    m.allowed came own
    (letters_are w step.taken m.taken step.put m.put came own
    (append_cancel_right m.taken step.taken v.two.back (sym m.back ∙ step.back))
    (append_cancel_left w.two.out m.put step.put (sym m.out ∙ step.out)) (step.comes, step.goes, step.left))
