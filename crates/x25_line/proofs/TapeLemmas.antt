-- A tape of which nothing is told is one of a station and a peer that keeps the rules.
use Rattle.x25_line.proofs.Names.{◌≡◌, ◌==◌, ◌⊎◌, inl, inr, ℕ, ◌+◌, ◌-◌, ◌%◌, ◌<◌, ◌≤◌, arith, max, List, [], ◌∷◌, ◌++◌, length, Bool, true, false}
use Rattle.x25_line.proofs.Names.{if◌then◌else◌, Option, Some, None, refl, sym, ap, ◌∙◌, subst, eqb-true, leb-true, and_parts, length_push, nat_le, nat_lt}
use Rattle.x25_line.proofs.Names.{◌&&◌, slice_get, frame_of, ReadsSpelled, resolved, LinkSettings, other, Laws, Peer, numbered_to, told_to, MaySay, hearing}
use Rattle.x25_line.proofs.Names.{IsWanted, taking, MayMake, JoinedOnce, Ours, HandsDown, Sends, Hears, ReachedOnce, at_start, goes_on, Said, Carried, Tells}
use Rattle.std.proofs.lemmas.Bool.{ltb-true}
use Rattle.x25_line.proofs.{Frames.{slice_get-last}, Names.{Odd, said}, PeerOrder.{keeps_order}, StationHears.{low_resolved}}
use Rattle.x25_line.specs.laws.{Peer.{MayNumber, MayAcknowledge}, PeerClaims.{KeepsOrder, OnAnySilentTape}, Tape.{Acts, Shows, Comes}}
use Rattle.x25_line.specs.laws.Tape.{same_octets, is_item, judges_ack, then_ack, judges_item, judges_number, judges_said, notes, notes_said, IsSilent, Begins}

-- ---- packets that are the same

octets_same : (xs ys : List ℕ) → same_octets xs ys ≡ true → xs ≡ ys
octets_same [] [] h = refl
octets_same (x ∷ xs) (y ∷ ys) h =
    let parts = and_parts (x == y) (same_octets xs ys) h in
    ap (λ z. z ∷ xs) (eqb-true x y parts.0) ∙ ap (λ zs. y ∷ zs) (octets_same xs ys parts.1)
octets_same xs ys h = cc

item_same : (o : Option (List ℕ)) (packet : List ℕ) → is_item o packet ≡ true → o ≡ Some packet
item_same None packet h = cc
item_same (Some item) packet h = ap (λ z. Some z) (octets_same item packet h)

-- ---- by a test

none_some : {A B : Type 0} (q : A) → None ≡ Some q → B
none_some q h = absurd (cc)

some_same : {A : Type 0} (x y : A) → Some x ≡ Some y → x ≡ y
some_same x y e = cc

record Acked (nr : ℕ) (p q : Peer) : Type 0 where
  pub t : ℕ
  pub may : MayAcknowledge p nr t
  pub is : q ≡ told_to t p

ack_judged : (nr : ℕ) (p q : Peer) → judges_ack nr p ≡ Some q → Acked nr p q
ack_judged nr p q h = go (nat_le (resolved p.told nr) (length p.taken) && resolved p.told nr % 8 == nr) refl h
  where
    go : (b : Bool) → (nat_le (resolved p.told nr) (length p.taken) && resolved p.told nr % 8 == nr) ≡ b
        → (if b then Some (told_to (resolved p.told nr) p) else None) ≡ Some q → Acked nr p q
    go true test is =
        let parts = and_parts (nat_le (resolved p.told nr) (length p.taken)) (resolved p.told nr % 8 == nr) test in
        record {
          t = resolved p.told nr;
          may = record {
            number = sym (eqb-true (resolved p.told nr % 8) nr parts.1);
            rising = low_resolved p.told nr;
            taken = leb-true (resolved p.told nr) (length p.taken) parts.0;
          };
          is = sym (some_same (told_to (resolved p.told nr) p) q is);
        }
    go false test is = none_some q is

-- ---- I frames

abbrev grown : List ℕ → Peer → Peer
grown packet p = record p { given = p.given ++ packet ∷ [] }

-- the peer once it was handed down what it sends, where that is new
abbrev IsBase : Peer → List ℕ → Peer → Type 0
IsBase p packet base = (base ≡ p) ⊎ (base ≡ grown packet p)

record Numbered (ns : ℕ) (packet : List ℕ) (p u : Peer) : Type 0 where
  pub base : Peer
  pub from : IsBase p packet base
  pub n : ℕ
  pub may : MayNumber base ns packet n
  pub is : u ≡ numbered_to n base
  pub held : length u.given ≡ u.sent

item_judged : (ns n : ℕ) (packet : List ℕ) (p u : Peer) → length p.given ≡ p.sent → n < p.acked + 7 → ns ≡ n % 8 → p.sent ≤ n + 7 → judges_item n packet p
    ≡ Some u → Numbered ns packet p u
item_judged ns n packet p u held window number again h = go (n == p.sent) refl h
  where
    old : (b : Bool) → (nat_lt n p.sent && is_item (slice_get p.given n) packet) ≡ b → (if b then Some (numbered_to n p) else None) ≡ Some u
        → Numbered ns packet p u
    old true test is =
        let parts = and_parts (nat_lt n p.sent) (is_item (slice_get p.given n) packet) test in
        let below : n < p.sent = ltb-true n p.sent parts.0 in
        let same = some_same (numbered_to n p) u is in
        let still : p.sent ≡ max p.sent (n + 1) = omega (arith, below) in
        record {
          base = p;
          from = inl refl;
          n = n;
          may = record { number = number; same = item_same (slice_get p.given n) packet parts.1; window = window; again = again };
          is = sym same;
          held = rw (sym same) (held ∙ still);
        }
    old false test is = none_some u is

    go : (b : Bool) → (n == p.sent) ≡ b
        → (if b then Some (numbered_to n (grown packet p)) else if nat_lt n p.sent && is_item (slice_get p.given n) packet then Some (numbered_to n p)
        else None) ≡ Some u → Numbered ns packet p u
    go true test is =
        let next : n ≡ p.sent = eqb-true n p.sent test in
        let same = some_same (numbered_to n (grown packet p)) u is in
        let one_more : length p.given + 1 ≡ max p.sent (n + 1) = omega (arith, held, next) in
        record {
          base = grown packet p;
          from = inr refl;
          n = n;
          may = record { number = number; same = slice_get-last p.given packet n (next ∙ sym held); window = window; again = again };
          is = sym same;
          held = rw (sym same) (length_push p.given packet ∙ one_more);
        }
    go false test is = old (nat_lt n p.sent && is_item (slice_get p.given n) packet) refl is

number_judged : (ns : ℕ) (packet : List ℕ) (p u : Peer) → length p.given ≡ p.sent → judges_number ns packet p ≡ Some u → Numbered ns packet p u
number_judged ns packet p u held h = go (nat_lt n (p.acked + 7) && n % 8 == ns) refl h
  where
    n : ℕ
    n = resolved (p.sent - 7) ns

    go : (b : Bool) → (nat_lt n (p.acked + 7) && n % 8 == ns) ≡ b → (if b then judges_item n packet p else None) ≡ Some u → Numbered ns packet p u
    go true test is =
        let parts = and_parts (nat_lt n (p.acked + 7)) (n % 8 == ns) test in
        item_judged ns n packet p u held (ltb-true n (p.acked + 7) parts.0) (sym (eqb-true (n % 8) ns parts.1))
        (omega arith) is
    go false test is = none_some u is

-- ---- all that comes

record Judged (s : Said) (p q : Peer) : Type 0 where
  pub packet : List ℕ
  pub base : Peer
  pub from : IsBase p packet base
  pub may : MaySay (Unit {0}) base s q
  pub held : length q.given ≡ q.sent

same_judged : (p q : Peer) → length p.given ≡ p.sent → Some p ≡ Some q → (s : Said) → (q ≡ p → MaySay (Unit {0}) p s q) → Judged s p q
same_judged p q held is s may =
    let same = some_same p q is in
    record { packet = []; base = p; from = inl refl; may = may (sym same); held = subst (λ z. length z.given ≡ z.sent) same held }

info_judged : (nr : ℕ) (c : Carried) (p q : Peer) → length p.given ≡ p.sent → then_ack nr (judges_number c.ns c.packet p) ≡ Some q
    → Judged (Tells (Some c) nr) p q
info_judged nr c p q held h = go (judges_number c.ns c.packet p) refl h
  where
    go : (o : Option Peer) → judges_number c.ns c.packet p ≡ o → then_ack nr o ≡ Some q → Judged (Tells (Some c) nr) p q
    go None number is = none_some q is
    go (Some u) number is =
        let n = number_judged c.ns c.packet p u held number in
        let a = ack_judged nr u q is in
        let may = subst (λ z. MayAcknowledge z nr a.t) n.is a.may in
        record {
          packet = c.packet;
          base = n.base;
          from = n.from;
          may = (n.n, a.t, n.may, record { number = may.number; rising = may.rising; taken = may.taken }, a.is ∙ ap (told_to a.t) n.is);
          held = rw a.is n.held;
        }

judged : (s : Said) (p q : Peer) → length p.given ≡ p.sent → judges_said s p ≡ Some q → Judged s p q
judged (Tells None nr) p q held h =
    let a = ack_judged nr p q h in
    record { packet = []; base = p; from = inl refl; may = (a.t, a.may, a.is); held = subst (λ z. length z.given ≡ z.sent) (sym a.is) held }
judged (Tells (Some c) nr) p q held h = info_judged nr c p q held h
judged Odd p q held h = same_judged p q held h Odd (λ is. (tt, is))
judged s p q held h = same_judged p q held h s (λ is. is)

-- ---- what the station sends

may_take_wanted : (ns : ℕ) (p : Peer) (b : Bool) → (ns == length p.taken % 8) ≡ b → IsWanted b ns p
may_take_wanted ns p true test = eqb-true ns (length p.taken % 8) test
may_take_wanted ns p false test = tt

noted : (s : Said) (p : Peer) → MayMake p s (notes_said s p)
noted (Tells None nr) p = (true, refl)
noted (Tells (Some c) nr) p = (true, c.ns == length p.taken % 8, may_take_wanted c.ns p (c.ns == length p.taken % 8) refl, refl)
noted s p = refl

taking_held : (b : Bool) (x : List ℕ) (p : Peer) → length p.given ≡ p.sent → length (taking b x p).given ≡ (taking b x p).sent
taking_held true x p h = h
taking_held false x p h = h

noted_held : (s : Said) (p : Peer) → length p.given ≡ p.sent → length (notes_said s p).given ≡ (notes_said s p).sent
noted_held (Tells (Some c) nr) p h = taking_held (c.ns == length p.taken % 8) c.packet (hearing true nr p) h
noted_held s p h = h

-- ---- tapes

record Explained (c : LinkSettings) (w : JoinedOnce) : Type 0 where
  pub reached : ReachedOnce (Unit {0}) c w
  pub held : length w.peer.given ≡ w.peer.sent

base_reached : {c : LinkSettings} {w : JoinedOnce} (packet : List ℕ) {base : Peer} → ReachedOnce (Unit {0}) c w → IsBase w.peer packet base
    → ReachedOnce (Unit {0}) c (record w { peer = base })
base_reached packet reached (inl is) = rw is reached
base_reached {w = w} packet reached (inr is) = rw is (goes_on w (record w { peer = grown packet w.peer }) reached (HandsDown packet))

explained : {c : LinkSettings} {w : JoinedOnce} → IsSilent c w → Explained c w
explained Begins = record { reached = at_start; held = refl }
explained {c} {w} (Acts v act h) =
    let before = explained h in
    record { reached = goes_on v w before.reached (Ours act); held = before.held }
explained {c} {w} (Shows v octets rest is h) =
    let before = explained h in
    record {
      reached = goes_on v w before.reached
          (Hears octets rest (notes (frame_of c.role c.longest octets) v.peer) is (noted (said (frame_of c.role c.longest octets)) v.peer));
      held = noted_held (said (frame_of c.role c.longest octets)) v.peer before.held;
    }
explained {c} {w} (Comes v octets q is h) =
    let before = explained h in
    let j = judged (said (frame_of (other c.role) c.longest octets)) v.peer q before.held is in
    record {
      reached = goes_on (record v { peer = j.base }) w (base_reached j.packet before.reached j.from) (Sends octets q j.may);
      held = j.held;
    }

pub silence_keeps_order : ReadsSpelled → Laws → OnAnySilentTape KeepsOrder
silence_keeps_order reads laws c low high w silent once = keeps_order reads laws c low high w (explained silent).reached once
