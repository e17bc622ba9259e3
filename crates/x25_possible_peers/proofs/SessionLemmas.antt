-- What the rules of a link allow in a session a peer may do.
use Rattle.x25_possible_peers.proofs.Names.{◌≡◌, inl, inr, ℕ, ◌+◌, ◌-◌, ◌%◌, ◌≤◌, ◌==◌, Bool, true, false, not, ◌&&◌, ◌||◌, List, [], ◌∷◌, length, Option, Some}
use Rattle.x25_possible_peers.proofs.Names.{None, refl, sym, ap, subst, ◌∙◌, nat_le, nat_lt, if◌then◌else◌, eqb-true, leb-true, cond_some, Peer, Said, Carried}
use Rattle.x25_possible_peers.proofs.Names.{IsIn, may_acknowledge, may_number, Frame, Stand, Up, numbers_of, differs, frames_of}
use Rattle.std.proofs.{Common.{slice_get}, lemmas.Bool.{and_parts, ltb-true}}
use Rattle.x25_line.specs.laws.{Peer.{MaySay, MayMake, MayAcknowledge, MayNumber}, Tape.{same_octets, is_item}}
use Rattle.x25_possible_links.specs.{declared.stand.Numbers.{Numbers}, laws.Link.{sends_as, heard}}
use Rattle.x25_possible_peers.proofs.LinkLemmas.{number_is, one_more, sent_is}
use Rattle.x25_possible_peers.specs.laws.{LinkAsPeers.{IsGiven}, LinkPeers.{IsShown}}
use Rattle.x25_window.specs.code.Modulo.{resolved}
use Rattle.x25_line.specs.laws.Peer as peer
use Rattle.x25_line.specs.laws.Said as read
use Rattle.x25_possible_links.specs.laws.Link as link
use Rattle.x25_possible_links.specs.declared.frame.Frame.TheVariants as frame

pub record MaySayIt (p : Peer) (said : Said) (r : Stand) : Type 0 where
  pub next : Peer
  pub may : MaySay ⊥ p said next
  pub stands : r ≡ Up (numbers_of next)

pub record MayMakeIt (p : Peer) (said : Said) (k : Numbers) : Type 0 where
  pub next : Peer
  pub may : MayMake p said next
  pub stands : k ≡ numbers_of next

acknowledges : (p : Peer) (nr t : ℕ) → may_acknowledge t (numbers_of p) nr ≡ true → MayAcknowledge p nr t
acknowledges p nr t h =
    let a = and_parts (nr == t % 8) (nat_le p.told t && nat_le t (length p.taken)) h in
    let b = and_parts (nat_le p.told t) (nat_le t (length p.taken)) a.1 in
    record { number = eqb-true nr (t % 8) a.0; rising = leb-true p.told t b.0; taken = leb-true t (length p.taken) b.1 }

octets_same : (xs ys : List ℕ) → same_octets xs ys ≡ true → xs ≡ ys
octets_same [] [] h = refl
octets_same (x ∷ xs) (y ∷ ys) h =
    let parts = and_parts (x == y) (same_octets xs ys) h in
    ap (λ z. z ∷ xs) (eqb-true x y parts.0) ∙ ap (λ zs. y ∷ zs) (octets_same xs ys parts.1)
octets_same xs ys h = cc

item_same : (o : Option (List ℕ)) (packet : List ℕ) → is_item o packet ≡ true → o ≡ Some packet
item_same None packet h = cc
item_same (Some item) packet h = ap (λ z. Some z) (octets_same item packet h)

not_both : (b : Bool) → not (not b) ≡ true → b ≡ true
not_both true h = refl
not_both false h = cc

-- it carries the packet of its number
same_item : (p : Peer) (c : Carried) (nr n : ℕ) → IsGiven p (read.Tells (Some c) nr) → c.ns ≡ n % 8 → n ≤ p.sent → p.sent ≤ n + 7
    → (n == p.sent || not (not (is_item (slice_get p.given (resolved (p.sent - 7) c.ns)) c.packet))) ≡ true → slice_get p.given n ≡ Some c.packet
same_item p c nr n given number low again h = go (n == p.sent) refl h
  where
    go : (b : Bool) → (n == p.sent) ≡ b → (b || not (not (is_item (slice_get p.given (resolved (p.sent - 7) c.ns)) c.packet))) ≡ true
        → slice_get p.given n ≡ Some c.packet
    go true e h =
        let is = eqb-true n p.sent e in
        ap (λ k. slice_get p.given k) is ∙ given (number ∙ ap (λ k. k % 8) is)
    go false e h =
        let is : resolved (p.sent - 7) c.ns ≡ n = ap (λ k. resolved (p.sent - 7) k) number ∙ number_is p.sent n low again in
        ap (λ k. slice_get p.given k) (sym is)
        ∙ item_same (slice_get p.given (resolved (p.sent - 7) c.ns)) c.packet (not_both (is_item (slice_get p.given (resolved (p.sent - 7) c.ns)) c.packet) h)

record Number (p : Peer) (c : Carried) (n : ℕ) : Type 0 where
  low : n ≤ p.sent
  may : MayNumber p c.ns c.packet n

numbers : (p : Peer) (c : Carried) (nr n : ℕ) → IsGiven p (read.Tells (Some c) nr) → may_number n (numbers_of p) c.ns (differs p (read.Tells (Some c) nr))
    ≡ true → Number p c n
numbers p c nr n given h =
    let d = differs p (read.Tells (Some c) nr) in
    let a = and_parts (c.ns == n % 8) (nat_le n p.sent && (nat_le p.sent (n + 7) && (nat_lt n (p.acked + 7) && (n == p.sent || not d)))) h in
    let b = and_parts (nat_le n p.sent) (nat_le p.sent (n + 7) && (nat_lt n (p.acked + 7) && (n == p.sent || not d))) a.1 in
    let e = and_parts (nat_le p.sent (n + 7)) (nat_lt n (p.acked + 7) && (n == p.sent || not d)) b.1 in
    let f = and_parts (nat_lt n (p.acked + 7)) (n == p.sent || not d) e.1 in
    let number = eqb-true c.ns (n % 8) a.0 in
    let low = leb-true n p.sent b.0 in
    let again = leb-true p.sent (n + 7) e.0 in
    record {
      low = low;
      may = record {
        number = number;
        same = same_item p c nr n given number low again f.1;
        window = ltb-true n (p.acked + 7) f.0;
        again = again;
      };
    }

pub session_sends : (p : Peer) (way : List Frame) (carried : Option Carried) (nr n t : ℕ) (x : Frame) (r : Stand) → IsGiven p (read.Tells carried nr)
    → IsIn x (frames_of (differs p (read.Tells carried nr)) (read.Tells carried nr)) → sends_as n t (Up (numbers_of p)) way x ≡ Some r
    → MaySayIt p (read.Tells carried nr) r
session_sends p way None nr n t x r given (inl is) e =
    let parts = cond_some (may_acknowledge t (numbers_of p) nr) (Up (link.told_to t (numbers_of p))) r
    (ap (λ y. sends_as n t (Up (numbers_of p)) way y) (sym is) ∙ e) in
    record { next = peer.told_to t p; may = (t, acknowledges p nr t parts.0, refl); stands = sym parts.1 }
session_sends p way None nr n t x r given (inr none) e = absurd none
session_sends p way (Some c) nr n t x r given (inl is) e =
    let d = differs p (read.Tells (Some c) nr) in
    let parts = cond_some (may_number n (numbers_of p) c.ns d && may_acknowledge t (numbers_of p) nr)
    (Up (link.told_to t (link.sent_to n (numbers_of p)))) r (ap (λ y. sends_as n t (Up (numbers_of p)) way y) (sym is) ∙ e) in
    let both = and_parts (may_number n (numbers_of p) c.ns d) (may_acknowledge t (numbers_of p) nr) parts.0 in
    let k = numbers p c nr n given both.0 in
    record {
      next = peer.told_to t (peer.numbered_to n p);
      may = (n, t, k.may, acknowledges p nr t both.1, refl);
      stands = sym parts.1
          ∙ ap (λ m. Up (record { sent = m; acked = p.acked; taken = length p.taken; told = t })) (sent_is n p.sent k.low);
    }
session_sends p way (Some c) nr n t x r given (inr none) e = absurd none

-- ---- what it makes of what comes

number_made : (p : Peer) (nr : ℕ) (hears takes : Bool) → MayMakeIt p (read.Tells None nr) (heard hears takes (numbers_of p) (frame.Ready nr))
number_made p nr true takes = record { next = peer.hearing true nr p; may = (true, refl); stands = refl }
number_made p nr false takes = record { next = p; may = (false, refl); stands = refl }

packet_made : (p : Peer) (c : Carried) (nr : ℕ) (d hears takes wanted : Bool) → (c.ns == length p.taken % 8) ≡ wanted
    → MayMakeIt p (read.Tells (Some c) nr) (heard hears takes (numbers_of p) (frame.Info c.ns nr d))
packet_made p c nr d true true true e = record {
  next = peer.taking true c.packet (peer.hearing true nr p);
  may = (true, true, eqb-true c.ns (length p.taken % 8) e, refl);
  stands = ap (λ m. record { sent = p.sent; acked = resolved p.acked nr; taken = m; told = p.told })
      (one_more p c.ns c.packet (eqb-true c.ns (length p.taken % 8) e));
}
packet_made p c nr d false true true e = record {
  next = peer.taking true c.packet p;
  may = (false, true, eqb-true c.ns (length p.taken % 8) e, refl);
  stands = ap (λ m. record { sent = p.sent; acked = p.acked; taken = m; told = p.told })
      (one_more p c.ns c.packet (eqb-true c.ns (length p.taken % 8) e));
}
packet_made p c nr d true true false e = record {
  next = peer.hearing true nr p;
  may = (true, false, tt, refl);
  stands = ap (λ b. record { sent = p.sent; acked = resolved p.acked nr; taken = if b then length p.taken + 1 else length p.taken; told = p.told }) e;
}
packet_made p c nr d false true false e = record {
  next = p;
  may = (false, false, tt, refl);
  stands = ap (λ b. record { sent = p.sent; acked = p.acked; taken = if b then length p.taken + 1 else length p.taken; told = p.told }) e;
}
packet_made p c nr d true false wanted e = record { next = peer.hearing true nr p; may = (true, false, tt, refl); stands = refl }
packet_made p c nr d false false wanted e = record { next = p; may = (false, false, tt, refl); stands = refl }

made : (p : Peer) (carried : Option Carried) (nr : ℕ) (x : Frame) (hears takes d : Bool) → IsIn x (frames_of d (read.Tells carried nr))
    → MayMakeIt p (read.Tells carried nr) (heard hears takes (numbers_of p) x)
made p None nr x hears takes d (inl is) =
    subst (λ y. MayMakeIt p (read.Tells None nr) (heard hears takes (numbers_of p) y)) (sym is) (number_made p nr hears takes)
made p None nr x hears takes d (inr none) = absurd none
made p (Some c) nr x hears takes d (inl is) =
    subst (λ y. MayMakeIt p (read.Tells (Some c) nr) (heard hears takes (numbers_of p) y)) (sym is)
    (packet_made p c nr d hears takes (c.ns == length p.taken % 8) refl)
made p (Some c) nr x hears takes d (inr none) = absurd none

pub session_takes : (p : Peer) (carried : Option Carried) (nr : ℕ) (x : Frame) (hears takes : Bool) → IsShown (read.Tells carried nr) x
    → MayMakeIt p (read.Tells carried nr) (heard hears takes (numbers_of p) x)
session_takes p carried nr x hears takes shown = made p carried nr x hears takes shown.0 shown.1
