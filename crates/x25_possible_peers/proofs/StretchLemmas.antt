-- What the rules of a channel allow in d1 a peer may do, where a message may get as long as it does.
use Rattle.x25_possible_peers.proofs.Names.{◌≡◌, ℕ, ◌+◌, ◌-◌, ◌%◌, ◌≤◌, ◌==◌, Bool, true, false, not, ◌&&◌, ◌||◌, length, Option, Some, None, refl, sym, ap}
use Rattle.x25_possible_peers.proofs.Names.{ap₂, ◌∙◌, arith, nat_le, nat_lt, eqb-true, leb-true, le-leb, length_push, cond_some, Piece, More, Last, PeerStretch}
use Rattle.std.proofs.lemmas.Bool.{and_parts, ltb-true, not-true}
use Rattle.x25_circuit.specs.Message.{no_part, joining, joined, may_have_q, q_of, user_of}
use Rattle.x25_handshakes.specs.laws.PeerStretch.{Sends, MayDo, does, packet_of}
use Rattle.x25_possible.specs.Channel.{fits as within, may_number, may_ack, may_follow, may_talk, is_one_message, talked}
use Rattle.x25_possible_peers.proofs.{Names.{Deed, Says, Interrupts, Confirms, sends_as, Limits, Phase, item_of, talk_of}, PeerLemmas.{grounds, joining_push}}
use Rattle.x25_possible_peers.specs.laws.Peers.{data_of}
use Rattle.x25_handshakes.specs.laws.Stretch as theirs
use Rattle.x25_handshakes.specs.laws.PeerStretch as stretch
use Rattle.x25_possible.specs.declared.phase.Phase.TheVariants as phase

pub record MayDoIt (l : Limits) (y : PeerStretch) (p : theirs.Packet) (r : Phase) : Type 0 where
  pub longest : ℕ
  pub deed : Deed
  pub may : MayDo longest l.most y deed
  pub packet : packet_of y deed ≡ p
  pub stands : r ≡ phase.Talks (talk_of l (does y deed))

record Acknowledges (y : PeerStretch) (nr t : ℕ) : Type 0 where
  number : t % 8 ≡ nr
  may : stretch.MayAcknowledge y t

acknowledges : (l : Limits) (y : PeerStretch) (nr t : ℕ) → may_ack t (talk_of l y) nr ≡ true → Acknowledges y nr t
acknowledges l y nr t h =
    let a = and_parts (nr == t % 8 && nat_le y.told t) (nat_le t (length y.taken)) h in
    let b = and_parts (nr == t % 8) (nat_le y.told t) a.0 in
    record {
      number = sym (eqb-true nr (t % 8) b.0);
      may = record { rising = leb-true y.told t b.1; taken = leb-true t (length y.taken) a.1 };
    }

one_q : (begun : Option Bool) (q : Bool) → is_one_message begun q ≡ true → may_have_q begun q ≡ true
one_q None q h = refl
one_q (Some true) q h = h
one_q (Some false) true h = cc
one_q (Some false) false h = refl

small : (size n : ℕ) → 1 ≤ size → within size n ≡ true → nat_le n size ≡ true
small size n one h = go (size == 0) refl h
  where
    no_size : size ≡ 0 → ⊥
    no_size e = omega (arith, e, one)

    go : (b : Bool) → (size == 0) ≡ b → (b || nat_le n size) ≡ true → nat_le n size ≡ true
    go true e h = absurd (no_size (eqb-true size 0 e))
    go false e h = h

no_ground : (a b c : Bool) → a ≡ true → b ≡ true → c ≡ true → grounds a b c ≡ None
no_ground true true true e f g = refl
no_ground true true false e f g = cc
no_ground true false c e f g = cc
no_ground false b c e f g = cc

abbrev longest_of : PeerStretch → Piece → ℕ
longest_of y p = length (joining no_part y.sent).user + length (user_of p)

record Follows (l : Limits) (y : PeerStretch) (ns : ℕ) (p : Piece) : Type 0 where
  number : length y.sent % 8 ≡ ns
  may : stretch.MayFollow (longest_of y p) l.most y p

follows : (l : Limits) (y : PeerStretch) (ns : ℕ) (p : Piece) → 1 ≤ l.most → may_follow (talk_of l y) (q_of p) ns (length (user_of p)) ≡ true → Follows l y ns p
follows l y ns p one h =
    let j = joining no_part y.sent in
    let a = and_parts (may_number (talk_of l y) ns) (within l.most (length (user_of p)) && is_one_message j.begun (q_of p)) h in
    let b = and_parts (ns == length y.sent % 8) (nat_lt (length y.sent) (y.acked + 7)) a.0 in
    let e = and_parts (within l.most (length (user_of p))) (is_one_message j.begun (q_of p)) a.1 in
    record {
      number = sym (eqb-true ns (length y.sent % 8) b.0);
      may = record {
        window = ltb-true (length y.sent) (y.acked + 7) b.1;
        fits = no_ground (nat_le (length (user_of p)) l.most) (nat_le (longest_of y p) (longest_of y p)) (may_have_q j.begun (q_of p))
            (small l.most (length (user_of p)) one e.0) (le-leb (longest_of y p) (longest_of y p) (omega arith)) (one_q j.begun (q_of p) e.1);
      };
    }

data_sent : (l : Limits) (t : ℕ) (y : PeerStretch) (ns nr : ℕ) (p : Piece) (begun : Option Bool) (r : Phase) → 1 ≤ l.most
    → may_ack t (talk_of l y) nr ≡ true → may_follow (talk_of l y) (q_of p) ns (length (user_of p)) ≡ true
    → (joined (joining no_part y.sent) p).begun ≡ begun
    → phase.Talks (record (talk_of l y) { sent = length y.sent + 1; told = t; begun = begun }) ≡ r → MayDoIt l y (theirs.Data ns nr p) r
data_sent l t y ns nr p begun r one acks goes is e =
    let a = acknowledges l y nr t acks in
    let f = follows l y ns p one goes in
    record {
      longest = longest_of y p;
      deed = Sends p t;
      may = (a.may, f.may);
      packet = ap₂ (λ m n. theirs.Data m n p) f.number a.number;
      stands = sym e
          ∙ ap₂ (λ m b. phase.Talks (record (talk_of l y) { sent = m; told = t; begun = b })) (sym (length_push y.sent p))
          (sym is ∙ ap (λ j. j.begun) (sym (joining_push no_part y.sent p)));
    }

says : (l : Limits) (t : ℕ) (y : PeerStretch) (ready : Bool) (nr : ℕ) (p : theirs.Packet) (r : Phase) → (t % 8 ≡ nr → theirs.status ready t ≡ p)
    → may_ack t (talk_of l y) nr ≡ true → phase.Talks (record (talk_of l y) { told = t }) ≡ r → MayDoIt l y p r
says l t y ready nr p r is acks e =
    let a = acknowledges l y nr t acks in
    record { longest = 0; deed = Says ready t; may = a.may; packet = is a.number; stands = sym e }

abbrev pub IsInStretch : theirs.Packet → Type 0
IsInStretch (theirs.Data ns nr piece) = Unit {0}
IsInStretch (theirs.Rr nr) = Unit {0}
IsInStretch (theirs.Rnr nr) = Unit {0}
IsInStretch (theirs.Int user) = Unit {0}
IsInStretch theirs.IntConf = Unit {0}
IsInStretch p = ⊥

pub stretch_sends : (l : Limits) (t : ℕ) (y : PeerStretch) (p : theirs.Packet) (r : Phase) → 1 ≤ l.most → IsInStretch p
    → sends_as t (phase.Talks (talk_of l y)) (item_of p) ≡ Some r → MayDoIt l y p r
stretch_sends l t y (theirs.Data ns nr (More q user)) r one is e =
    let parts = cond_some (may_talk t (talk_of l y) (data_of ns nr (More q user))) (phase.Talks (talked t (talk_of l y) (data_of ns nr (More q user)))) r e in
    let both = and_parts (may_ack t (talk_of l y) nr) (may_follow (talk_of l y) q.q ns (length user)) parts.0 in
    data_sent l t y ns nr (More q user) (Some q.q) r one both.0 both.1 refl parts.1
stretch_sends l t y (theirs.Data ns nr (Last q user)) r one is e =
    let parts = cond_some (may_talk t (talk_of l y) (data_of ns nr (Last q user))) (phase.Talks (talked t (talk_of l y) (data_of ns nr (Last q user)))) r e in
    let both = and_parts (may_ack t (talk_of l y) nr) (may_follow (talk_of l y) q.q ns (length user)) parts.0 in
    data_sent l t y ns nr (Last q user) None r one both.0 both.1 refl parts.1
stretch_sends l t y (theirs.Rr nr) r one is e =
    let parts = cond_some (may_ack t (talk_of l y) nr) (phase.Talks (record (talk_of l y) { told = t })) r e in
    says l t y true nr (theirs.Rr nr) r (λ number. ap (λ n. theirs.Rr n) number) parts.0 parts.1
stretch_sends l t y (theirs.Rnr nr) r one is e =
    let parts = cond_some (may_ack t (talk_of l y) nr) (phase.Talks (record (talk_of l y) { told = t })) r e in
    says l t y false nr (theirs.Rnr nr) r (λ number. ap (λ n. theirs.Rnr n) number) parts.0 parts.1
stretch_sends l t y (theirs.Int user) r one is e =
    let parts = cond_some (not y.int_out) (phase.Talks (record (talk_of l y) { is_out = true })) r e in
    record { longest = 0; deed = Interrupts user; may = not-true y.int_out parts.0; packet = refl; stands = sym parts.1 }
stretch_sends l t y theirs.IntConf r one is e =
    let parts = cond_some (nat_lt 0 y.owed) (phase.Talks (record (talk_of l y) { owed = y.owed - 1 })) r e in
    record { longest = 0; deed = Confirms; may = ltb-true 0 y.owed parts.0; packet = refl; stands = sym parts.1 }
stretch_sends l t y p r one is e = absurd is
