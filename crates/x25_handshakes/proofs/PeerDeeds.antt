-- What an end that keeps the rules does, and what it makes of what comes, keeps what is kept of it and another such end.
use Rattle.x25_handshakes.proofs.Names.{◌≡◌, ℕ, ◌%◌, ◌≤◌, List, [], ◌∷◌, ◌++◌, length, Some, None, true, false, refl, subst, arith, sym, ap}
use Rattle.x25_handshakes.proofs.Names.{if◌then◌else◌, length_push, Piece, no_part, AreSound, resolved, Packet, Data, Rr, Rnr, Int, IntConf}
use Rattle.x25_handshakes.proofs.Names.{PeerStretch, fresh_peer, Deed, Sends, Says, does, packet_of, taking, Terms}
use Rattle.std.proofs.lemmas.Bool.{eq-eqb}
use Rattle.x25_handshakes.proofs.PartLemmas.{Line-le, Line-send, Line-push, Line-take, Line-skip, Acks-pass, Acks-more, Acks-told, Acks-taken, Acks-hear}
use Rattle.x25_handshakes.proofs.PartLemmas.{heard_below, Ints-there, Ints-back, Ints-send, Ints-take, Ints-confirm, Ints-past, Ints-skip, Ints-out, Ints-conf}
use Rattle.x25_handshakes.proofs.StretchRelation.{numbering, ack_in, int_in, conf_in, InFlowControl, pieces, hears, OneWay, Kept}
use Rattle.x25_handshakes.{proofs.TextLemmas.{AreSound-append, AreSound-back}, specs.laws.PeerStretch.{Interrupts, Confirms, MayAcknowledge, MayDo}}
use Rattle.x25_handshakes.specs.laws.TwoPeers.{Expects}
use Rattle.x25_handshakes.proofs.{LineLemmas.{readied_push}, StretchRelation.{readied}, Names.{◌∙◌, Bool}}

pub Kept-start : (t b : Terms) → Kept t b fresh_peer [] [] fresh_peer
Kept-start t b = record { there = none t; back = none b }
  where
    none : (t : Terms) → OneWay t fresh_peer [] [] fresh_peer
    none t = record {
      line = record { flow = refl; numbers = tt; kinds = tt };
      acks = record { room = omega arith; acks = refl; late = omega arith };
      ints = record { count = omega arith; flow = refl };
      sound = tt;
      ready = refl;
    }

-- seen from the other end
pub Kept-flip : {t b : Terms} {x : PeerStretch} {u v : List Packet} {y : PeerStretch} → Kept t b x u v y → Kept b t y v u x
Kept-flip h = record { there = h.back; back = h.there }

-- x acknowledges so many and says whether it is ready, whatever it has sent
told : {b : Terms} {x : PeerStretch} {u v : List Packet} {y : PeerStretch} (sent : List Piece) (ready : Bool) {n : ℕ} (q : Packet) → conf_in q ≡ 0
    → ack_in q ≡ Some (n % 8) → readied x.own_ready q ≡ ready → MayAcknowledge x n → OneWay b y v u x
    → OneWay b y v (u ++ q ∷ []) (record x { sent = sent; told = n; own_ready = ready })
told {u} {y} sent ready {n} q no_conf ack is may h =
    let few = Line-le h.line in
    record {
      line = h.line;
      acks = Acks-told n q may.rising may.taken (omega (arith, few)) ack h.acks;
      ints = Ints-back q no_conf h.ints;
      sound = h.sound;
      ready = readied_push y.peer_ready u q ∙ ap (λ b. readied b q) h.ready ∙ is;
    }

-- x sends what is no data and no interrupt
passes : {t : Terms} {x : PeerStretch} {u v : List Packet} {y : PeerStretch} (q : Packet) → numbering q ≡ None → int_in q ≡ [] → InFlowControl q
    → OneWay t x u v y → OneWay t x (u ++ q ∷ []) v y
passes q none no_int is h = record { line = Line-push q none is h.line; acks = h.acks; ints = Ints-there q no_int h.ints; sound = h.sound; ready = h.ready }

says : {t b : Terms} {x : PeerStretch} {u v : List Packet} {y : PeerStretch} {n : ℕ} (ready : Bool) (q : Packet) → numbering q ≡ None → int_in q ≡ []
    → conf_in q ≡ 0 → InFlowControl q → ack_in q ≡ Some (n % 8) → readied x.own_ready q ≡ ready → MayAcknowledge x n → Kept t b x u v y
    → Kept t b (record x { told = n; own_ready = ready }) (u ++ q ∷ []) v y
says {x} ready q none no_int no_conf is ack said may h =
    let there = passes q none no_int is h.there in
    record {
      there = record { line = there.line; acks = there.acks; ints = there.ints; sound = there.sound; ready = there.ready };
      back = told x.sent ready q no_conf ack said may h.back;
    }

-- what it sends of its own accord
pub does_kept : {t b : Terms} {x : PeerStretch} {u v : List Packet} {y : PeerStretch} (d : Deed) → MayDo t.longest t.size x d → Kept t b x u v y
    → Kept t b (does x d) (u ++ packet_of x d ∷ []) v y
does_kept {t} {x} (Sends p n) may h =
    let longer = length_push x.sent p in
    let room = may.1.window in
    let d = Data (length x.sent % 8) (n % 8) p in
    record {
      there = record {
        line = Line-send (n % 8) p h.there.line;
        acks = Acks-more (length (x.sent ++ p ∷ [])) (omega arith) h.there.acks;
        ints = Ints-there d refl h.there.ints;
        sound = AreSound-append t.longest t.size no_part x.sent (p ∷ []) h.there.sound (may.1.fits, tt);
        ready = h.there.ready;
      };
      back = told (x.sent ++ p ∷ []) x.own_ready d refl refl refl may.0 h.back;
    }
does_kept {x} (Says true n) may h = says true (Rr (n % 8)) refl refl refl tt refl refl may h
does_kept {x} (Says false n) may h = says false (Rnr (n % 8)) refl refl refl tt refl refl may h
does_kept {x} {u} {v} {y} (Interrupts xs) may h = record {
  there = record {
    line = Line-push (Int xs) refl tt h.there.line;
    acks = h.there.acks;
    ints = Ints-send xs (rw (sym may) h.there.ints);
    sound = h.there.sound;
    ready = h.there.ready;
  };
  back = record {
    line = h.back.line;
    acks = Acks-pass (Int xs) refl h.back.acks;
    ints = Ints-back (Int xs) refl h.back.ints;
    sound = h.back.sound;
    ready = readied_push y.peer_ready u (Int xs) ∙ h.back.ready;
  };
}
does_kept {u} {y} Confirms may h =
    let there = passes IntConf refl refl tt h.there in
    record {
      there = record { line = there.line; acks = there.acks; ints = there.ints; sound = there.sound; ready = there.ready };
      back = record {
        line = h.back.line;
        acks = Acks-pass IntConf refl h.back.acks;
        ints = Ints-confirm may h.back.ints;
        sound = h.back.sound;
        ready = readied_push y.peer_ready u IntConf ∙ h.back.ready;
      };
    }

-- ---- what comes to it

-- a data packet whose P(S) is the next one is taken
pub takes_next : (y : PeerStretch) (s r : ℕ) (p : Piece) → s ≡ length y.taken % 8
    → record y { acked = resolved y.acked r; taken = y.taken ++ p ∷ [] } ≡ taking y (Data s r p)
takes_next y s r p next =
    ap (λ b. record y { acked = resolved y.acked r; taken = if b then y.taken ++ p ∷ [] else y.taken })
    (sym (eq-eqb s (length y.taken % 8) next))

-- what is no confirmation has come, with its P(R) or without, whatever x took
hears_there : {t : Terms} {x : PeerStretch} {u : List Packet} (q : Packet) (v : List Packet) {y : PeerStretch} → conf_in q ≡ 0 → OneWay t x u (q ∷ v) y
    → OneWay t (record x { acked = hears x.acked (ack_in q); peer_ready = readied x.peer_ready q }) u v y
hears_there q v no_conf h = record {
  line = h.line;
  acks = Acks-hear v h.acks;
  ints = Ints-skip v q no_conf h.ints;
  sound = h.sound;
  ready = h.ready;
}

-- what is no data and no interrupt
skips_back : {b : Terms} {x : PeerStretch} {u : List Packet} (q : Packet) (v : List Packet) {y : PeerStretch} → numbering q ≡ None → int_in q ≡ []
    → OneWay b y (q ∷ v) u x → OneWay b y v u x
skips_back q v none no_int h = record { line = Line-skip v q none h.line; acks = h.acks; ints = Ints-past v q no_int h.ints; sound = h.sound; ready = h.ready }

status_kept : {t b : Terms} {x : PeerStretch} {u : List Packet} (q : Packet) (v : List Packet) {y : PeerStretch} → numbering q ≡ None → int_in q ≡ []
    → conf_in q ≡ 0 → Kept t b x u (q ∷ v) y → Kept t b (record x { acked = hears x.acked (ack_in q); peer_ready = readied x.peer_ready q }) u v y
status_kept q v none no_int no_conf h =
    let back = skips_back q v none no_int h.back in
    record {
      there = hears_there q v no_conf h.there;
      back = record { line = back.line; acks = back.acks; ints = back.ints; sound = back.sound; ready = back.ready };
    }

-- what it makes of the packet in front
pub taking_kept : {t b : Terms} {x : PeerStretch} {u : List Packet} (p : Packet) (v : List Packet) {y : PeerStretch} → Kept t b x u (p ∷ v) y
    → Kept t b (taking x p) u v y
taking_kept {t} {b} {x} {u} (Data s r p) v {y} h =
    let longer = length_push x.taken p in
    let there = hears_there (Data s r p) v refl h.there in
    subst (λ z. Kept t b z u v y) (takes_next x s r p h.back.line.numbers.0) (record {
      there = record { line = there.line; acks = there.acks; ints = there.ints; sound = there.sound; ready = there.ready };
      back = record {
        line = Line-take v s r p h.back.line;
        acks = Acks-taken (length (x.taken ++ p ∷ [])) (omega arith) h.back.acks;
        ints = Ints-past v (Data s r p) refl h.back.ints;
        sound = h.back.sound;
        ready = h.back.ready;
      };
    })
taking_kept (Rr r) v h = status_kept (Rr r) v refl refl refl h
taking_kept (Rnr r) v h = status_kept (Rnr r) v refl refl refl h
taking_kept (Int xs) v h =
    let there = hears_there (Int xs) v refl h.there in
    record {
      there = record { line = there.line; acks = there.acks; ints = there.ints; sound = there.sound; ready = there.ready };
      back = record {
        line = Line-skip v (Int xs) refl h.back.line;
        acks = h.back.acks;
        ints = Ints-take v xs h.back.ints;
        sound = h.back.sound;
        ready = h.back.ready;
      };
    }
taking_kept {x} IntConf v h =
    let is = Ints-out x.int_out v h.there.ints in
    let back = skips_back IntConf v refl refl h.back in
    record {
      there = record {
        line = h.there.line;
        acks = Acks-hear v h.there.acks;
        ints = Ints-conf v (rw (sym is) h.there.ints);
        sound = h.there.sound;
        ready = h.there.ready;
      };
      back = record { line = back.line; acks = back.acks; ints = back.ints; sound = back.sound; ready = back.ready };
    }
taking_kept other v h = absurd h.back.line.kinds.0

-- ---- what it expects

valid : {t : Terms} {x : PeerStretch} {u : List Packet} {q : Packet} {v : List Packet} {y : PeerStretch} → OneWay t x u (q ∷ v) y
    → hears x.acked (ack_in q) ≤ length x.sent
valid h = let few = Line-le h.line in heard_below (omega (arith, few)) h.acks

-- what comes in a stretch is expected
pub expects : {t b : Terms} {x : PeerStretch} {u : List Packet} (p : Packet) {v : List Packet} {y : PeerStretch} → Kept t b x u (p ∷ v) y → Expects b x p
expects {b} {x} (Data s r p) {v} h = (
  h.back.line.numbers.0,
  valid h.there,
  (AreSound-back b.longest b.size no_part x.taken (p ∷ pieces v) (subst (λ l. AreSound b.longest b.size no_part l) h.back.line.flow h.back.sound)).0,
)
expects (Rr r) h = valid h.there
expects (Rnr r) h = valid h.there
expects (Int user) h = tt
expects {x} IntConf {v} h = Ints-out x.int_out v h.there.ints
expects p h = absurd h.back.line.kinds.0
