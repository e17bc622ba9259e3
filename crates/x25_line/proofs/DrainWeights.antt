-- What comes to a station weighs more than what it brings, as long as the station stays in its phase and hears no new number.
use Rattle.x25_line.proofs.Names.{◌≡◌, ℕ, suc, zero, ◌+◌, ◌-◌, ◌*◌, ◌%◌, ◌<◌, ◌≤◌, List, [], ◌∷◌, ◌++◌, length, Bool, true, false, not, if◌then◌else◌, Result}
use Rattle.x25_line.proofs.Names.{Ok, Err, refl, sym, ap, subst, arith, length-append, eqb-true, and_parts, PlainFrame, info, rr, rnr, rej, sabm, disc}
use Rattle.x25_line.proofs.Names.{FrameError, Phase, LinkStation, Side, is_up, is_busy, wanted, sends, may_send, pumped, ended, LinkStep, hears_info, peer_is}
use Rattle.std.{proofs.lemmas.Bool.{eqb-false, not-true}, specs.Prelude.{◌==◌, slice_index_or}}
use Rattle.x25_frame.specs.Spelling.{information_of, IsInRange, MayCarry, IsWithin}
use Rattle.x25_line.{proofs.Lists.{each_append}, proofs.Names.{goes_back, polls}, proofs.StationSends.{AllWithin}, specs.laws.StationClaims.{Each}}
use Rattle.x25_link.proofs.EndLemmas.{open_is}
use Rattle.x25_link.specs.{Hearing.{is_taken, takes, answers, rejects_gap, passes_over}, Outgoing.{Outgoing}}
use Rattle.x25_link.specs.Station.{with_near, ready, next_frame, send_next, owes_ready, finished}

-- ---- what frames weigh

-- n where it is so, and else nothing
abbrev pub more_if : ℕ → Bool → ℕ
more_if n true = n
more_if n false = 0

-- n times
abbrev pub times : ℕ → ℕ → ℕ
times m zero = 0
times m (suc n) = m + times m n

-- more times as much is more
pub times_more : (m i j : ℕ) → i ≤ j → times m i ≤ times m j
times_more m zero j h = omega arith
times_more m (suc i) zero h = absurd (omega (arith, h))
times_more m (suc i) (suc j) h = omega (arith, times_more m i j (omega (arith, h)))

-- a product by adding, for seven
pub seven_times : (m : ℕ) → times m 7 ≡ 7 * m
seven_times m = omega arith

-- `back` is what it weighs that V(S) goes back, to be sent again from there. A poll is answered by F=1.
abbrev pub ready_weight : ℕ → Bool → Bool → ℕ
ready_weight back true true = back + 2
ready_weight back false true = back
ready_weight back b false = 1

abbrev pub rej_weight : ℕ → Bool → Bool → ℕ
rej_weight back b true = 2 * back
rej_weight back b false = back

-- Where `low` is acknowledged, I frames go with the seven numbers from there on. One with the eighth, which is left from before, may let seven more be taken.
abbrev pub weight : ℕ → ℕ → PlainFrame → ℕ
weight back low (info ns nr p x) = 3 + more_if back p + more_if (8 * back) (ns == (low + 7) % 8)
weight back low (rr command nr pf) = ready_weight back command pf
weight back low (rnr command nr pf) = ready_weight back command pf
weight back low (rej command nr pf) = rej_weight back command pf
weight back low (sabm p) = 2
weight back low (disc p) = 2
weight back low frame = 1

-- what octets weigh that are read as this
abbrev pub read_weight : ℕ → ℕ → Result PlainFrame FrameError → ℕ
read_weight back low (Ok frame) = weight back low frame
read_weight back low (Err e) = 1

-- what all frames weigh
abbrev pub weights : ℕ → ℕ → List PlainFrame → ℕ
weights back low [] = 0
weights back low (f ∷ fs) = weight back low f + weights back low fs

pub weights_more : (back low : ℕ) (xs ys : List PlainFrame) → weights back low (xs ++ ys) ≡ weights back low xs + weights back low ys
weights_more back low [] ys = omega arith
weights_more back low (x ∷ xs) ys = omega (arith, weights_more back low xs ys)

-- how many I frames of those seven numbers may be taken yet, n having been taken
abbrev pub to_take : ℕ → ℕ → ℕ
to_take low n = (low + 7 + 7 * n) % 8

-- the packets from V(S) on, the RNR that is to be ended, a REJ that may go, and one more for each I frame that may be taken
abbrev pub station_weight : ℕ → ℕ → LinkStation → ℕ
station_weight back low s =
    4 * (length s.outgoing.given - s.outgoing.place) + more_if 1 s.said_busy + more_if back (not s.rejecting) + times back (to_take low (length s.taken))

-- ---- what is sent may be spelled, and doesn't ask for set-up

abbrev pub asks_set_up : PlainFrame → ℕ
asks_set_up (sabm p) = 1
asks_set_up frame = 0

-- its octets are read as this frame, and it is no SABM
pub record IsSpelled (n1 : ℕ) (f : PlainFrame) : Type 0 where
  pub in_range : IsInRange f
  pub carries : MayCarry f (information_of f)
  pub within : IsWithin n1 f (information_of f)
  pub asks_not : asks_set_up f ≡ 0

-- each of them is read back, and is no SABM
abbrev pub AreSpelled : ℕ → List PlainFrame → Type 0
AreSpelled n1 fs = Each (IsSpelled n1) fs

spelled_more : {n1 : ℕ} (fs : List PlainFrame) {f : PlainFrame} → AreSpelled n1 fs → IsSpelled n1 f → AreSpelled n1 (fs ++ f ∷ [])
spelled_more {n1} fs {f} h g = each_append (IsSpelled n1) fs (f ∷ []) h (g, tt)

packet_within : {n1 : ℕ} (xs : List (List ℕ)) (n : ℕ) → AllWithin n1 xs → length (slice_index_or xs n []) ≤ n1
packet_within [] n h = omega arith
packet_within (x ∷ xs) zero h = h.0
packet_within {n1} (x ∷ xs) (suc n) h = packet_within xs n h.1

-- a number modulo 8 is under 8
pub below_eight : (n : ℕ) → n % 8 < 8
below_eight n = omega arith

pub rr_spelled : (n1 n : ℕ) (command pf : Bool) → IsSpelled n1 (rr command (n % 8) pf)
rr_spelled n1 n command pf = record { in_range = below_eight n; carries = refl; within = tt; asks_not = refl }

-- a number that may be sent isn't the eighth
not_eighth : (a n : ℕ) → a ≤ n → n < a + 7 → (b : Bool) → (n % 8 == (a + 7) % 8) ≡ b → b ≡ false
not_eighth a n low high true e = absurd (omega (arith, low, high, eqb-true _ _ e))
not_eighth a n low high false e = refl

not_none : (low n t : ℕ) → to_take low n ≡ t → ((n % 8 ≡ (low + 7) % 8) → ⊥) → 1 ≤ t
not_none low n zero e apart = absurd (apart (omega (arith, e)))
not_none low n (suc t) e apart = omega arith

-- a packet of the eighth number lets seven more be taken, and any other lets one less
once_more : (back low n : ℕ) (b : Bool) → (n % 8 == (low + 7) % 8) ≡ b → times back (to_take low (n + 1)) + back ≤ times back (to_take low n)
    + more_if (8 * back) b
once_more back low n true e = omega (arith, seven_times back, times_more back (to_take low (n + 1)) 7 (omega arith))
once_more back low n false e =
    let fewer : to_take low n ≡ suc (to_take low (n + 1)) = omega (arith, not_none low n (to_take low n) refl (eqb-false _ _ e)) in
    omega (arith, ap (times back) fewer)

-- ---- a side of a step that weighs at most so much

module _ (n1 k back low a top : ℕ) (gs : List (List ℕ)) (p : Phase) (small : k ≤ 7) (within : AllWithin n1 gs) (high : length gs ≤ top)
    (heavy : 4 * length gs + 2 ≤ back) where
  pub record Stands (o : Outgoing) (q : Phase) : Type 0 where
    pub acked : o.acked ≡ a
    pub place : a ≤ o.place
    pub given : o.given ≡ gs
    pub sent : o.sent ≤ top
    pub phase : q ≡ p

  pub record Weighs (n : ℕ) (t : Side) : Type 0 where
    pub load : weights back a t.out + station_weight back low t.near ≤ n
    pub stands : Stands t.near.outgoing t.near.phase
    pub spelled : AreSpelled n1 t.out

  pub W-more : {n : ℕ} (m : ℕ) {t : Side} → n ≤ m → Weighs n t → Weighs m t
  W-more m le h = record {
    load = omega (arith, le, h.load);
    stands = h.stands;
    spelled = h.spelled;
  }

  by_if : (n : ℕ) (b : Bool) (u v : Side) → (b ≡ true → Weighs n u) → (b ≡ false → Weighs n v) → Weighs n (if b then u else v)
  by_if n true u v f g = f refl
  by_if n false u v f g = g refl

  -- a frame goes
  pub W-sends : {n : ℕ} {f : PlainFrame} {t : Side} → IsSpelled n1 f → Weighs n t → Weighs (n + weight back a f) (sends f t)
  W-sends {f = f} {t} spelled h = record {
    load = omega (arith, weights_more back a t.out (f ∷ []), h.load);
    stands = h.stands;
    spelled = spelled_more t.out h.spelled spelled;
  }

  -- RNR was said last, or not
  W-said : {n : ℕ} (b : Bool) {t : Side} → Weighs n t → Weighs (n + 1) (with_near t (record t.near { said_busy = b }))
  W-said true h = record {
    load = omega (arith, h.load);
    stands = h.stands;
    spelled = h.spelled;
  }
  W-said false h = record {
    load = omega (arith, h.load);
    stands = h.stands;
    spelled = h.spelled;
  }

  W-ended_busy : (n : ℕ) {t : Side} → t.near.said_busy ≡ true → Weighs (n + 1) t → Weighs n (with_near t (record t.near { said_busy = false }))
  W-ended_busy n said h =
      record {
        load = omega (arith, h.load, ap (more_if 1) said);
        stands = h.stands;
        spelled = h.spelled;
      }

  W-ready : {n : ℕ} (command pf : Bool) {t : Side} → Weighs n t → Weighs (n + ready_weight back command pf + 1) (ready command pf t)
  W-ready {n} command pf {t} h =
      let r = ready_weight back command pf in
      by_if (n + r + 1) (is_busy t.near) _ _
      (λ _. W-more (n + r + 1) (omega arith)
      (W-sends (record { in_range = below_eight (length t.near.taken); carries = refl; within = tt; asks_not = refl }) (W-said true h)))
      (λ _. W-more (n + r + 1) (omega arith) (W-sends (rr_spelled n1 (length t.near.taken) command pf) (W-said false h)))

  -- the RR that ends an RNR
  ends_busy : (n : ℕ) (t : Side) → is_busy t.near ≡ false → t.near.said_busy ≡ true → Weighs n t → Weighs n (ready false false t)
  ends_busy zero t free said h = absurd (omega (arith, h.load, ap (more_if 1) said))
  ends_busy (suc n) t free said h =
      rw free (W-more (suc n) (omega arith) (W-sends (rr_spelled n1 (length t.near.taken) false false) (W-ended_busy n said (W-more (n + 1) (omega arith) h))))

  W-finished : {n : ℕ} {t : Side} → Weighs n t → Weighs n (finished t)
  W-finished {n} {t} h = by_if n (owes_ready t.near) (ready false false t) t
      (λ owes. (let parts = and_parts t.near.said_busy _ (and_parts (is_up t.near.phase) _ owes).1 in ends_busy n t (not-true _ parts.1) parts.0 h))
      (λ _. h)

  W-send_next : {n : ℕ} {t : Side} → may_send k t.near ≡ true → Weighs n t → Weighs n (send_next t)
  W-send_next {t = t} may h =
      let now = h.stands in
      let o = open_is k t.near may in
      let number : (t.near.outgoing.place % 8 == (a + 7) % 8) ≡ false =
      not_eighth a t.near.outgoing.place now.place (omega (arith, small, o.room, now.acked)) _ refl in
      record {
        load = omega (arith, weights_more back a t.out ((next_frame t.near) ∷ []), ap (more_if (8 * back)) number, o.packet, h.load);
        stands = record {
          acked = now.acked;
          place = omega (arith, now.place);
          given = now.given;
          sent = omega (arith, now.sent, o.packet, ap length now.given, high);
          phase = now.phase;
        };
        spelled = spelled_more t.out h.spelled (record {
          in_range = (below_eight t.near.outgoing.place, below_eight (length t.near.taken));
          carries = tt;
          within = packet_within t.near.outgoing.given t.near.outgoing.place (subst (AllWithin n1) (sym now.given) within);
          asks_not = refl;
        });
      }

  W-pumped : (i : ℕ) {n : ℕ} {t : Side} → Weighs n t → Weighs n (pumped i k t)
  unfolding pumped
  W-pumped zero h = h
  W-pumped (suc i) {n} {t} h = by_if n (may_send k (pumped i k t).near) (send_next (pumped i k t)) (pumped i k t) (λ may. W-send_next may (W-pumped i h))
      (λ _. W-pumped i h)

  pub W-ended : (n : ℕ) {t : Side} → Weighs n t → Weighs n (ended k t)
  W-ended n {t} h = W-finished (W-pumped 7 h)

  -- ---- I frames

  W-answers : {n : ℕ} (q : Bool) {t : Side} → Weighs n t → Weighs (n + more_if back q + 2) (answers k q t)
  W-answers {n} true {t} h = W-more (n + back + 2) (omega arith) (W-ready false true h)
  W-answers {n} false {t} h =
      by_if (n + 0 + 2) (may_send k t.near) (send_next t) (ready false false t)
      (λ may. W-more (n + 0 + 2) (omega arith) (W-send_next may h))
      (λ _. W-more (n + 0 + 2) (omega arith) (W-ready false false h))

  W-gap : {n : ℕ} (q : Bool) {t : Side} → not t.near.rejecting ≡ true → Weighs n t → Weighs (n + more_if back q) (rejects_gap q t)
  W-gap q {t} none h =
      record {
        load = omega (arith, weights_more back a t.out ((rej false (wanted t.near) q) ∷ []), rej_is q, ap (more_if back) none, h.load);
        stands = h.stands;
        spelled = spelled_more t.out h.spelled (record { in_range = below_eight (length t.near.taken); carries = refl; within = tt; asks_not = refl });
      }
    where
      rej_is : (q : Bool) → rej_weight back false q ≡ back + more_if back q
      rej_is true = omega arith
      rej_is false = omega arith

  W-passes_over : (n : ℕ) (q : Bool) (t : Side) → Weighs n t → Weighs (n + more_if back q + 2) (passes_over q t)
  W-passes_over n q t h =
      by_if (n + more_if back q + 2) (is_busy t.near) _ _
      (λ _. W-more (n + more_if back q + 2) (says_little q) (W-ready false q h))
      (λ _. by_if (n + more_if back q + 2) (not t.near.rejecting) _ _
      (λ none. W-more (n + more_if back q + 2) (omega arith) (W-gap q none h))
      (λ _. answers_poll q))
    where
      says_little : (q : Bool) → n + ready_weight back false q + 1 ≤ n + more_if back q + 2
      says_little true = omega arith
      says_little false = omega arith

      answers_poll : (q : Bool) → Weighs (n + more_if back q + 2) (if q then ready false true t else t)
      answers_poll true = W-more (n + back + 2) (omega arith) (W-ready false true h)
      answers_poll false = W-more (n + 0 + 2) (omega arith) h

  W-takes : (n ns : ℕ) (x : List ℕ) (t : Side) → ns ≡ wanted t.near → Weighs n t → Weighs (n + more_if (8 * back) (ns == (low + 7) % 8)) (takes x t)
  W-takes n ns x t is h =
      let r = length t.near.taken in
      let grown : length (t.near.taken ++ x ∷ []) ≡ r + 1 = length-append t.near.taken (x ∷ []) in
      let more = once_more back low r (ns == (low + 7) % 8) (ap (λ m. m == (low + 7) % 8) (sym is)) in
      let same : times back (to_take low (length (t.near.taken ++ x ∷ []))) ≡ times back (to_take low (r + 1)) = ap (λ m. times back (to_take low m)) grown in
      record {
        load = omega (arith, h.load, more, same);
        stands = h.stands;
        spelled = h.spelled;
      }

  side_if : (n : ℕ) (b : Bool) (x y : LinkStep) → (b ≡ true → Weighs n x.side) → (b ≡ false → Weighs n y.side)
      → (let z : LinkStep = if b then x else y in Weighs n z.side)
  side_if n true x y f g = f refl
  side_if n false x y f g = g refl

  pub W-info : (n ns : ℕ) (q : Bool) (x : List ℕ) (t : Side) → Weighs n t
      → Weighs (n + more_if back q + more_if (8 * back) (ns == (low + 7) % 8) + 2) (hears_info k ns q x t).side
  W-info n ns q x t h =
      let extra = more_if (8 * back) (ns == (low + 7) % 8) in
      side_if (n + more_if back q + extra + 2) (is_taken ns t.near) _ _
      (λ is. W-more (n + more_if back q + extra + 2) (omega arith)
      (W-answers q (W-takes n ns x t (eqb-true ns (wanted t.near) (and_parts (not (is_busy t.near)) _ is).1) h)))
      (λ _. W-more (n + more_if back q + extra + 2) (omega arith) (W-passes_over n q t h))

  -- ---- RR, RNR and REJ

  pub W-peer : {n : ℕ} (b : Bool) {t : Side} → Weighs n t → Weighs n (peer_is b t)
  W-peer b h = record { load = h.load; stands = h.stands; spelled = h.spelled }

  pub W-goes_back : {n : ℕ} {t : Side} → Weighs n t → Weighs (n + 4 * length gs) (goes_back t)
  W-goes_back h =
      let now = h.stands in
      record {
        load = omega (arith, h.load, ap length now.given);
        stands = record { acked = now.acked; place = omega (arith, now.acked); given = now.given; sent = now.sent; phase = now.phase };
        spelled = h.spelled;
      }

  -- with one to spare
  pub W-polls : {n : ℕ} (m : ℕ) (command pf : Bool) {t : Side} → n + ready_weight back command pf ≤ m + 1 → Weighs n t → Weighs m (polls command pf t)
  W-polls {n} m true true {t} le h = W-more m (omega (arith, le)) (W-ready false true h)
  W-polls {n} m true false le h = W-more m (omega (arith, le)) h
  W-polls {n} m false true {t} le h =
      W-more m (omega (arith, le, heavy))
      (W-goes_back
      (record { load = h.load; stands = h.stands; spelled = h.spelled }))
  W-polls {n} m false false le h = W-more m (omega (arith, le)) h

  pub W-rej : (n m : ℕ) (command pf : Bool) (t : Side) → n + rej_weight back command pf ≤ m + 1 → Weighs n t
      → Weighs m (polls command pf (goes_back (peer_is false t)))
  W-rej n m command pf t le h =
      W-polls m command pf (by command pf le) (W-goes_back (W-peer false h))
    where
      by : (command pf : Bool) → n + rej_weight back command pf ≤ m + 1 → n + 4 * length gs + ready_weight back command pf ≤ m + 1
      by true true le = omega (arith, le, heavy)
      by false true le = omega (arith, le, heavy)
      by true false le = omega (arith, le, heavy)
      by false false le = omega (arith, le, heavy)
