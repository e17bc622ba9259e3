-- Whatever an end does keeps what holds of two ends over sessions.
use Rattle.x25_line.proofs.Names.{◌≡◌, ◌≤◌, ◌+◌, ◌⊎◌, inl, inr, ℕ, suc, List, [], ◌∷◌, ◌++◌, map, Option, refl, sym, subst, arith, ap, sabm_of, ua_of, disc_of}
use Rattle.x25_line.proofs.Names.{Said, Carried, Tells, Sabm, Ua, Else, Odd, Meeting, turned, Each, Stand, Out, Asking, In, Letter, letter, Two, OfTells, Moves}
use Rattle.x25_line.proofs.Names.{free, odd, asks, closes, leaves, takes_ua, takes_sabm, waits_on, takes_disc, loses, IsSpoilt, LessAt, gone}
use Rattle.x25_line.proofs.ends.Held.{IsOlder, Side, first_side, near_at, far_at, near_stands, far_stands, less_near, less_far, push_near, push_far, leave_near}
use Rattle.x25_line.proofs.ends.Held.{leave_far, close_near, ask_near, ask_far, begin_near, begin_far, new_far}
use Rattle.x25_line.proofs.ends.Lines.{count_push, AllTold, told_map, Never, Of, are_none, after_clean, asked_none, asked_now, asked_never, asked_begins}
use Rattle.x25_line.proofs.ends.Meetings.{IsPaired, IsBegun, begun_later, paired_anew, above_paired, begun_turned, paired_turned, in_step_turned}
use Rattle.x25_line.specs.laws.{Ends.{two_swapped, how_many, IsPatient, heard, hears, begin_at}, Said.{Disc}, SessionClaims.{InStep}}

-- ---- who met

pub record Meets (b c p q : ℕ) (met : List Meeting) : Type 0 where
  pub begun : Each (IsBegun b c) met
  pub paired : Each (IsPaired p q) met
  pub step : InStep met

pub meets_turned : {b c p q : ℕ} {ms : List Meeting} → Meets b c p q ms → Meets c b q p (map turned ms)
meets_turned {b} {c} {p} {q} {ms} h = record { begun = begun_turned b c ms h.begun; paired = paired_turned p q ms h.paired; step = in_step_turned ms h.step }

-- the same pair, and one session more
meets_more : {b c p q : ℕ} (ms : List Meeting) → Meets b c p q ms → Meets (suc b) c p q ms
meets_more {b} {c} ms h = record { begun = begun_later b c (suc b) c ms (omega arith) (omega arith) h.begun; paired = h.paired; step = h.step }

-- a new pair
meets_new : {b c p q : ℕ} {ms : List Meeting} → Meets b c p q ms → Meets b c (suc b) (suc c) ms
meets_new {b} {c} {ms = ms} h = record { begun = h.begun; paired = paired_anew b c (suc b) (suc c) ms (omega arith) (omega arith) h.begun; step = h.step }

-- the two that stand meet
meets_here : (b c p q s : ℕ) (ms : List Meeting) → b ≡ p → s ≡ q → s ≤ c → Meets b c p q ms → Meets b c p q (record { near = b; far = s } ∷ ms)
meets_here b c p q s ms is that low h =
    record {
      begun = ((omega arith, low), h.begun);
      paired = (inl (is, that), h.paired);
      step = (rw is (rw that (above_paired p q ms h.paired)), h.step);
    }

-- ---- what holds

pub record Held (w : Two) : Type 0 where
  pub p : ℕ
  pub q : ℕ
  pub near : Side w.near.stand w.near.begun p w.far.stand w.far.begun q w.out w.back
  pub far : Side w.far.stand w.far.begun q w.near.stand w.near.begun p w.back w.out
  pub meets : Meets w.near.begun w.far.begun p q w.met

abbrev holds : {w : Two} {p q : ℕ} → Side w.near.stand w.near.begun p w.far.stand w.far.begun q w.out w.back
    → Side w.far.stand w.far.begun q w.near.stand w.near.begun p w.back w.out
    → Meets w.near.begun w.far.begun p q w.met → Held w
holds {w} {p} {q} near far meets = record { p = p; q = q; near = near; far = far; meets = meets }

-- once the near end has moved: the same two sessions stand, or the next of both
pub record Onward (w v : Two) (p q : ℕ) : Type 0 where
  pub held : Held v
  pub pair : ((held.p ≡ p) × (held.q ≡ q)) ⊎ ((held.p ≡ suc w.near.begun) × (held.q ≡ suc w.far.begun))

abbrev pub held_turned : (w : Two) → Held w → Held (two_swapped w)
held_turned w h = holds h.far h.near (meets_turned h.meets)

-- ---- each move

-- what comes to an end that is in a session
pub live_heard : {t b p sy q : ℕ} {st : Stand} {out rest : List Letter} (s : Said) (stand : Stand) → Side stand b p st sy q out (letter t s ∷ rest)
    → (ms : List Meeting) → Meets b sy p q ms
    → Meets b sy p q (heard stand b (letter t s) ms)
live_heard {t} {b} {p} {sy} {q} {st} {out} {rest} (Tells c n) In h ms m = meets_here b sy p q t ms (h.is_in refl) (h.live refl).0 h.tags.0 m
live_heard {t} {b} {p} {sy} {q} {st} {out} {rest} s In h ms m = m
live_heard {t} {b} {p} {sy} {q} {st} {out} {rest} s stand h ms m = m

module _ (w : Two) where
  abbrev bx : ℕ
  bx = w.near.begun

  abbrev b : ℕ
  b = w.far.begun

  abbrev sy : Stand
  sy = w.far.stand

  -- the line to the near end is less
  abbrev shorter : (rest : List Letter) {i : ℕ} → LessAt IsSpoilt i w.back rest → Held w → Held (record w { back = rest })
  shorter rest l h = holds (less_near l h.near) (less_far l h.far) h.meets

  -- one more on the line, which sets nothing up
  abbrev longer : (s : Said) → sabm_of s ≡ 0 → disc_of s ≡ 0 → (h : Held w) → OfTells s (((w.near.stand ≡ In → ⊥) → ⊥) × (bx ≡ h.p))
      → (sy ≡ Asking → ua_of s ≡ 0) → Held (record w { out = w.out ++ letter bx s ∷ [] })
  longer s no_sabm no_disc h told no_ua =
      holds (push_near (letter bx s) no_sabm no_disc h.near) (push_far (letter bx s) no_sabm (omega arith) told no_ua h.far) h.meets

  asked_held : IsPatient w → Held w → Held (record w { near = record { stand = Asking; begun = bx }; out = w.out ++ letter bx Sabm ∷ [] })
  asked_held patient h = holds (ask_near patient.sabm patient.disc patient.ua patient.crossing h.near) (ask_far patient.sabm h.far) h.meets

  closed_held : Held w → Held (record w { near = record { stand = Out; begun = bx }; out = w.out ++ letter bx Disc ∷ [] })
  closed_held h = holds (close_near h.near) (push_far (letter bx Disc) refl (omega arith) tt (λ _. refl) (leave_far h.far)) h.meets

  left_held : Held w → Held (record w { near = record { stand = Out; begun = bx } })
  left_held h = holds (leave_near h.near) (leave_far h.far) h.meets

  -- the UA that the near end awaits
  ua_held : (s : ℕ) (rest : List Letter) {p q : ℕ} → Side Asking bx p sy b q w.out (letter s Ua ∷ rest) → Side sy b q Asking bx p (letter s Ua ∷ rest) w.out
      → Meets bx b p q w.met
      → Onward w (record w { near = record { stand = In; begun = suc bx }; back = rest }) p q
  ua_held s rest {p} {q} near far meets = elim near.view [
    | inl is ↦ (absurd (omega (arith, near.left refl is)))
    | inr is ↦ (let none : how_many sabm_of w.out ≡ 0 = omega (arith, (near.asks_once refl).0) in let clean = near.soon refl is in record {
      pair = inl (refl, refl);
      held = holds (begin_near is near.tags.1 clean.0 (asked_now _ _ _ b q q rest clean.1 near.asked.1) (omega (arith, near.one)))
          (begin_far none (less_far (gone (letter s Ua) rest) far)) (meets_more w.met meets);
    })
  ]

  -- a SABM
  sabm_held : (s : ℕ) (rest : List Letter) {p q : ℕ} → Side w.near.stand bx p sy b q w.out (letter s Sabm ∷ rest)
      → Side sy b q w.near.stand bx p (letter s Sabm ∷ rest) w.out → Meets bx b p q w.met
      → Onward w (record w { near = record { stand = In; begun = suc bx }; out = w.out ++ letter (suc bx) Ua ∷ []; back = rest }) p q
  sabm_held s rest {p} {q} near far meets = elim near.asked.0 [
    | inl now ↦ new_pair now.0 now.1 now.2
    | inr old ↦ same_pair old.0 old.2
  ]
    where
      none : how_many sabm_of rest ≡ 0
      none = omega (arith, near.one)

      new_pair : (sy ≡ In → ⊥) → s ≡ b → AllTold Never rest
          → Onward w (record w { near = record { stand = In; begun = suc bx }; out = w.out ++ letter (suc bx) Ua ∷ []; back = rest }) p q
      new_pair off is told =
          let that = far_at (ap (λ z. letter z Sabm ∷ rest) is) far in
          record {
            pair = inr (refl, refl);
            held = holds
                (begin_near refl near.tags.1 (told_map Never (Of (suc b)) (λ n no. absurd no) rest told) (asked_none _ _ b (suc b) rest none)
                (omega (arith, none)))
                (new_far In off that (omega arith) (omega arith)
                (asked_begins _ _ _ _ bx p (suc bx) (refl, none, λ k. absurd (cc)) (λ o. absurd (omega (arith, o.1))) w.out that.asked))
                (meets_more w.met (meets_new meets));
          }

      same_pair : IsOlder bx p w.out sy → AllTold (Of q) rest
          → Onward w (record w { near = record { stand = In; begun = suc bx }; out = w.out ++ letter (suc bx) Ua ∷ []; back = rest }) p q
      same_pair ok told =
          record {
            pair = inl (refl, refl);
            held = holds (begin_near ok.0 near.tags.1 told (asked_none _ _ b q rest none) (omega (arith, none)))
                (push_far (letter (suc bx) Ua) refl (omega arith) tt (λ k. absurd (ok.2 k)) (begin_far ok.1 (less_far (gone (letter s Sabm) rest) far)))
                (meets_more w.met meets);
          }

  -- a SABM that crossed that of the near end, which waits on
  waits_held : (s : ℕ) (rest : List Letter) {p q : ℕ} → Side Asking bx p sy b q w.out (letter s Sabm ∷ rest)
      → Side sy b q Asking bx p (letter s Sabm ∷ rest) w.out → Meets bx b p q w.met
      → Onward w (record w { near = record { stand = Asking; begun = bx }; out = w.out ++ letter bx Ua ∷ []; back = rest }) p q
  waits_held s rest {p} {q} near far meets = elim near.asked.0 [
    | inl now ↦ new_pair now.0 now.1 now.2
    | inr old ↦ same_pair old.0
  ]
    where
      none : how_many sabm_of rest ≡ 0
      none = omega (arith, near.one)

      sabms : how_many sabm_of (w.out ++ letter bx Ua ∷ []) ≡ how_many sabm_of w.out + 0
      sabms = count_push sabm_of w.out (letter bx Ua)

      discs : how_many disc_of (w.out ++ letter bx Ua ∷ []) ≡ how_many disc_of w.out + 0
      discs = count_push disc_of w.out (letter bx Ua)

      new_pair : (sy ≡ In → ⊥) → s ≡ b → AllTold Never rest
          → Onward w (record w { near = record { stand = Asking; begun = bx }; out = w.out ++ letter bx Ua ∷ []; back = rest }) p q
      new_pair off is told =
          let that = far_at (ap (λ z. letter z Sabm ∷ rest) is) far in
          let once = (near.asks_once refl).0 in
          let closed = (near.asks_once refl).1 in
          record {
            pair = inr (refl, refl);
            held = holds {p = suc bx} {q = suc b}
                (record {
                  view = inr refl;
                  tags = near.tags.1;
                  is_in = λ k. absurd (cc);
                  live = λ k. absurd (cc);
                  soon = λ _ _. after_clean (suc b) b rest (told_map Never (Of (suc b)) (λ n no. absurd no) rest told, are_none b rest none);
                  left = λ _ here. absurd (omega (arith, here));
                  asked = asked_none _ _ b (suc b) rest none;
                  one = omega (arith, none);
                  asks_once = λ _. (omega (arith, once, sabms), omega (arith, closed, discs));
                })
                (new_far Asking off that (omega arith) (omega arith) (asked_never _ _ _ bx p (suc bx) (λ o. absurd (omega (arith, o.1))) w.out that.asked))
                (meets_new meets);
          }

      same_pair : IsOlder bx p w.out sy → Onward w (record w { near = record { stand = Asking; begun = bx }; out = w.out ++ letter bx Ua ∷ []; back = rest }) p
          q
      same_pair ok =
          record {
            pair = inl (refl, refl);
            held = holds (push_near (letter bx Ua) refl refl (less_near (gone (letter s Sabm) rest) near))
                (push_far (letter bx Ua) refl (omega arith) tt (λ k. absurd (ok.2 k)) (less_far (gone (letter s Sabm) rest) far)) meets;
          }

-- two moves by themselves, of which it shows that the same two sessions stand
abbrev pub told_held : (w : Two) (carried : Option Carried) (nr : ℕ) → w.near.stand ≡ In → Held w
    → Held (record w { out = w.out ++ letter w.near.begun (Tells carried nr) ∷ [] })
told_held w carried nr is h = longer w (Tells carried nr) refl refl h ((λ off. off is), h.near.is_in is) (λ _. refl)

-- without its first letter a line has one less
pub popped : (xs rest : List Letter) (e : Letter) → xs ≡ e ∷ rest → LessAt IsSpoilt 0 xs rest
popped xs rest e is = rw is (gone e rest)

abbrev pub come_held : (w : Two) (e : Letter) (rest : List Letter) → w.back ≡ e ∷ rest → Held w
    → Held (record w { back = rest; met = heard w.near.stand w.near.begun e w.met })
come_held w e rest is h =
    let k = shorter w rest (popped w.back rest e is) h in
    holds k.near k.far
    (live_heard e.said w.near.stand (near_at is h.near) w.met h.meets)

pub moves_held : {w v : Two} → Moves w v → (h : Held w) → Onward w v h.p h.q
unfolding asked_held closed_held left_held
moves_held {w} free h = record { held = longer w Else refl refl h tt (λ _. refl); pair = inl (refl, refl) }
moves_held {w} odd h = record { held = longer w Odd refl refl h tt (λ _. refl); pair = inl (refl, refl) }
moves_held {w} (asks patient) h = record { held = asked_held w patient h; pair = inl (refl, refl) }
moves_held {w} closes h = record { held = closed_held w h; pair = inl (refl, refl) }
moves_held {w} leaves h = record { held = left_held w h; pair = inl (refl, refl) }
moves_held {w} (hears e rest is) h = record { held = come_held w e rest is h; pair = inl (refl, refl) }
moves_held {w} (takes_ua s rest is asking) h = ua_held w s rest (near_stands asking (near_at is h.near)) (far_stands asking (far_at is h.far)) h.meets
moves_held {w} (takes_sabm s rest is) h = sabm_held w s rest (near_at is h.near) (far_at is h.far) h.meets
moves_held {w} (waits_on s rest is asking) h =
    subst (λ z. Onward w (record w { near = record { stand = z; begun = w.near.begun }; out = w.out ++ letter w.near.begun Ua ∷ []; back = rest }) h.p h.q)
    (sym asking)
    (waits_held w s rest (near_stands asking (near_at is h.near)) (far_stands asking (far_at is h.far)) h.meets)
moves_held {w} (takes_disc s rest is) h =
    let k = shorter w rest (popped w.back rest (letter s Disc) is) h in
    let far = far_at is h.far in
    record { held = longer (record w { back = rest }) Ua refl refl k tt (λ k. absurd (omega (arith, (far.asks_once k).1))); pair = inl (refl, refl) }
moves_held {w} (loses i es l) h = record { held = shorter w es l h; pair = inl (refl, refl) }

pub first_held : (s : Stand) (b : ℕ) → Held (begin_at s b).two
first_held s b = holds (first_side s b) (first_side s b) (record { begun = tt; paired = tt; step = tt })
