-- Frames that come one behind another: what was answered before, and one frame more.
use Rattle.x25_c.proofs.Names.{◌≡◌, ◌∙◌, ℕ, ◌+◌, ◌<◌, ◌≤◌, List, length, get_or, None, ap, sym, refl, subst, arith, inl, inr, true≢false, Result, Held}
use Rattle.std.proofs.{Common.{zero, suc, ◌-◌, false, take, drop}, lemmas.List.{append-nil}, lemmas.List.Sums.{sum_by_more}}
use Rattle.std.specs.Prelude.{Ok, Err, OnOk, is_err, sum}
use Rattle.x25_c.proofs.HappenLemmas.{from_still}
use Rattle.x25_c.specs.{Held.{Whole, IsAlone, whole_of, part_before, part_of, and_then, no_answer}, code.Happens.{HappensTo}}
use Rattle.x25_c.specs.code.Receives.{IsClocked, Received, ReceivesAll, frame_at}
use Rattle.x25_station.specs.{code.FitsStation.{FitsStation, FitsStill, IsEmpty}, declared.timer.Timer.TheVariants.{GoesOn}, laws.TimerLaw.{Comes}}

-- nothing was answered yet
pub nothing_yet : (h : Held) → IsAlone h → IsEmpty h.step → h.step.timer ≡ GoesOn → whole_of h ≡ no_answer
nothing_yet h alone empty timer = rw (alone.frames, alone.entries, alone.timer, empty.frames, empty.entries, timer) refl

-- it is that of the frames before and that of the last
whole_parts : (h : Held) → whole_of h ≡ and_then (part_before h.earlier) (part_of h.step)
whole_parts h = refl

-- an answer and none behind it
and_nothing : (w : Whole) → and_then w no_answer ≡ w
and_nothing w = rw (append-nil w.frames, append-nil w.entries) refl

-- what stood before the last answer is all that was answered, where that is none
pub earlier_is : (h : Held) → part_of h.step ≡ no_answer → part_before h.earlier ≡ whole_of h
earlier_is h none = sym (whole_parts h ∙ ap (and_then (part_before h.earlier)) none ∙ and_nothing (part_before h.earlier))

module _ (octets counts : List ℕ) (place : ℕ) (old self kept new : Held) where
  behind : whole_of kept ≡ whole_of self → part_of kept.step ≡ no_answer → new.earlier ≡ kept.earlier → whole_of new
      ≡ and_then (whole_of self) (part_of new.step)
  behind same none earlier = whole_parts new ∙ ap (λ before. and_then (part_before before) (part_of new.step)) earlier
      ∙ ap (λ w. and_then w (part_of new.step)) (earlier_is kept none ∙ same)

  -- one frame more was taken
  pub one_more : Received octets counts place old self (whole_of self) → whole_of kept ≡ whole_of self → part_of kept.step ≡ no_answer
      → FitsStill self.station kept.station → kept.end ≡ self.end
      → kept.time ≡ self.time → kept.clock ≡ self.clock → HappensTo kept new (Ok tt) (Comes (frame_at octets counts place)) → new.earlier ≡ kept.earlier
      → Received octets counts (place + 1) old new (whole_of new)
  one_more before same none still end now clock happens earlier =
      let next : suc place ≡ place + 1 = omega arith in
      subst (λ n. Received octets counts n old new (whole_of new)) next (
        self,
        whole_of self,
        before,
        from_still self kept new (Ok tt) (Comes (frame_at octets counts place)) still end now clock happens,
        behind same none earlier,
      )

-- the same from a station that stood for as much
pub from_before : (octets counts : List ℕ) (n : ℕ) (old first new : Held) (w : Whole) → FitsStill old.station first.station → first.end ≡ old.end
    → IsClocked old first → Received octets counts n first new w → Received octets counts n old new w
from_before octets counts zero old first new w still end clocked r =
    ((λ c s fits. r.0 c s (still c s fits)), r.1 ∙ end, r.2, record { clock = r.3.clock ∙ clocked.clock; time = r.3.time ∙ clocked.time })
from_before octets counts (suc n) old first new w still end clocked r =
    (r.0, r.1, from_before octets counts n old first r.0 r.1 still end clocked r.2, r.3, r.4)

pub where_ok : {A E : Type 0} (r : Result A E) (P : Type 0) → is_err r ≡ false → OnOk r P → P
where_ok (Ok a) P good p = p
where_ok (Err e) P good p = absurd (true≢false good)

-- the octets of the frame that is next
pub its_octets : (octets counts : List ℕ) (place at n : ℕ) → at ≡ sum (take place counts) → n ≡ get_or counts place 0 → take (at + n - at) (drop at octets)
    ≡ frame_at octets counts place
its_octets octets counts place at n here long =
    let many : at + n - at ≡ n = omega arith in
    ap (λ m. take m (drop at octets)) (many ∙ long) ∙ ap (λ a. take (get_or counts place 0) (drop a octets)) here

pub sum_more : (counts : List ℕ) (place at : ℕ) → place < length counts → at ≡ sum (take place counts) → at + get_or counts place 0
    ≡ sum (take (place + 1) counts)
sum_more counts place at there here = ap (λ a. a + get_or counts place 0) here ∙ sym (sum_by_more (λ x. x) counts place 0 there)

module _ (octets counts : List ℕ) (place at : ℕ) (old self : Held) (there : place < length counts) (here : at ≡ sum (take place counts))
    (before : Received octets counts place old self (whole_of self)) where
  next_is : place + 1 ≡ suc place
  next_is = omega arith

  -- its octets aren't there
  pub ends_short : at ≤ length octets → length octets - at < get_or counts place 0 → self.passed ≡ None → ReceivesAll octets counts old self place 34
  unfolding ReceivesAll
  ends_short inside lacks passed = (
    self,
    before,
    (λ c s fits. fits),
    refl,
    inr (there, inl (refl, subst (λ n. length octets < sum (take n counts)) next_is (omega (arith, sum_more counts place at there here)))),
    record { clock = refl; time = refl },
    passed,
  )

  -- no memory for what was answered before
  pub ends_full : (kept : Held) → whole_of kept ≡ whole_of self → kept.station ≡ self.station → kept.end ≡ self.end → IsClocked self kept → kept.passed ≡ None
      → ReceivesAll octets counts old kept place 70
  unfolding ReceivesAll
  ends_full kept same station end clocked passed = (
    self,
    subst (Received octets counts place old self) (sym same) before,
    (λ c s fits. subst (λ v. FitsStation c v s) (sym station) fits),
    end,
    inr (there, inr refl),
    clocked,
    passed,
  )

-- all were taken
pub ends_all : (octets counts : List ℕ) (place : ℕ) (old self : Held) → place ≡ length counts → Received octets counts place old self (whole_of self)
    → self.passed ≡ None → ReceivesAll octets counts old self (length counts) 0
unfolding ReceivesAll
ends_all octets counts place old self all before passed = (
  self,
  subst (λ n. Received octets counts n old self (whole_of self)) all before,
  (λ c s fits. fits),
  refl,
  inl (refl, refl),
  record { clock = refl; time = refl },
  passed,
)
