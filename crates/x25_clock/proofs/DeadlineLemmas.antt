-- Deadlines: none is past where the next moment isn't, and one stands so long before a moment.
use Rattle.x25_clock.proofs.Names.{◌≡◌, ℕ, ◌+◌, ◌^◌, ◌<◌, ◌≤◌, ◌==◌, List, [], ◌∷◌, Bool, true, false, nat_le, if◌then◌else◌, Option, Some, None, refl, sym, ap}
use Rattle.x25_clock.proofs.Names.{subst, ◌∙◌, arith, eqb-true, leb-true, Due, Wait, Deadlines, deadline, sooner, first_of, next_of, running, IsNotPast, IsSince}
use Rattle.std.proofs.{Common.{nat_lt}, lemmas.Bool.{leb-false, lt-ltb}}
use Rattle.x25_clock.specs.declared.due.Due.TheVariants as due

-- ---- no deadline is past where the next moment isn't

pub past_first : (now : ℕ) (a b : Option ℕ) → IsNotPast now (sooner a b) → IsNotPast now a
past_first now None b h = tt
past_first now (Some x) None h = h
past_first now (Some x) (Some y) h = test (nat_le x y) refl h
  where
    test : (b : Bool) → nat_le x y ≡ b → IsNotPast now (if b then Some x else Some y) → now ≤ x
    test true is h = h
    test false is h = let low : y < x = leb-false x y is in omega (arith, low, h)

pub past_second : (now : ℕ) (a b : Option ℕ) → IsNotPast now (sooner a b) → IsNotPast now b
past_second now None b h = h
past_second now (Some x) None h = tt
past_second now (Some x) (Some y) h = test (nat_le x y) refl h
  where
    test : (b : Bool) → nat_le x y ≡ b → IsNotPast now (if b then Some x else Some y) → now ≤ y
    test true is h = let low : x ≤ y = leb-true x y is in omega (arith, low, h)
    test false is h = h

abbrev pub AreNotPast : ℕ → List Wait → Type 0
AreNotPast now [] = Unit {0}
AreNotPast now (w ∷ ws) = IsNotPast now w.until × IsNotPast now w.rotates × AreNotPast now ws

pub first_past : (now : ℕ) (ws : List Wait) (first : Option ℕ) → IsNotPast now (first_of first ws) → IsNotPast now first
first_past now [] first h = h
first_past now (w ∷ ws) first h =
    past_first now first w.until (past_first now (sooner first w.until) w.rotates (first_past now ws (sooner (sooner first w.until) w.rotates) h))

pub waits_past : (now : ℕ) (ws : List Wait) (first : Option ℕ) → IsNotPast now (first_of first ws) → AreNotPast now ws
waits_past now [] first h = tt
waits_past now (w ∷ ws) first h =
    let answered : Option ℕ = sooner first w.until in
    let both : IsNotPast now (sooner answered w.rotates) = first_past now ws (sooner answered w.rotates) h in (
      past_second now first w.until (past_first now answered w.rotates both),
      past_second now answered w.rotates both,
      waits_past now ws (sooner answered w.rotates) h,
    )

pub restart_past : (now : ℕ) (d : Deadlines) → IsNotPast now (next_of d) → IsNotPast now d.restart
restart_past now d h = past_second now (sooner d.t1 d.idle) d.restart (first_past now d.waits (sooner (sooner d.t1 d.idle) d.restart) h)

-- what a moment is due for
abbrev pub or_t1 : Option Due → Due
or_t1 None = due.T1
or_t1 (Some what) = what

-- ---- a moment that isn't too late

pub some_deadline : (now time : ℕ) → 0 < time → now + time < 2 ^ 64 → deadline now time ≡ Some (now + time)
some_deadline now time set small =
    ap (λ (b : Bool). if b then None else if nat_lt (now + time) (2 ^ 64) then Some (now + time) else None) (is_set (time == 0) refl)
    ∙ ap (λ (b : Bool). if b then Some (now + time) else None) (lt-ltb (now + time) (2 ^ 64) small)
  where
    is_set : (b : Bool) → (time == 0) ≡ b → (time == 0) ≡ false
    is_set true is = let e : time ≡ 0 = eqb-true time 0 is in absurd (omega (arith, e, set))
    is_set false is = is

-- a deadline stands, and so long after it isn't beyond a moment
abbrev pub Ends : ℕ → Option ℕ → ℕ → Type 0
Ends bound None more = ⊥
Ends bound (Some moment) more = moment + more ≤ bound

pub begins_at : (bound : ℕ) → bound < 2 ^ 64 → (now time more : ℕ) → 0 < time → now + (time + more) ≤ bound → Ends bound (deadline now time) more
begins_at bound small now time more positive late =
    let low : now + time < 2 ^ 64 = omega (arith, late, small) in
    let sum : (now + time) + more ≤ bound = omega (arith, late) in
    subst (λ (o : Option ℕ). Ends bound o more) (sym (some_deadline now time positive low)) sum

pub end_in_time : (bound now : ℕ) (o : Option ℕ) (more : ℕ) → Ends bound o more → IsNotPast now o → now + more ≤ bound
end_in_time bound now None more ends past = absurd ends
end_in_time bound now (Some moment) more ends past = omega (arith, ends, past)

-- of something that has lasted since a moment
pub ends_by : (bound now time more : ℕ) (until : Option ℕ) → (few : bound < 2 ^ 64) → 0 < time → now + (time + more) ≤ bound → IsSince now time until
    → Ends bound until more
ends_by bound now time more until few positive low since =
    let past : since.since ≤ now = since.past in
    subst (λ (o : Option ℕ). Ends bound o more) (sym since.is) (begins_at bound few since.since time more positive (omega (arith, low, past)))

-- one that goes on
pub runs_still : (bound more : ℕ) (until new : Option ℕ) → Ends bound until more → Ends bound (running true false until new) more
runs_still bound more None new ends = absurd ends
runs_still bound more (Some moment) new ends = ends
