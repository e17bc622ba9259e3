-- What timer T1 does behind a step.
use Rattle.x25_station.proofs.Names.{◌≡◌, ◌⊎◌, inl, inr, ◌∙◌, ◌+◌, ◌<◌, ◌≤◌, ℕ, Bool, true, false, List, [], length, drop, map, Result, Ok, Err, OnErr, ap, sym}
use Rattle.x25_station.proofs.Names.{refl, arith, OnOk, le-ltb, is_ok, LinkStation, Reason, Settings, StationEntry, Station, Step, Outcome, Did, Refused}
use Rattle.x25_station.proofs.Names.{is_acknowledged, tells_link, runs, is_anew, is_of_link, timer_of, pulled_timer, FitsStation, Does, Enters, Leaves}
use Rattle.std.{proofs.Common.{get_or}, proofs.lemmas.List.{at_drop_more, drop_all}, specs.Prelude.{not, ◌||◌}}
use Rattle.x25_station.{proofs.Names.{plain_entry, Entry, StationError, Lent, Timer}, proofs.TimerLemmas.{HearsNone}, specs.Timer.{standing, timer_at}}
use Rattle.x25_station.specs.{code.Clock.{IsTimer}, code.FitsStation.{Refuses}, declared.timer.Timer.TheVariants.{GoesOn}}
use Rattle.x25_station.specs.declared.entry.Entry.TheVariants as code_entry
use Rattle.x25_station.specs.declared.station.Station as code
use Rattle.x25_station.specs.declared.step.Step as code_step

-- among some entries the link came up or went down
abbrev pub up : Lent → List Entry → Bool
up lent entries = tells_link (map (plain_entry lent) entries)

module _ (lent : Lent) (entries : List Entry) (i : ℕ) (d : Entry) (inside : i < length entries)
    (all : Bool) (same : up lent (drop i entries) ≡ all) where
  next : (b : Bool) → is_of_link (plain_entry lent (get_or entries i d)) ≡ b → (b || up lent (drop (i + 1) entries)) ≡ all
  next b e = ap (λ b. b || up lent (drop (i + 1) entries)) (sym e) ∙ sym (at_drop_more (up lent) entries i d inside) ∙ same

  pub link_here : is_of_link (plain_entry lent (get_or entries i d)) ≡ true → true ≡ all
  link_here e = next true e

  pub link_behind : is_of_link (plain_entry lent (get_or entries i d)) ≡ false → up lent (drop (i + 1) entries) ≡ all
  link_behind e = next false e

pub link_nowhere : (lent : Lent) (entries : List Entry) (i : ℕ) (all : Bool) → length entries ≤ i → up lent (drop i entries) ≡ all → false ≡ all
link_nowhere lent entries i all behind same = sym (ap (up lent) (drop_all i entries behind)) ∙ same

pub of_link : (lent : Lent) (e : Entry) → (e ≡ code_entry.LinkUp) ⊎ ((reason : Reason) × (e ≡ code_entry.LinkDown reason))
    → is_of_link (plain_entry lent e) ≡ true
of_link lent e (inl up) = ap (λ e. is_of_link (plain_entry lent e)) up
of_link lent e (inr down) = ap (λ e. is_of_link (plain_entry lent e)) down.1

pub not_of_link : (lent : Lent) (e : Entry) → (e ≡ code_entry.LinkUp → ⊥) → ((reason : Reason) → e ≡ code_entry.LinkDown reason → ⊥)
    → is_of_link (plain_entry lent e) ≡ false
not_of_link lent code_entry.LinkUp up down = absurd (up refl)
not_of_link lent (code_entry.LinkDown reason) up down = absurd (down reason refl)
not_of_link lent e up down = refl

-- ---- what a call answers

-- whether it begins anew, by what the code has of it
pub anew_by : (fired : Bool) (s : Station) (step : Step) (ran told acked : Bool) (entries : List StationEntry) → ran ≡ runs s → entries ≡ step.entries
    → told ≡ tells_link entries → acked ≡ is_acknowledged s.link step.near.link
    → (not ran || (fired || (told || acked))) ≡ is_anew s fired step
anew_by fired s step ran told acked entries r e t a =
    ap (λ b. not b || (fired || (told || acked))) r ∙ ap (λ b. not (runs s) || (fired || (b || acked))) (t ∙ ap tells_link e)
    ∙ ap (λ b. not (runs s) || (fired || (tells_link step.entries || b))) a

-- a step that does nothing leaves T1 as it was
abbrev none : Station → Step
none s = record { near = s; out = []; entries = [] }

unmoved : (runs more : Bool) → more ≡ false → timer_of runs (not runs || (false || (false || more))) ≡ timer_of runs false
unmoved false more is = refl
unmoved true more is = ap (timer_of true) is

same_acked : (s : LinkStation) → is_acknowledged s s ≡ false
same_acked s = le-ltb _ _ (omega arith)

pub goes_on : (runs : Bool) → pulled_timer GoesOn true runs ≡ timer_of runs false
goes_on true = refl
goes_on false = refl

stands : (s : Station) → timer_at s false (Did (none s)) ≡ standing s
stands s = unmoved (runs s) _ (same_acked s.link)

module _ (c : Settings) (s : Station) (mid new : code.Station) (out : code_step.Step) (t : Timer) (fits : FitsStation c mid s) where
  accepted : (has_fired : Bool) (o : Outcome) → HearsNone s o
      → ((step : Step) → FitsStation c new step.near → out.entries.items ≡ step.entries → false ≡ is_acknowledged s.link step.near.link → t
      ≡ timer_at s has_fired (Did step))
      → Leaves {T = Unit} c new (Ok tt) o → Enters {T = Unit} out (Ok tt) o → Refuses {T = Unit} (Ok tt) o → t ≡ timer_at s has_fired o
  accepted has_fired (Did step) quiet h leaves enters none = h step leaves enters (sym quiet)
  accepted has_fired (Refused e) quiet h leaves enters none = absurd none

  pub timed : (result : Result Unit StationError) (said : Settings → Station → Outcome) (fired has_fired : Bool) → Does mid new out result said
      → OnOk result (fired ≡ has_fired) → OnErr result (fired ≡ false) → HearsNone s (said c s)
      → ((step : Step) → FitsStation c new step.near → out.entries.items ≡ step.entries → false ≡ is_acknowledged s.link step.near.link → t
      ≡ timer_at s fired (Did step)) → IsTimer s has_fired t result (said c s)
  timed (Ok u) said fired has_fired d is not_fired quiet h =
      accepted has_fired (said c s) quiet (λ step near entries more. h step near entries more ∙ ap (λ b. timer_at s b (Did step)) is) (d.state c s fits)
      (d.entries c s fits) (d.refused c s fits)
  timed (Err e) said fired has_fired d is not_fired quiet h =
      h (none s) (d.stays c s fits) d.empty.entries (sym (same_acked s.link)) ∙ ap (λ b. timer_at s b (Did (none s))) not_fired
      ∙ stands s

-- ---- whether T1 fired

pub always : {E P : Type 0} (r : Result Unit E) → P → OnOk r P
always (Ok u) p = p
always (Err e) p = tt

pub not_ever : {E P : Type 0} (r : Result Unit E) → P → OnErr r P
not_ever (Ok u) p = tt
not_ever (Err e) p = p

pub ok_fired : {E : Type 0} (r : Result Unit E) (b : Bool) → b ≡ is_ok r → OnOk r (b ≡ true)
ok_fired (Ok u) b is = is
ok_fired (Err e) b is = tt

pub err_fired : {E : Type 0} (r : Result Unit E) (b : Bool) → b ≡ is_ok r → OnErr r (b ≡ false)
err_fired (Ok u) b is = tt
err_fired (Err e) b is = is
