-- What leads on where the other end doesn't answer.
use Rattle.x25_station.proofs.Names.{awaits_end, end_if, entries_ended}
use Rattle.x25_station.proofs.Names.{◌≡◌, zero, suc, [], ◌∷◌, Bool, true, false, if◌then◌else◌, nat_lt, Option, Some, None, refl, sym, ap, ◌∙◌, arith}
use Rattle.x25_station.proofs.Names.{true≢false, lt-ltb, le-ltb, LinkStep, timer_runs, timer_step, relink_refusal, relink_step, LinkStation, Side, is_up}
use Rattle.x25_station.proofs.Names.{with_nothing, LinkError, Phase, Down, Waiting, Up, Retries, RelinkIsTwoSteps, Settings, link_settings, relink_asked}
use Rattle.x25_link.specs.laws.SetUp.{ConnectWaits, TimerWaits}
use Rattle.x25_station.proofs.{DownLemmas.{relink_down, timer_down}, Names.{entries_down, Station, Step, Did, unless, follows, led_by, fires}}
use Rattle.x25_station.specs.laws.WayOutLaw.{RelinkLeadsOn, once, again, FiringLeadsOn}
use Rattle.x25_link.specs.declared.error.LinkError.TheVariants as error

refused_none : (p : Phase) → is_up p ≡ true → relink_refusal p ≡ None
refused_none Up e = refl
refused_none p e = absurd (true≢false (sym e))

pub relink_leads_on : ConnectWaits → RelinkIsTwoSteps → RelinkLeadsOn
relink_leads_on connects two c s up =
    let lc = link_settings c in
    let k : LinkStep = relink_step lc s.link in
    let step : Step = led_by (relink_asked ∷ []) (follows c s k) in
    let down = relink_down c s s.link in
    let waits = connects lc (with_nothing Down s.link.tries) refl in
    let near : step.near.link ≡ record (with_nothing Down s.link.tries) { phase = Waiting; tries = 0 } =
    ap (λ (x : Step). x.near.link) down ∙ ap (λ (t : Side). t.near) (two lc s.link).connected ∙ waits.near in (
      step,
      ap (λ (r : Option LinkError). unless r step) (refused_none s.link.phase up),
      record {
        phase = ap (λ (x : LinkStation). x.phase) near;
        tries = ap (λ (x : LinkStation). x.tries) near;
        layer = ap (λ (x : Step). x.near.layer) down;
        entries = ap (λ (x : Step). relink_asked ∷ x.entries) down;
      },
    )

-- ---- while UA is awaited

-- the step of a firing
module _ (timer : TimerWaits) (c : Settings) (s : Station) (waits : s.link.phase ≡ Waiting) where
  abbrev k : LinkStep
  k = timer_step (link_settings c) s.link

  abbrev fired_step : Step
  fired_step = follows c s k

  accepted : fires c s ≡ Did fired_step
  accepted = ap (λ (p : Phase). let r : Bool = timer_runs p s.link in
      unless (if r then None else Some error.NotRunning)
      (led_by (entries_ended (end_if (awaits_end p s.link.closing) k.side.near.closing)) fired_step)) waits

  near_is : fired_step.near.link ≡ (if nat_lt s.link.tries c.retries then record s.link { tries = suc s.link.tries } else with_nothing Down s.link.tries)
  near_is = ap (λ (x : Step). x.near.link) (timer_down c s s.link) ∙ (timer (link_settings c) s.link waits).near

  entries_are : fired_step.entries ≡ entries_down (if nat_lt s.link.tries c.retries then None else Some Retries)
  entries_are = ap (λ (x : Step). x.entries) (timer_down c s s.link) ∙ ap entries_down (timer (link_settings c) s.link waits).down

pub firing_leads_on : TimerWaits → FiringLeadsOn
firing_leads_on timer c zero s waits all =
    let last : nat_lt s.link.tries c.retries ≡ false = le-ltb _ _ (omega (arith, all)) in
    record {
      last = fired_step timer c s waits;
      fired = once s (fired_step timer c s waits) (accepted timer c s waits);
      down = ap (λ (x : LinkStation). x.phase)
          (near_is timer c s waits ∙ ap (λ (b : Bool). if b then record s.link { tries = suc s.link.tries } else with_nothing Down s.link.tries) last);
      entries = entries_are timer c s waits ∙ ap (λ (b : Bool). entries_down (if b then None else Some Retries)) last;
    }
firing_leads_on timer c (suc n) s waits all =
    let step : Step = fired_step timer c s waits in
    let more : nat_lt s.link.tries c.retries ≡ true = lt-ltb _ _ (omega (arith, all)) in
    let near : step.near.link ≡ record s.link { tries = suc s.link.tries } =
    near_is timer c s waits ∙ ap (λ (b : Bool). if b then record s.link { tries = suc s.link.tries } else with_nothing Down s.link.tries) more in
    let tries = ap (λ (x : LinkStation). x.tries) near in
    let rest = firing_leads_on timer c n step.near (ap (λ (x : LinkStation). x.phase) near ∙ waits) (omega (arith, tries, all)) in
    record {
      last = rest.last;
      fired = again (suc n) s step rest.last (accepted timer c s waits) rest.fired;
      down = rest.down;
      entries = rest.entries;
    }
