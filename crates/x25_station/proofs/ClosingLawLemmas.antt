-- How a disconnect that is sent again ends.
use Rattle.x25_station.proofs.Names.{◌≡◌, ℕ, ◌+◌, ◌≤◌, List, [], ◌∷◌, ◌++◌, Bool, true, false, if◌then◌else◌, Option, Some, None, Result, Ok, Err, refl, sym, ap}
use Rattle.x25_station.proofs.Names.{ap₂, ◌∙◌, arith, suc, nat_lt, ltb-true, true≢false, LinkSettings, LinkStep, LinkStation, Phase, Closed, LinkError, PlainFrame}
use Rattle.x25_station.proofs.Names.{frame_of, other, take_step, timer_step, timer_runs, disconnect_step, awaits_end, disconnected, Closing, Asked, Ending}
use Rattle.x25_station.proofs.Names.{GivenUp, Settings, link_settings, entries_down, end_if, entries_ended, Station, Step, Outcome, Did, Refused, Reason}
use Rattle.x25_station.proofs.Names.{ends, fires, follows, led_by, receives, unless, StationError}
use Rattle.x25_frame.specs.{Frame.{ua, dm}, declared.error.FrameError.{FrameError}}
use Rattle.x25_link.specs.Station.{is_asked}
use Rattle.x25_link.specs.declared.phase.{Closing.TheVariants.{Unasked, Ended}, Ending.TheVariants.{ByUa, ByDm}}
use Rattle.x25_link.specs.laws.SetUp.{TakeCloses, TimerCloses, DisconnectCloses, closed_after, ended_by}
use Rattle.x25_station.proofs.{DownLemmas.{downs, timer_down, disconnect_down}, EndsLemmas.{awaits_closed}, TookLemmas.{closes_on}}
use Rattle.x25_link.specs.declared.error.LinkError.TheVariants as link_error
use Rattle.x25_station.specs.laws.ClosingLaw as law

awaits_asked : (p : Phase) (closing : Closing) → awaits_end p closing ≡ true → closing ≡ Asked
awaits_asked Closed Asked is = refl
awaits_asked p closing is = absurd (true≢false (sym is))

-- ---- the step of an accepted call

abbrev step_of : Step → Outcome → Step
step_of found (Did step) = step
step_of found (Refused e) = found

refused_did : (e : StationError) (step : Step) → Refused e ≡ Did step → ⊥
refused_did e step is = cc

did_is : (o : Option LinkError) (found step : Step) → unless o found ≡ Did step → found ≡ step
did_is None found step is = ap (step_of found) is
did_is (Some e) found step is = absurd (refused_did _ step is)

pub disconnect_awaited : DisconnectCloses → law.DisconnectIsAwaited
disconnect_awaited closes c s step wide is =
    let near : step.near.link ≡ disconnected c.wide =
    sym (ap (λ (x : Step). x.near.link) (did_is _ _ step is)) ∙ ap (λ (x : Step). x.near.link) (disconnect_down c s s.link)
    ∙ (closes (link_settings c) s.link).near in (
      ap (λ (z : LinkStation). awaits_end z.phase z.closing) near ∙ ap (λ (b : Bool). awaits_end Closed (if b then Asked else Unasked)) wide,
      ap (λ (z : LinkStation). z.tries) near,
    )

-- ---- what is awaited, and its end

module _ (c : Settings) (s : Station) (is : law.IsClosing s) where
  closed : s.link.phase ≡ Closed
  closed = awaits_closed s.link.phase s.link.closing is

  asked : s.link.closing ≡ Asked
  asked = awaits_asked s.link.phase s.link.closing is

  ended_at : (ending : Ending) (count : ℕ) (step : Step) → step.near.link ≡ ended_by ending s.link.closing s.link
      → step.entries ≡ entries_ended (end_if true (ended_by ending s.link.closing s.link).closing) ++ [] → law.Closes c s count step
  ended_at ending count step link entries =
      let near : step.near.link ≡ record s.link { closing = Ended ending } = link ∙ ap (λ (x : Closing). ended_by ending x s.link) asked in
      law.ends ending (ap (λ (z : LinkStation). z.phase) near ∙ closed) (ap (λ (z : LinkStation). z.closing) near)
      (entries ∙ ap (λ (x : Closing). entries_ended (end_if true (ended_by ending x s.link).closing) ++ []) asked)

  stays_at : (step : Step) → step.near.link ≡ s.link → step.entries ≡ entries_ended (end_if true s.link.closing) ++ [] → law.Closes c s 0 step
  stays_at step link entries =
      let tries = ap (λ (z : LinkStation). z.tries) link in
      law.awaits (ap (λ (z : LinkStation). awaits_end z.phase z.closing) link ∙ is) (omega (arith, tries)) (λ one. absurd (omega (arith, one)))
      (entries ∙ ap (λ (x : Closing). entries_ended (end_if true x) ++ []) asked)

  pub hearing_closes : TakeCloses → (octets : List ℕ) → law.Closes c s 0 (receives c s octets)
  hearing_closes closes octets = by read link entries
    where
      step : Step
      step = receives c s octets

      k : LinkStep
      k = take_step (link_settings c) octets s.link

      read : Result PlainFrame FrameError
      read = frame_of (other c.role) (link_settings c).longest octets

      shape : step ≡ led_by (entries_ended (end_if true k.side.near.closing)) (downs s k.side k.notes.down)
      shape = closes_on closes c s octets is

      link : step.near.link ≡ closed_after read s.link
      link = ap (λ (x : Step). x.near.link) shape ∙ (closes (link_settings c) octets s.link closed read refl).near

      entries : step.entries ≡ entries_ended (end_if true (closed_after read s.link).closing) ++ []
      entries =
          let row = closes (link_settings c) octets s.link closed read refl in
          ap (λ (x : Step). x.entries) shape
          ∙ ap₂ (λ (x : LinkStation) (d : Option Reason). entries_ended (end_if true x.closing) ++ entries_down d) row.near row.down

      by : (r : Result PlainFrame FrameError) → step.near.link ≡ closed_after r s.link
          → step.entries ≡ entries_ended (end_if true (closed_after r s.link).closing) ++ [] → law.Closes c s 0 step
      by (Ok (ua true)) near told = ended_at ByUa 0 step near told
      by (Ok (dm true)) near told = ended_at ByDm 0 step near told
      by r near told = stays_at step near told

  pub firing_closes : TimerCloses → (step : Step) → fires c s ≡ Did step → law.Closes c s 1 step
  firing_closes closes step did = by (nat_lt s.link.tries c.retries) refl (link, entries)
    where
      After : Bool → LinkStation
      After b = if b then record s.link { tries = suc s.link.tries } else ended_by GivenUp s.link.closing s.link

      k : LinkStep
      k = timer_step (link_settings c) s.link

      shape : led_by (entries_ended (end_if true k.side.near.closing)) (downs s k.side k.notes.down) ≡ step
      shape =
          sym (ap (λ (b : Bool). led_by (entries_ended (end_if b k.side.near.closing)) (follows c s k)) is
          ∙ ap (λ (x : Step). led_by (entries_ended (end_if true k.side.near.closing)) x) (timer_down c s s.link)) ∙ did_is _ _ step did

      link : step.near.link ≡ After (nat_lt s.link.tries c.retries)
      link = sym (ap (λ (x : Step). x.near.link) shape) ∙ (closes (link_settings c) s.link closed).near

      entries : step.entries ≡ entries_ended (end_if true (After (nat_lt s.link.tries c.retries)).closing) ++ []
      entries =
          let row = closes (link_settings c) s.link closed in
          sym (ap (λ (x : Step). x.entries) shape)
          ∙ ap₂ (λ (x : LinkStation) (d : Option Reason). entries_ended (end_if true x.closing) ++ entries_down d) row.near row.down

      by : (b : Bool) → nat_lt s.link.tries c.retries ≡ b
          → (step.near.link ≡ After b) × (step.entries ≡ entries_ended (end_if true (After b).closing) ++ []) → law.Closes c s 1 step
      by true few after =
          let tries = ap (λ (z : LinkStation). z.tries) after.0 in
          let low = ltb-true _ _ few in
          law.awaits (ap (λ (z : LinkStation). awaits_end z.phase z.closing) after.0 ∙ is) (omega (arith, tries)) (λ one. omega (arith, tries, low))
          (after.1 ∙ ap (λ (x : Closing). entries_ended (end_if true x) ++ []) asked)
      by false few after = ended_at GivenUp 1 step after.0 after.1

  pub firing_accepted : (step : Step) × (fires c s ≡ Did step)
  firing_accepted =
      let step : Step = ends c s (timer_step (link_settings c) s.link) in
      let runs : timer_runs s.link.phase s.link ≡ true = ap (λ (p : Phase). timer_runs p s.link) closed ∙ ap is_asked asked in
      (step, ap (λ (b : Bool). unless (if b then None else Some link_error.NotRunning) step) runs)
