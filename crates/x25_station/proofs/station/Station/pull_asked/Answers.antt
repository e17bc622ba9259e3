use Rattle.x25_station.proofs.{AskLemmas.{answers, refuses, still_fits}, DoesLemmas.{did_request, declines_request}, EnteredLemmas.{pull_enters}}
use Rattle.x25_station.proofs.{Names.{arith, refl, ap, ◌∙◌, PullsAll, layer_settings, requests}, OutcomeLemmas.{leaves_some, still_meant}}
use Rattle.x25_station.proofs.{PullLemmas.{goes_on, never_lacks}, TakeLemmas.{takes_longest, has_places}}
use Rattle.x25_station.proofs.Names.{ℕ, subst, sym, FitsParts}
use Rattle.x25_station.specs.declared.step.Step as code_step
use Rattle.x25_station.proofs.station.Station.pull_asked.Goals as goal

pub pull-requires-clause-longest : goal.pull-requires-clause-longest
pull-requires-clause-longest c = takes_longest c.args.self.now.link c.args.self.now.layer c.args.self.now.meant

pub pull-requires-clause-places : goal.pull-requires-clause-places
pull-requires-clause-places c = let p = has_places c.args.self.now.link c.args.self.now.layer c.args.self.now.meant in omega (arith, p)

pub invariant_of-self : goal.invariant_of-self
invariant_of-self c = record {
  meant = still_meant _ _ _ _ c.args.self.now.meant (λ c' s fits.
      let request = PullsAll in
      let a = answers c.in-Ok.field-0 c' _ c.pull.new.link c.swap_frames.new.self _ c.pull.new.layer
      (record { frames = c.swap_frames.new.frames; entries = c.args.out.now.entries; timer = c.args.out.now.timer }) s request fits
      c.in-Ok.ensures.layer c.in-Ok.ensures.link c.in-Ok.ensures.turns (ap (λ l. l.station) c.swap_frames.ensures.link)
      (ap (λ l. l.frames) c.swap_frames.ensures.link ∙ c.requires.frames) c.swap_frames.ensures.frames
      refl (c.steps_keep_bounds.ensures.request c' s request fits.kept) in
      leaves_some c' _ _ _ (requests c' s request) a.state a.refused);
}

pub invariant_of-self-in-Err-1 : goal.invariant_of-self-in-Err-1
invariant_of-self-in-Err-1 c = record {
  meant = still_meant _ _ _ _ c.args.self.now.meant (λ c' s fits. (
    c',
    s,
    subst (λ (at : ℕ). FitsParts c' c.args.self.now.manner c.pull.new.link c.pull.new.layer at s) (sym c.in-Err.ensures.turn_stays)
        (still_fits c' c.args.self.now.link c.pull.new.link _ c.pull.new.layer s fits
        (c.in-Err.ensures.layer_stays (layer_settings c') s.layer fits.layer) c.in-Err.ensures.link_stays),
  ));
}

pub returns-in-Ok-clause-does : goal.returns-in-Ok-clause-does
returns-in-Ok-clause-does c =
    let request = PullsAll in
    let r : code_step.Step = record { frames = c.swap_frames.new.frames; entries = c.args.out.now.entries; timer = c.args.out.now.timer } in
    did_request c.in-Ok.field-0 c.args.self.now _ c.pull.new.link r request c.in-Ok.ensures.layer c.in-Ok.ensures.link c.in-Ok.ensures.turns
    (ap (λ l. l.station) c.swap_frames.ensures.link) (ap (λ l. l.frames) c.swap_frames.ensures.link ∙ c.requires.frames) c.swap_frames.ensures.frames
    c.steps_keep_bounds.ensures.request c.holds_few.ensures.window c.holds_few.ensures.stand
    (λ c' s fits. refl)
    (λ c' s fits.
    pull_enters c' s r c.requires.entries)
    refl

pub returns-in-Err-clause-does : goal.returns-in-Err-clause-does
returns-in-Err-clause-does c = declines_request _ c.in-Err.error _ c.args.self.now _ _ PullsAll c.of_layer.ensures c.in-Err.ensures.layer
    c.in-Err.ensures.layer_stays c.in-Err.ensures.link_stays c.in-Err.ensures.turn_stays c.requires refl (λ c' s fits. refl)

pub returns-in-Ok-clause-only : goal.returns-in-Ok-clause-only
returns-in-Ok-clause-only c = λ c' s fits. goes_on (requests c' s PullsAll) ((returns-in-Ok-clause-does c).refused c' s fits)

pub returns-in-Err-clause-only : goal.returns-in-Err-clause-only
returns-in-Err-clause-only c = λ c' s fits.
    never_lacks _ c.in-Err.error (requests c' s PullsAll) c.of_layer.ensures c.in-Err.ensures.missing
    (refuses _ Unit c.in-Err.error _ c' c.args.self.now.link c.args.self.now.layer c.pull.new.layer s PullsAll fits c.of_layer.ensures c.in-Err.ensures.layer)
