use Rattle.x25_station.proofs.Names.{refl, arith, [], ◌∷◌, ◌++◌, ap, ◌∙◌, Restarts, layer_settings, restart_asked, Outcome, requests}
use Rattle.x25_station.proofs.{AskLemmas.{answers, refuses, still_fits}, DoesLemmas.{did_request, declines_request}, EnteredLemmas.{restart_enters}}
use Rattle.x25_station.proofs.{OutcomeLemmas.{leaves_some, still_meant}, PullLemmas.{goes_on, never_lacks}, TakeLemmas.{takes_longest, has_places}}
use Rattle.x25_station.proofs.Names.{ℕ, subst, sym, FitsParts}
use Rattle.x25_station.specs.declared.step.Step as code_step
use Rattle.x25_station.proofs.station.Station.restart.Goals as goal

pub restart-requires-clause-longest : goal.restart-requires-clause-longest
restart-requires-clause-longest c = takes_longest c.args.self.now.link c.args.self.now.layer c.args.self.now.meant

pub restart-requires-clause-places : goal.restart-requires-clause-places
restart-requires-clause-places c = has_places c.args.self.now.link c.args.self.now.layer c.args.self.now.meant

pub invariant_of-self : goal.invariant_of-self
invariant_of-self c = record {
  meant = still_meant _ _ _ _ c.args.self.now.meant (λ c' s fits.
      let request = Restarts c.args.cause c.args.diagnostic in
      let a = answers c.in-Ok.field-0 c' _ c.restart.new.link c.swap_frames.new.self _ c.restart.new.layer
      (record { frames = c.swap_frames.new.frames; entries = c.push.new.self; timer = c.args.out.now.timer }) s request fits
      c.in-Ok.ensures.layer c.in-Ok.ensures.link c.in-Ok.ensures.turns (ap (λ l. l.station) c.swap_frames.ensures.link)
      (ap (λ l. l.frames) c.swap_frames.ensures.link ∙ c.requires.frames) c.swap_frames.ensures.frames
      refl (c.steps_keep_bounds.ensures.request c' s request fits.kept) in
      leaves_some c' _ _ _ (requests c' s request) a.state a.refused);
}

pub invariant_of-self-in-Err-1 : goal.invariant_of-self-in-Err-1
invariant_of-self-in-Err-1 c = record {
  meant = still_meant _ _ _ _ c.args.self.now.meant (λ c' s fits. (
    c',
    s,
    subst (λ (at : ℕ). FitsParts c' c.args.self.now.manner c.restart.new.link c.restart.new.layer at s) (sym c.in-Err.ensures.turn_stays)
        (still_fits c' c.args.self.now.link c.restart.new.link _ c.restart.new.layer s fits
        (c.in-Err.ensures.layer_stays (layer_settings c') s.layer fits.layer) c.in-Err.ensures.link_stays),
  ));
}

pub returns-in-Ok-clause-does : goal.returns-in-Ok-clause-does
returns-in-Ok-clause-does c =
    let request = Restarts c.args.cause c.args.diagnostic in
    let r : code_step.Step = record { frames = c.swap_frames.new.frames; entries = c.push.new.self; timer = c.args.out.now.timer } in
    did_request c.in-Ok.field-0 c.args.self.now _ c.restart.new.link r request c.in-Ok.ensures.layer c.in-Ok.ensures.link c.in-Ok.ensures.turns
    (ap (λ l. l.station) c.swap_frames.ensures.link) (ap (λ l. l.frames) c.swap_frames.ensures.link ∙ c.requires.frames) c.swap_frames.ensures.frames
    c.steps_keep_bounds.ensures.request c.holds_few.ensures.window c.holds_few.ensures.stand
    (λ c' s fits. refl)
    (λ c' s fits.
    restart_enters c' s c.args.cause c.args.diagnostic r
    (c.push.ensures ∙ ap (λ es. es ++ restart_asked c.args.cause c.args.diagnostic ∷ []) c.requires.entries))
    refl

pub returns-in-Err-clause-does : goal.returns-in-Err-clause-does
returns-in-Err-clause-does c = declines_request _ c.in-Err.error _ c.args.self.now _ _ (Restarts c.args.cause c.args.diagnostic) c.of_layer.ensures
    c.in-Err.ensures.layer c.in-Err.ensures.layer_stays c.in-Err.ensures.link_stays c.in-Err.ensures.turn_stays c.requires refl (λ c' s fits. refl)

pub returns-in-Ok-clause-only : goal.returns-in-Ok-clause-only
returns-in-Ok-clause-only c = λ c' s fits.
    let o : Outcome = requests c' s (Restarts c.args.cause c.args.diagnostic) in
    goes_on o ((returns-in-Ok-clause-does c).refused c' s fits)

pub returns-in-Err-clause-only : goal.returns-in-Err-clause-only
returns-in-Err-clause-only c = λ c' s fits.
    let request = Restarts c.args.cause c.args.diagnostic in
    never_lacks _ c.in-Err.error (requests c' s request) c.of_layer.ensures c.in-Err.ensures.missing
    (refuses _ Unit c.in-Err.error _ c' c.args.self.now.link c.args.self.now.layer c.restart.new.layer s request fits c.of_layer.ensures c.in-Err.ensures.layer)
