use Rattle.x25_station.proofs.DriveLemmas.{judged_for}
use Rattle.x25_station.proofs.EitherLemmas.{allowed_asked, meant_asked, did_asked, enters_dialled, declines_first, declines_then, declines_last, meant_declined}
use Rattle.x25_station.proofs.{GivingLemmas.{none_of}, Names.{Some, None, refl, ap, ◌∙◌, sym, given_with, Dials, layer_settings}}
use Rattle.x25_station.proofs.TakeLemmas.{takes_longest, has_places}
use Rattle.x25_station.specs.declared.step.Step as code_step
use Rattle.x25_station.proofs.station.Station.dial.Goals as goal

pub returns-then-not-may_dial : goal.returns-then-not-may_dial
returns-then-not-may_dial c = record {
  does = declines_then (given_with c.args.given) c.args.self.now _ _ (Dials c.args.called.now c.args.calling.now c.args.user.now c.args.proposal.now)
      (judged_for c.state.result c.args.self.now.link c.args.self.now.layer (Dials c.args.called.now c.args.calling.now c.args.user.now c.args.proposal.now)
      None (record { up = c.state.ensures.up; full = c.state.ensures.waits })
      (λ d k fits. sym (none_of c.call_refusal.result c.in_default.not-Some) ∙ c.call_refusal.ensures d k fits))
      (sym (c.may_dial.ensures c.args.called.now c.args.calling.now c.args.user.now c.args.proposal.now) ∙ c.if-not-may_dial.true)
      (λ c' s fits. fits) c.requires;
}

pub returns-in-Some : goal.returns-in-Some
returns-in-Some c = record {
  does = declines_first (given_with c.args.given) _ c.in-Some.error c.args.self.now _ _
      (Dials c.args.called.now c.args.calling.now c.args.user.now c.args.proposal.now) c.of_layer.ensures
      (judged_for c.state.result c.args.self.now.link c.args.self.now.layer (Dials c.args.called.now c.args.calling.now c.args.user.now c.args.proposal.now)
      (Some c.in-Some.error) (record { up = c.state.ensures.up; full = c.state.ensures.waits })
      (λ d k fits. sym c.in-Some.is ∙ c.call_refusal.ensures d k fits)) (λ c' s fits. fits) c.requires;
}

pub call-requires-clause-allowed : goal.call-requires-clause-allowed
call-requires-clause-allowed c = allowed_asked c.args.self.now.manner.wide (given_with c.args.given)
    (Dials c.args.called.now c.args.calling.now c.args.user.now c.args.proposal.now)
    (sym (c.may_dial.ensures c.args.called.now c.args.calling.now c.args.user.now c.args.proposal.now) ∙ c.if-not-may_dial.false)

pub call-requires-clause-longest : goal.call-requires-clause-longest
call-requires-clause-longest c = takes_longest c.args.self.now.link c.args.self.now.layer c.args.self.now.meant

pub call-requires-clause-places : goal.call-requires-clause-places
call-requires-clause-places c = has_places c.args.self.now.link c.args.self.now.layer c.args.self.now.meant

pub invariant_of-self-in-Ok : goal.invariant_of-self-in-Ok
invariant_of-self-in-Ok c = record {
  meant = meant_asked c.in-Ok.channel (given_with c.args.given) c.args.self.now.link c.call.new.link c.swap_frames.new.self c.args.self.now.layer
      c.call.new.layer (record { frames = c.swap_frames.new.frames; entries = c.enter_asked.new.entries; timer = c.args.out.now.timer })
      (Dials c.args.called.now c.args.calling.now c.args.user.now c.args.proposal.now) c.args.self.now.meant c.in-Ok.ensures.does
      (ap (λ l. l.station) c.swap_frames.ensures.link) (ap (λ l. l.frames) c.swap_frames.ensures.link ∙ c.requires.frames) c.swap_frames.ensures.frames
      c.steps_keep_bounds.ensures.request c.steps_keep_bounds.ensures.given
      (sym (c.may_dial.ensures c.args.called.now c.args.calling.now c.args.user.now c.args.proposal.now) ∙ c.if-not-may_dial.false);
}

pub invariant_of-self-in-Err-1 : goal.invariant_of-self-in-Err-1
invariant_of-self-in-Err-1 c = record {
  meant = meant_declined _ (given_with c.args.given) c.in-Err.error c.args.self.now.manner c.args.self.now.link c.call.new.link c.args.self.now.layer
      c.call.new.layer (Dials c.args.called.now c.args.calling.now c.args.user.now c.args.proposal.now) c.args.self.now.meant c.in-Err.ensures.does;
}

pub returns-in-Ok : goal.returns-in-Ok
returns-in-Ok c = record {
  does =
      let request = Dials c.args.called.now c.args.calling.now c.args.user.now c.args.proposal.now in
      let r : code_step.Step = record { frames = c.swap_frames.new.frames; entries = c.enter_asked.new.entries; timer = c.args.out.now.timer } in
      did_asked c.in-Ok.channel (given_with c.args.given) c.args.self.now _ c.call.new.link r request c.in-Ok.ensures.does
      (ap (λ l. l.station) c.swap_frames.ensures.link) (ap (λ l. l.frames) c.swap_frames.ensures.link ∙ c.requires.frames) c.swap_frames.ensures.frames
      c.steps_keep_bounds.ensures.request c.steps_keep_bounds.ensures.given c.holds_few.ensures.window c.holds_few.ensures.stand
      (sym (c.may_dial.ensures c.args.called.now c.args.calling.now c.args.user.now c.args.proposal.now) ∙ c.if-not-may_dial.false)
      (λ c' s fits.
      enters_dialled c.call.new.turn (given_with c.args.given) c' c.args.self.now.link c.call.new.link c.args.self.now.layer c.call.new.layer s r c.in-Ok.channel
      c.args.called.now c.args.calling.now c.args.user.now c.args.proposal.now fits c.in-Ok.ensures.does
      (sym (c.may_dial.ensures c.args.called.now c.args.calling.now c.args.user.now c.args.proposal.now) ∙ c.if-not-may_dial.false)
      (c.in-Ok.ensures.channel (layer_settings c') s.layer fits.layer)
      (λ k after configured brief. c.enter_asked.ensures (layer_settings c') k after configured brief))
      refl;
}

pub returns-in-Err : goal.returns-in-Err
returns-in-Err c = record {
  does = declines_last _ (given_with c.args.given) c.in-Err.error _ c.args.self.now _ _
      (Dials c.args.called.now c.args.calling.now c.args.user.now c.args.proposal.now) c.of_layer-in-Err.ensures c.in-Err.ensures.does
      (sym (c.may_dial.ensures c.args.called.now c.args.calling.now c.args.user.now c.args.proposal.now) ∙ c.if-not-may_dial.false) c.requires refl;
}
