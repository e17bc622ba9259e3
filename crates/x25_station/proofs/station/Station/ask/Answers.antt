use Rattle.x25_station.proofs.{DriveLemmas.{judged_for}, EitherLemmas.{suits_asked, meant_asked, did_asked, enters_asked}, GivingLemmas.{none_of}}
use Rattle.x25_station.proofs.EitherLemmas.{declines_first, declines_then, declines_last, meant_declined, only_first, only_then, only_last, allowed_asked}
use Rattle.x25_station.proofs.{Names.{Some, None, refl, ap, ◌∙◌, sym, plain_request, given_with, Asks, layer_settings, Outcome, asks}, PullLemmas.{goes_on}}
use Rattle.x25_station.proofs.TakeLemmas.{takes_longest, has_places}
use Rattle.x25_station.specs.declared.step.Step as code_step
use Rattle.x25_station.proofs.station.Station.ask.Goals as goal

pub returns-then-not-may_ask-clause-does : goal.returns-then-not-may_ask-clause-does
returns-then-not-may_ask-clause-does c =
    let request = Asks c.args.channel (plain_request c.args.request) in
    declines_then (given_with c.args.given) c.args.self.now _ _ request
    (judged_for c.state.result c.args.self.now.link c.args.self.now.layer request None (record { up = c.state.ensures.up; full = c.state.ensures.waits })
    (λ d k fits. sym (none_of c.refusal.result c.in_default.not-Some) ∙ c.refusal.ensures d k fits))
    (sym (c.may_ask.ensures c.args.channel) ∙ c.if-not-may_ask.true) (λ c' s fits. fits) c.requires

pub returns-in-Some-clause-does : goal.returns-in-Some-clause-does
returns-in-Some-clause-does c = declines_first (given_with c.args.given) _ c.in-Some.error c.args.self.now _ _ (Asks c.args.channel (plain_request c.args.request))
    c.of_layer.ensures
    (judged_for c.state.result c.args.self.now.link c.args.self.now.layer (Asks c.args.channel (plain_request c.args.request)) (Some c.in-Some.error)
    (record { up = c.state.ensures.up; full = c.state.ensures.waits }) (λ d k fits. sym c.in-Some.is ∙ c.refusal.ensures d k fits)) (λ c' s fits. fits)
    c.requires

pub ask-requires-clause-allowed : goal.ask-requires-clause-allowed
ask-requires-clause-allowed c = allowed_asked c.args.self.now.manner.wide (given_with c.args.given) (Asks c.args.channel (plain_request c.args.request))
    (sym (c.may_ask.ensures c.args.channel) ∙ c.if-not-may_ask.false)

pub ask-requires-clause-suits : goal.ask-requires-clause-suits
ask-requires-clause-suits c = suits_asked c.args.self.now.manner.wide (given_with c.args.given) (Asks c.args.channel (plain_request c.args.request))
    (sym (c.may_ask.ensures c.args.channel) ∙ c.if-not-may_ask.false)

pub ask-requires-clause-places : goal.ask-requires-clause-places
ask-requires-clause-places c = has_places c.args.self.now.link c.args.self.now.layer c.args.self.now.meant

pub ask-requires-clause-longest : goal.ask-requires-clause-longest
ask-requires-clause-longest c = takes_longest c.args.self.now.link c.args.self.now.layer c.args.self.now.meant

pub invariant_of-self-in-Ok : goal.invariant_of-self-in-Ok
invariant_of-self-in-Ok c = record {
  meant = meant_asked c.in-Ok.field-0 (given_with c.args.given) c.args.self.now.link c.ask.new.link c.swap_frames.new.self c.args.self.now.layer c.ask.new.layer
      (record { frames = c.swap_frames.new.frames; entries = c.enter_asked.new.entries; timer = c.args.out.now.timer })
      (Asks c.args.channel (plain_request c.args.request)) c.args.self.now.meant c.in-Ok.ensures (ap (λ l. l.station) c.swap_frames.ensures.link)
      (ap (λ l. l.frames) c.swap_frames.ensures.link ∙ c.requires.frames) c.swap_frames.ensures.frames c.steps_keep_bounds.ensures.request
      c.steps_keep_bounds.ensures.given (sym (c.may_ask.ensures c.args.channel) ∙ c.if-not-may_ask.false);
}

pub invariant_of-self-in-Err-1 : goal.invariant_of-self-in-Err-1
invariant_of-self-in-Err-1 c = record {
  meant = meant_declined _ (given_with c.args.given) c.in-Err.error c.args.self.now.manner c.args.self.now.link c.ask.new.link c.args.self.now.layer c.ask.new.layer
      (Asks c.args.channel (plain_request c.args.request)) c.args.self.now.meant c.in-Err.ensures;
}

pub returns-in-Ok-clause-does : goal.returns-in-Ok-clause-does
returns-in-Ok-clause-does c =
    let request = Asks c.args.channel (plain_request c.args.request) in
    let r : code_step.Step = record { frames = c.swap_frames.new.frames; entries = c.enter_asked.new.entries; timer = c.args.out.now.timer } in
    did_asked c.in-Ok.field-0 (given_with c.args.given) c.args.self.now _ c.ask.new.link r request c.in-Ok.ensures
    (ap (λ l. l.station) c.swap_frames.ensures.link) (ap (λ l. l.frames) c.swap_frames.ensures.link ∙ c.requires.frames) c.swap_frames.ensures.frames
    c.steps_keep_bounds.ensures.request c.steps_keep_bounds.ensures.given c.holds_few.ensures.window c.holds_few.ensures.stand
    (sym (c.may_ask.ensures c.args.channel) ∙ c.if-not-may_ask.false)
    (λ c' s fits.
    enters_asked c.ask.new.turn c.in-Ok.field-0 (given_with c.args.given) c' c.args.self.now.link c.ask.new.link c.args.self.now.layer c.ask.new.layer s r c.args.channel
    (plain_request c.args.request) fits c.in-Ok.ensures (sym (c.may_ask.ensures c.args.channel) ∙ c.if-not-may_ask.false)
    (λ k after configured brief. c.enter_asked.ensures (layer_settings c') k after configured brief))
    refl

pub returns-in-Err-clause-does : goal.returns-in-Err-clause-does
returns-in-Err-clause-does c = declines_last _ (given_with c.args.given) c.in-Err.error _ c.args.self.now _ _
    (Asks c.args.channel (plain_request c.args.request)) c.of_layer-in-Err.ensures c.in-Err.ensures
    (sym (c.may_ask.ensures c.args.channel) ∙ c.if-not-may_ask.false) c.requires refl

pub returns-then-not-may_ask-clause-only : goal.returns-then-not-may_ask-clause-only
returns-then-not-may_ask-clause-only c = λ none c' s fits.
    only_then (given_with c.args.given) c.args.self.now _ _ (Asks c.args.channel (plain_request c.args.request)) (returns-then-not-may_ask-clause-does c) c' s fits

pub returns-in-Some-clause-only : goal.returns-in-Some-clause-only
returns-in-Some-clause-only c = λ none c' s fits.
    let request = Asks c.args.channel (plain_request c.args.request) in
    only_first (given_with c.args.given) _ c.in-Some.error c.args.self.now c.args.channel (plain_request c.args.request) c.of_layer.ensures
    (judged_for c.state.result c.args.self.now.link c.args.self.now.layer request (Some c.in-Some.error)
    (record { up = c.state.ensures.up; full = c.state.ensures.waits }) (λ d k held. sym c.in-Some.is ∙ c.refusal.ensures d k held))
    (sym (c.may_ask.ensures c.args.channel) ∙ c.if-not-may_ask.true) none c' s fits

pub returns-in-Ok-clause-only : goal.returns-in-Ok-clause-only
returns-in-Ok-clause-only c = λ none c' s fits.
    let o : Outcome = asks c' s (given_with c.args.given) (Asks c.args.channel (plain_request c.args.request)) in
    goes_on o ((returns-in-Ok-clause-does c).refused c' s fits)

pub returns-in-Err-clause-only : goal.returns-in-Err-clause-only
returns-in-Err-clause-only c = λ none c' s fits.
    only_last (given_with c.args.given) c.in-Err.error _ c.args.self.now _ _ (Asks c.args.channel (plain_request c.args.request)) c.of_layer-in-Err.ensures
    c.in-Err.ensures none (returns-in-Err-clause-does c) c' s fits
