use Rattle.x25_layer.proofs.Names.{rules, ◌≡◌, ℕ, ◌∙◌, inr, Ok, Err, sym, subst, false, Dials, LayerOutcome, Gives}
use Rattle.std.proofs.lemmas.Result.{err_from_is_err_and}
use Rattle.x25_layer.proofs.CallLemmas.{dial_goes, dial_err, dial_ok, refuses}
use Rattle.x25_layer.proofs.layer.Layer.call.Goals as goal

pub returns-in_err-channel-clause-does : goal.returns-in_err-channel-clause-does
returns-in_err-channel-clause-does c =
    let p = err_from_is_err_and c.from_residual.result c.from_residual.ensures.1 in
    rw (p.1, p.2) (refuses _ c.args.self.now c.in_err-channel.field-0.0 c.args.link
    (Dials c.args.called.now c.args.calling.now c.args.user.now c.args.proposal.now) c.in_err-channel.ensures.kinds
    (λ s l fits. c.in_err-channel.ensures.refused s l c.args.called.now c.args.calling.now c.args.user.now c.args.proposal.now fits))

pub returns-in_err-ask_ready-clause-does : goal.returns-in_err-ask_ready-clause-does
returns-in_err-ask_ready-clause-does c = record {
  does = record {
    gives = λ s l fits.
        let p = err_from_is_err_and c.from_residual-in_err-ask_ready.result c.from_residual-in_err-ask_ready.ensures.1 in
        let e = c.in_err-ask_ready.field-0.0 in
        let at_l : l.restarting ≡ false = sym fits.restarting ∙ c.in_ok-channel.ensures.ready in
        rw (p.1, p.2) (subst (λ (o : LayerOutcome). Gives {T = ℕ} s c.ask_ready.new.self (Err e) o)
        (sym (dial_goes s c.args.link.is_up c.args.link.is_full l c.args.called.now c.args.calling.now c.args.user.now c.args.proposal.now
        c.in_ok-channel.channel c.in_ok-channel.ensures.up at_l (c.in_ok-channel.ensures.value s l fits) c.in_ok-channel.ensures.free))
        (dial_err s c.ask_ready.new.self e _ (c.in_err-ask_ready.ensures.does.gives s l fits)));
    stays = search rules;
    short = search rules;
    missing = search rules;
  };
  up = search rules;
  free = search rules;
}

pub returns-clause-does : goal.returns-clause-does
returns-clause-does c = record {
  does = record {
    gives = λ s l fits.
        let at_l : l.restarting ≡ false = sym fits.restarting ∙ c.in_ok-channel.ensures.ready in
        subst (λ (o : LayerOutcome). Gives {T = ℕ} s c.ask_ready.new.self (Ok c.in_ok-channel.channel) o)
        (sym (dial_goes s c.args.link.is_up c.args.link.is_full l c.args.called.now c.args.calling.now c.args.user.now c.args.proposal.now
        c.in_ok-channel.channel c.in_ok-channel.ensures.up at_l (c.in_ok-channel.ensures.value s l fits) c.in_ok-channel.ensures.free))
        (dial_ok s c.ask_ready.new.self c.in_ok-channel.channel _ (c.in_ok-ask_ready.ensures.does.gives s l fits));
    stays = search rules;
    short = search rules;
    missing = search rules;
  };
  up = c.in_ok-channel.ensures.up;
  free = inr c.in_ok-channel.ensures.free;
}
