use Rattle.x25_layer.proofs.{CallLemmas.{dial_goes, refusal_goes}, Names.{◌≡◌, ◌∙◌, sym, ap, false, Calls, outcome, declined_for}}
use Rattle.x25_layer.proofs.layer.Layer.call_refusal.Goals as goal

pub returns : goal.returns
returns c = λ s l fits.
    let h = c.in-Ok.channel in
    let at_l : l.restarting ≡ false = sym fits.restarting ∙ c.in-Ok.ensures.ready in
    c.circuit_refusal.ensures s l fits
    ∙ refusal_goes l.restarts l.circuits h (outcome s.circuit (l.circuits h) (Calls c.args.called.now c.args.calling.now c.args.user.now c.args.proposal.now))
    ∙ ap declined_for (sym (dial_goes s c.args.link.is_up c.args.link.is_full l c.args.called.now c.args.calling.now c.args.user.now c.args.proposal.now h
    c.in-Ok.ensures.up at_l (c.in-Ok.ensures.value s l fits) c.in-Ok.ensures.free))
