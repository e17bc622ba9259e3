use Rattle.x25_layer.proofs.{CallLemmas.{asked_goes, refusal_goes}, Names.{◌≡◌, ◌∙◌, sym, ap, true, false, outcome, plain_request, declined_for, is_number}}
use Rattle.x25_layer.specs.Ranges.{is_channel}
use Rattle.x25_layer.proofs.layer.Layer.refusal.Goals as goal

pub returns : goal.returns
returns c = λ s l fits.
    let h = c.args.channel in
    let asked = plain_request c.args.request.now in
    let at_l : l.restarting ≡ false = sym fits.restarting ∙ c.in_default.ensures.ready in
    let is : is_channel s.channels h ≡ true = ap (λ n. is_number n h) (sym fits.channels) ∙ c.in_default.ensures.channel in
    c.circuit_refusal.ensures s l fits
    ∙ refusal_goes l.restarts l.circuits h (outcome s.circuit (l.circuits h) asked)
    ∙ ap declined_for (sym (asked_goes s c.args.link.is_up c.args.link.is_full l h asked c.in_default.ensures.up at_l is c.in_default.ensures.free))
