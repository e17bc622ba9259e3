use Rattle.x25_layer.proofs.{CallLemmas.{refused_on, accepted_on}, Names.{◌∙◌, sym, outcome, plain_request}}
use Rattle.x25_layer.proofs.layer.Layer.circuit_refusal.Goals as goal

pub returns-in-Some-refusal : goal.returns-in-Some-refusal
returns-in-Some-refusal c = λ s l fits.
    refused_on (outcome s.circuit (l.circuits c.args.channel) (plain_request c.args.request.now)) c.in-Some-refusal.error
    (sym c.in-Some-refusal.is ∙ c.refusal.ensures s.circuit (l.circuits c.args.channel) (c.in-Some.ensures.fits s l fits))

pub returns-in-None : goal.returns-in-None
returns-in-None c = λ s l fits.
    accepted_on (outcome s.circuit (l.circuits c.args.channel) (plain_request c.args.request.now))
    (sym c.in-None.is ∙ c.refusal.ensures s.circuit (l.circuits c.args.channel) (c.in-Some.ensures.fits s l fits))
