use Rattle.x25_layer.proofs.{FitLemmas.{agreed}, Names.{◌∙◌, Some, ap, Params}}
use Rattle.x25_layer.proofs.layer.Layer.params.Goals as goal

pub returns : goal.returns
returns c = λ s l fits.
    ap (λ (p : Params). Some p) (c.params.ensures s.circuit (l.circuits c.args.channel) (c.in_ok-circuit.ensures.fits s l fits))
    ∙ agreed s _ l c.args.channel fits c.in_ok-circuit.ensures.some
