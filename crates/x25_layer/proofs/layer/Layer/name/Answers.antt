use Rattle.x25_layer.proofs.{FitLemmas.{named, counted}, Names.{◌∙◌}}
use Rattle.x25_layer.proofs.layer.Layer.name.Goals as goal

pub returns : goal.returns
returns c = λ s l fits.
    let circuit = c.in_ok-circuit.ensures.fits s l fits in
    counted l c.args.channel _ _ _ fits.restarts (c.counts-clears.ensures.clears s.circuit (l.circuits c.args.channel) circuit)
    (c.counts-clears.ensures.resets s.circuit (l.circuits c.args.channel) circuit)
    ∙ named s _ l c.args.channel fits c.in_ok-circuit.ensures.some
