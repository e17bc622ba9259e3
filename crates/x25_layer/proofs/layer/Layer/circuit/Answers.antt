use Rattle.x25_layer.proofs.{FitLemmas.{looked_up}, Names.{◌≤◌, arith}}
use Rattle.x25_layer.proofs.layer.Layer.circuit.Goals as goal

pub returns-clause-fits : goal.returns-clause-fits
returns-clause-fits c = λ s l fits.
    looked_up s _ l c.args.channel c.deref.result.now c.get.result _ fits (let e : 1 ≤ c.args.channel = omega arith in e) c.deref.ensures.value
    c.get.ensures.lookup.1 c.get.ensures.lookup.3
