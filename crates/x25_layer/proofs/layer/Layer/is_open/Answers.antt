use Rattle.x25_layer.proofs.{FitLemmas.{opened}, Names.{◌∙◌, true}}
use Rattle.x25_layer.proofs.layer.Layer.is_open.Goals as goal

pub returns-in-Some : goal.returns-in-Some
returns-in-Some c = λ s l fits. c.is_open.ensures s.circuit (l.circuits c.args.channel) (c.in-Some.ensures.fits s l fits)
    ∙ opened s _ l c.args.channel true fits c.in-Some.ensures.some
