use Rattle.x25_layer.proofs.{FitLemmas.{awaited}, Names.{◌∙◌, true}}
use Rattle.x25_layer.proofs.layer.Layer.awaits.Goals as goal

pub returns-in-Some : goal.returns-in-Some
returns-in-Some c = λ s l fits. c.awaits.ensures s.circuit (l.circuits c.args.channel) (c.in-Some.ensures.fits s l fits)
    ∙ awaited s _ l c.args.channel true fits c.in-Some.ensures.some
