use Rattle.x25_station.proofs.Names.{sym, subst, FitsLayer, layer_down}
use Rattle.x25_station.proofs.linking.note_down.Goals as goal

pub returns-in-Some-clause-layer : goal.returns-in-Some-clause-layer
returns-in-Some-clause-layer c = λ s l fits. subst (λ down. FitsLayer s c.down.new.self (layer_down l down)) (sym c.in-Some.is) (c.down.ensures.layer s l fits)
