use Rattle.std.proofs.lemmas.Option.{IfSome_then}
use Rattle.x25_layer.proofs.{BusyLemmas.{none_awaited, none_unacknowledged}, FitLemmas.{if_none}}
use Rattle.x25_layer.proofs.layer.Layer.busy_after.Goals as goal

pub returns-clause-between : goal.returns-clause-between
returns-clause-between c = λ s l fits. IfSome_then c.after.result c.after.ensures.between
    (λ next out k more less. none_awaited s c.args.self.now l fits k (out k more less))

pub returns-clause-none : goal.returns-clause-none
returns-clause-none c = λ s l fits. if_none c.after.result (λ out k more. none_awaited s c.args.self.now l fits k (out k more)) c.after.ensures.none

pub returns-clause-acknowledged : goal.returns-clause-acknowledged
returns-clause-acknowledged c = λ s l fits. IfSome_then c.after.result c.after.ensures.between
    (λ next out k more less. none_unacknowledged s c.args.self.now l fits k (out k more less))

pub returns-clause-all_acknowledged : goal.returns-clause-all_acknowledged
returns-clause-all_acknowledged c = λ s l fits.
    if_none c.after.result (λ out k more. none_unacknowledged s c.args.self.now l fits k (out k more)) c.after.ensures.none
