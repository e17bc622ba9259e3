use Rattle.x25_layer.proofs.{FreeLemmas.{callable_by}, Names.{◌∙◌, true, sym, ap, where_callable}}
use Rattle.x25_layer.proofs.layer.Layer.free_channel.Goals as goal

pub returns-then-may_call-clause-value : goal.returns-then-may_call-clause-value
returns-then-may_call-clause-value c = λ s l fits.
    callable_by c.args.self.now.role s.circuit.role c.args.self.now.ranges s.channels c.in_ok-channel.channel true fits.role fits.ranges
    (sym c.may_call.ensures ∙ c.if-may_call.true)
    ∙ ap (λ o. where_callable s.circuit.role s.channels o) (c.in_ok-channel.ensures.value s l fits)
