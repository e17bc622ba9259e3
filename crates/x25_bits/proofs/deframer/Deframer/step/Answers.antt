use Rattle.std.proofs.Common.{◌∙◌, sym}
use Rattle.x25_bits.proofs.LendingLemmas.{step_closes, step_passes}
use Rattle.x25_bits.proofs.deframer.Deframer.step.Goals as goal

pub returns-then-ends-clause-found : goal.returns-then-ends-clause-found
returns-then-ends-clause-found c = λ v fits. step_closes c.args.self.now v c.args.bit c.close.result c.close.new.self.last fits
    (sym c.ends.ensures ∙ c.if-ends.true) (c.close.ensures.found v fits)

pub returns-clause-found : goal.returns-clause-found
returns-clause-found c = λ v fits. step_passes c.args.self.now v c.args.bit fits (sym c.ends.ensures ∙ c.if-ends.false)
