use Rattle.std.proofs.Common.{◌∙◌, if◌then◌else◌, Some, None, sym, subst}
use Rattle.x25_station.specs.laws.TimerLaw.{Fires}
use Rattle.x25_pipe.specs.Pipe.{asked_act}
use Rattle.x25_pipe.specs.code.Stands.{Acted}
use Rattle.x25_pipe.proofs.pipe.PipeScriptTaker.t1.Goals as goal

pub returns-then-is_same : goal.returns-then-is_same
returns-then-is_same g c = (
  (λ k old s told refused h.
      subst (λ b. Acted k old (g.W.Sink.contents c.fire.new.writer) c.fire.new.self told refused c.fire.result
      (asked_act k s (if b then Some (Fires) else None))) (sym (sym c.is_same.ensures ∙ c.if-is_same.true))
      (c.fire.ensures.acts k old s told refused h)),
  c.fire.ensures.faults,
)

pub returns : goal.returns
returns g c = (
  (λ k old s told refused h.
      subst (λ b. Acted k old (g.W.Sink.contents c.read_nothing.new.writer) c.read_nothing.new.self told refused c.read_nothing.result
      (asked_act k s (if b then Some (Fires) else None))) (sym (sym c.is_same.ensures ∙ c.if-is_same.false))
      (c.read_nothing.ensures.acts k old s told refused h)),
  c.read_nothing.ensures.faults,
)
