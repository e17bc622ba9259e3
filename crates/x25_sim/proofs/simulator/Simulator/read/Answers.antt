use Rattle.std.proofs.Common.{◌∙◌, sym, subst}
use Rattle.x25_script.specs.Reading.{line_in}
use Rattle.x25_script.specs.ScriptLine.{taken}
use Rattle.x25_sim.specs.Stage.{asked_turn}
use Rattle.x25_sim.specs.code.Stands.{Turns}
use Rattle.x25_sim.proofs.simulator.Simulator.read.Goals as goal

pub returns-clause-turns : goal.returns-clause-turns
returns-clause-turns g c = λ cfg shown old.
    subst (λ stage. Turns cfg shown old (g.W.Sink.contents c.args.writer.now) (g.W.Sink.contents c.read_line-result.new.with) c.args.self.now.stage stage
    c.read_line-result.result (λ w. asked_turn cfg shown w (taken cfg.wide (line_in c.args.line.now))))
    (sym (c.report_refusal.ensures ∙ c.report_none.ensures)) (c.read_line-result.ensures.exact.0 cfg shown old)
