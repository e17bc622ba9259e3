use Rattle.std.proofs.Common.{rules, ◌∙◌, if◌then◌else◌, Some, None, sym, subst}
use Rattle.std.proofs.lemmas.Result.{err_from_is_err_and}
use Rattle.x25_io.proofs.ToldLemmas.{told_more}
use Rattle.x25_script.specs.ScriptLine.{command, plain_command}
use Rattle.x25_sim.specs.Stage.{asked_turn, line_turn}
use Rattle.x25_sim.specs.code.Stands.{Stood}
use Rattle.x25_sim.proofs.simulator.SimulatorScriptTaker.command.Goals as goal

pub returns-then-not-takes : goal.returns-then-not-takes
returns-then-not-takes g c = (
  (λ cfg shown old w told refused h.
      subst (λ b. Stood cfg shown old (g.W.Sink.contents c.read_nothing.new.writer) c.read_nothing.new.self told refused c.read_nothing.result
      (asked_turn cfg shown w (if b then Some (command c.args.end (plain_command c.args.asked)) else None)))
      (sym (sym (c.takes.ensures cfg w h.fits) ∙ c.if-not-takes.true))
      (c.read_nothing.ensures.turns cfg shown old w told refused h)),
  search rules,
)

pub returns-in_err-count : goal.returns-in_err-count
returns-in_err-count g c =
    let p = err_from_is_err_and c.from_residual.result c.from_residual.ensures.1 in
    ((λ cfg shown old w told refused h. rw p.1 (told_more _ _ _ told _ h.tells)), search rules)

pub returns : goal.returns
unfolding line_turn
returns g c = (
  (λ cfg shown old w told refused h.
      subst (λ b. Stood cfg shown old (g.W.Sink.contents c.happen.new.writer) c.happen.new.self told refused c.happen.result
      (asked_turn cfg shown w (if b then Some (command c.args.end (plain_command c.args.asked)) else None)))
      (sym (sym (c.takes.ensures cfg w h.fits) ∙ c.if-not-takes.false))
      (search rules)),
  search rules,
)
