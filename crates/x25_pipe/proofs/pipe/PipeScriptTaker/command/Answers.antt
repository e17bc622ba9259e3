use Rattle.std.proofs.Common.{◌∙◌, if◌then◌else◌, Some, None, sym, subst}
use Rattle.std.specs.Prelude.{option_and_then}
use Rattle.x25_station.specs.laws.TimerLaw.{Asks}
use Rattle.x25_script.specs.ScriptLine.{command, plain_command}
use Rattle.x25_console.specs.Commands.{command_asked}
use Rattle.x25_pipe.specs.Pipe.{asked_act, script_event}
use Rattle.x25_pipe.specs.code.Stands.{Acted}
use Rattle.x25_pipe.proofs.pipe.PipeScriptTaker.command.Goals as goal

pub returns-then-not-takes : goal.returns-then-not-takes
returns-then-not-takes g c = (
  (λ k old s told refused h.
      subst (λ b. Acted k old (g.W.Sink.contents c.read_nothing.new.writer) c.read_nothing.new.self told refused c.read_nothing.result
      (asked_act k s (option_and_then (script_event c.args.self.now.end) (if b then Some (command c.args.end (plain_command c.args.asked)) else None))))
      (sym (sym (c.takes.ensures k s h.fits) ∙ c.if-not-takes.true))
      (c.read_nothing.ensures.acts k old s told refused h)),
  c.read_nothing.ensures.faults,
)

pub returns-then-is_same : goal.returns-then-is_same
returns-then-is_same g c = (
  (λ k old s told refused h.
      subst (λ b. Acted k old (g.W.Sink.contents c.ask.new.writer) c.ask.new.self told refused c.ask.result
      (asked_act k s (option_and_then (script_event c.args.self.now.end) (if b then Some (command c.args.end (plain_command c.args.asked)) else None))))
      (sym (sym (c.takes.ensures k s h.fits) ∙ c.if-not-takes.false))
      (subst (λ b. Acted k old (g.W.Sink.contents c.ask.new.writer) c.ask.new.self told refused c.ask.result
      (asked_act k s (if b then Some (Asks (command_asked (plain_command c.args.asked))) else None))) (sym (sym c.is_same.ensures ∙ c.if-is_same.true))
      (c.ask.ensures.acts k old s told refused h))),
  c.ask.ensures.faults,
)

pub returns : goal.returns
returns g c = (
  (λ k old s told refused h.
      subst (λ b. Acted k old (g.W.Sink.contents c.read_nothing-2.new.writer) c.read_nothing-2.new.self told refused c.read_nothing-2.result
      (asked_act k s (option_and_then (script_event c.args.self.now.end) (if b then Some (command c.args.end (plain_command c.args.asked)) else None))))
      (sym (sym (c.takes.ensures k s h.fits) ∙ c.if-not-takes.false))
      (subst (λ b. Acted k old (g.W.Sink.contents c.read_nothing-2.new.writer) c.read_nothing-2.new.self told refused c.read_nothing-2.result
      (asked_act k s (if b then Some (Asks (command_asked (plain_command c.args.asked))) else None))) (sym (sym c.is_same.ensures ∙ c.if-is_same.false))
      (c.read_nothing-2.ensures.acts k old s told refused h))),
  c.read_nothing-2.ensures.faults,
)
