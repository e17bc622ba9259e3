use Rattle.std.proofs.Common.{◌≡◌, Some, None, sym, subst}
use Rattle.std.specs.Prelude.{Option}
use Rattle.x25_clock.{proofs.AskLemmas.{never_lacks}, specs.Due.{command_for}}
use Rattle.x25_station.specs.{Command.{Command, command_of}}
use Rattle.x25_clock.specs.Due.{by_command}
use Rattle.x25_clock.proofs.AskLemmas.{DoesEvent, does_due}
use Rattle.x25_clock.proofs.due.Due.ask_alone.Goals as goal

pub returns-in-Some : goal.returns-in-Some
returns-in-Some c =
    let some : command_for c.args.self ≡ Some (command_of c.in-Some.command) = sym c.in-Some.ensures in
    let done = c.command-in-Some.ensures in
    does_due c.args.self (subst (λ (o : Option Command). DoesEvent c.args.station.now c.command-in-Some.new.self c.command-in-Some.new.out
    c.command-in-Some.result (by_command o)) (sym some)
    (record { does = done.does; timer = done.timer; only = done.only (never_lacks c.args.self (command_of c.in-Some.command) (sym some)) }))

pub returns-in-None : goal.returns-in-None
returns-in-None c =
    let none : command_for c.args.self ≡ None = sym c.in-None.ensures in
    let done = c.t1.ensures in
    does_due c.args.self (subst (λ (o : Option Command). DoesEvent c.args.station.now c.t1.new.self c.t1.new.out c.t1.result (by_command o)) (sym none)
    (record { does = done.does; timer = done.timer; only = done.only }))
