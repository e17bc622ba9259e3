use Rattle.std.proofs.Common.{◌≡◌, sym, subst}
use Rattle.std.specs.Prelude.{None, IfNone}
use Rattle.x25_crossing.specs.Crossing.{two_of}
use Rattle.x25_crossing.specs.code.Plain.{plain}
use Rattle.x25_switch.specs.Leg.{wanted}
use Rattle.x25_switch.proofs.leg.ask.Goals as goal

pub returns-in-Interrupt-clause-none : goal.returns-in-Interrupt-clause-none
returns-in-Interrupt-clause-none c =
    subst (λ kind. IfNone c.interrupt.result (wanted kind c.args.role c.args.channel (two_of c.args.side (plain c.args.call.now)) ≡ None))
    (sym c.in-Interrupt.is) (c.interrupt.ensures.none c.args.role)

pub returns-in-Message-clause-none : goal.returns-in-Message-clause-none
returns-in-Message-clause-none c =
    subst (λ kind. IfNone c.message.result (wanted kind c.args.role c.args.channel (two_of c.args.side (plain c.args.call.now)) ≡ None))
    (sym c.in-Message.is) (c.message.ensures.none c.args.role)

pub returns-in-Flow-clause-none : goal.returns-in-Flow-clause-none
returns-in-Flow-clause-none c =
    subst (λ kind. IfNone c.flow.result (wanted kind c.args.role c.args.channel (two_of c.args.side (plain c.args.call.now)) ≡ None))
    (sym c.in-Flow.is) (c.flow.ensures.none c.args.role)
