use Rattle.std.proofs.Common.{List, sym, subst}
use Rattle.x25_switch.specs.Calls.{AreApart}
use Rattle.x25_switch.specs.code.Plain.{plains}
use Rattle.x25_switch.specs.declared.call.Call.{Call}
use Rattle.x25_switch.proofs.CallLemmas.{pushed_apart}
use Rattle.x25_switch.proofs.switch.Switch.take.Goals as goal

pub invariant_of-self-clause-apart : goal.invariant_of-self-clause-apart
invariant_of-self-clause-apart c =
    subst (λ (xs : List Call). AreApart (plains xs)) (sym c.push_reserved.ensures.items)
    (pushed_apart c.args.self.now.octets c.args.near.line c.args.near.channel c.args.self.now.calls.items _ c.in-Ok.ensures c.requires
    c.args.self.now.apart)
