use Rattle.std.proofs.Common.{Ok, refl, subst}
use Rattle.x25_c.specs.code.Clocks.{Passes, PassesAt}
use Rattle.x25_c.proofs.held.Held.pass.Goals as goal

pub returns-in-Some : goal.returns-in-Some
unfolding Passes
returns-in-Some c =
    let first = c.say.new.self in
    let mid = record first { clock = c.take_due.new.clock } in (
      first,
      c.say.ensures,
      mid,
      record { is = refl; clock = c.take_due.ensures.told },
      subst (λ due. PassesAt due mid c.insist.new.self c.insist.result) c.in-Some.ensures.due c.insist.ensures,
    )

pub returns-in-None : goal.returns-in-None
unfolding Passes
returns-in-None c =
    let first = c.say.new.self in
    let mid = record first { clock = c.take_due.new.clock } in (
      first,
      c.say.ensures,
      mid,
      record { is = refl; clock = c.take_due.ensures.told },
      subst (λ due. PassesAt due mid c.rest.new.self (Ok tt)) c.in-None.ensures.due (refl, c.rest.ensures),
    )
