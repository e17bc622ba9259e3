use Rattle.std.proofs.Common.{refl, subst}
use Rattle.x25_c.{proofs.HappenLemmas.{asks_or_fires, is_both, is_refused}, specs.Clocked.{Heeds, moment_of}, specs.code.Happens.{event_of}}
use Rattle.x25_clock.specs.Clock.{seen}
use Rattle.x25_c.proofs.held.Held.go_on.Goals as goal

pub returns-in-Err-clause-happens : goal.returns-in-Err-clause-happens
returns-in-Err-clause-happens c =
    is_refused c.args.self.now _ c.in-Err.error (event_of c.args.event) refl c.in-Err.ensures.does.refused c.in-Err.ensures.only c.in-Err.ensures.does.stays
    c.in-Err.ensures.does.empty c.in-Err.ensures.timer refl refl

pub returns-in-Ok-clause-happens : goal.returns-in-Ok-clause-happens
returns-in-Ok-clause-happens c =
    is_both c.args.self.now _ c.happen.new.station c.happen.new.out (event_of c.args.event) c.in-Ok.ensures.does c.in-Ok.ensures.timer c.pull.ensures.pulls
    c.pull.ensures.timer c.pull.ensures.entries c.in-Ok.ensures.only refl refl
    (λ c' s fits. subst (λ come. Heeds (moment_of c.args.self.now.time) (seen c' s c.pull.new.out come) c.args.self.now.clock c.heed.new.clock)
    (asks_or_fires c.args.event) (c.heed.ensures c' s fits))
