use Rattle.x25_c.{proofs.HappenLemmas.{from_still}, specs.code.Happens.{event_of}}
use Rattle.x25_c.proofs.held.Held.happen.Goals as goal

pub returns-clause-happens : goal.returns-clause-happens
returns-clause-happens c =
    from_still c.args.self.now c.begin.new.self c.go_on.new.self c.go_on.result (event_of c.args.event) c.begin.ensures.station c.begin.ensures.end
    c.begin.ensures.time c.begin.ensures.clock c.go_on.ensures.happens
