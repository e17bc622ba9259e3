use Rattle.std.specs.Prelude.{Ok}
use Rattle.x25_station.specs.laws.TimerLaw.{Comes}
use Rattle.x25_c.proofs.HappenLemmas.{from_still}
use Rattle.x25_c.proofs.held.Held.receive.Goals as goal

pub returns-clause-happens : goal.returns-clause-happens
returns-clause-happens c =
    from_still c.args.self.now c.begin.new.self c.take.new.self (Ok tt) (Comes c.args.octets.now) c.begin.ensures.station c.begin.ensures.end
    c.begin.ensures.time c.begin.ensures.clock c.take.ensures.happens
