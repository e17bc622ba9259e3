use Rattle.std.proofs.Common.{refl}
use Rattle.x25_station.specs.laws.TimerLaw.{Comes}
use Rattle.x25_c.proofs.HappenLemmas.{is_both}
use Rattle.x25_c.proofs.held.Held.take.Goals as goal

pub returns-clause-happens : goal.returns-clause-happens
returns-clause-happens c =
    is_both c.args.self.now _ c.receive.new.self c.receive.new.out (Comes c.args.octets.now) c.receive.ensures.does c.receive.ensures.timer
    c.pull.ensures.pulls c.pull.ensures.timer c.pull.ensures.entries (λ none c' s fits. refl) refl refl c.heed.ensures
