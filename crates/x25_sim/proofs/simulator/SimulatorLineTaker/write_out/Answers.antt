use Rattle.std.proofs.Common.{[], false}
use Rattle.std.proofs.lemmas.Result.{MatchResult-weaker}
use Rattle.x25_io.proofs.ToldLemmas.{with_ok}
use Rattle.x25_sim.specs.Stage.{simulated, turns}
use Rattle.x25_sim.proofs.LeaveLemmas.{given_up}
use Rattle.x25_sim.proofs.StreamLemmas.{ended_written, left_begun, left_written}
use Rattle.x25_sim.proofs.simulator.SimulatorLineTaker.write_out.Goals as goal

pub returns-clause-on : goal.returns-clause-on
returns-clause-on g c = λ a old lines script l.
    let whole = simulated a.cfg a.down a.shown script in
    MatchResult-weaker c.flush.result (with_ok c.flush.result _ _ _ (c.flush.ensures.stands a.cfg a.shown old l.at l.text l.status l.stands)
    c.flush.ensures.empty)
    (λ _ t. let left = left_written a.cfg a.shown old _ _ whole c.args.self.now.stage c.flush.new.self (turns a.cfg a.shown lines) l t.0 in (
      left,
      ended_written a.cfg a.shown old _ _ whole c.args.self.now.stage c.flush.new.self lines l t.1 t.0,
      given_up a.cfg a.shown old _ old c.flush.new.self c.flush.new.self [] false whole _ left,
    ))
    (λ _ begins. left_begun a.cfg a.shown old _ _ whole c.args.self.now.stage (turns a.cfg a.shown lines) l begins)
