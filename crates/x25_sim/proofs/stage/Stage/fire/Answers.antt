use Rattle.x25_sim.specs.Stage.{both_tried, fired}
use Rattle.x25_sim.proofs.stage.Stage.fire.Goals as goal

pub returns-clause-turns : goal.returns-clause-turns
unfolding fired both_tried
returns-clause-turns g c = c.deliver_all_then.ensures.turns
