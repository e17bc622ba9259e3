use Rattle.x25_sim.specs.Stage.{both_tried, pulled}
use Rattle.x25_sim.proofs.stage.Stage.pull.Goals as goal

pub returns-clause-turns : goal.returns-clause-turns
unfolding pulled both_tried
returns-clause-turns g c = c.deliver_all_then.ensures.turns
