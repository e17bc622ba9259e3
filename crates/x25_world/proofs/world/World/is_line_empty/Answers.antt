use Rattle.x25_world.proofs.{HealingRounds.{none_by_some}, Names.{◌∙◌, ap, is_none, end_of}}
use Rattle.x25_world.proofs.world.World.is_line_empty.Goals as goal

pub returns : goal.returns
returns c = none_by_some end_of c.next_direction.result c.is_none.result c.is_none.ensures ∙ ap is_none c.next_direction.ensures
