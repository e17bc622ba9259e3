use Rattle.std.proofs.Common.{◌∙◌}
use Rattle.x25_packet.proofs.FacilityLemmas.{stepped, stopped}
use Rattle.x25_packet.proofs.classes.are_facilities.Goals as goal

pub loop-behind-preserved : goal.loop-behind-preserved
loop-behind-preserved c = stepped c.loop-behind.rest.now c.in-Some.behind.now c.in-Some.ensures.0 c.in-Some.ensures.1 ∙ c.loop-behind.invariant

pub returns : goal.returns
returns c = c.is_empty.ensures ∙ stopped c.loop-behind.rest.now c.in_default.ensures ∙ c.loop-behind.invariant
