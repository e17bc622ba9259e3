use Rattle.x25_world.specs.laws.Claims.{HasNoProcedureError, IsNamed}
use Rattle.x25_joined.proofs.JoinedRuns.{are_lawful, arrive, of_programs_up_once}
use Rattle.x25_joined.proofs.law.two_programs_keep_order.Goals as goal

pub returns-clause-lawful : goal.returns-clause-lawful
returns-clause-lawful c = are_lawful c.two_stations_keep_order.ensures.lawful c.two_programs_are_a_world.ensures

pub returns-clause-arrives : goal.returns-clause-arrives
returns-clause-arrives c = arrive c.two_stations_keep_order.ensures.arrives c.two_programs_are_a_world.ensures

pub returns-clause-named : goal.returns-clause-named
returns-clause-named c = of_programs_up_once IsNamed c.two_stations_keep_order.ensures.named c.two_programs_are_a_world.ensures

pub returns-clause-quiet : goal.returns-clause-quiet
returns-clause-quiet c = of_programs_up_once HasNoProcedureError c.two_stations_keep_order.ensures.quiet c.two_programs_are_a_world.ensures
