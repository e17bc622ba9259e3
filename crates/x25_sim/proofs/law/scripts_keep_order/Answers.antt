use Rattle.x25_world.specs.laws.Claims.{ArrivesAll, HasNoProcedureError, IsLawful, IsNamed}
use Rattle.x25_world.specs.laws.SessionWindow.{StaysInWindow}
use Rattle.x25_sim.proofs.RunLemmas.{are_tapped, are_told, of_script, of_script_set_up, up_once}
use Rattle.x25_sim.proofs.law.scripts_keep_order.Goals as goal

pub returns-clause-lawful : goal.returns-clause-lawful
returns-clause-lawful c = of_script IsLawful c.two_stations_keep_order.ensures.lawful c.scripts_are_runs.ensures

pub returns-clause-named : goal.returns-clause-named
returns-clause-named c = of_script IsNamed c.two_stations_keep_order.ensures.named c.scripts_are_runs.ensures

pub returns-clause-arrives : goal.returns-clause-arrives
returns-clause-arrives c = of_script ArrivesAll c.two_stations_keep_order.ensures.arrives c.scripts_are_runs.ensures

pub returns-clause-quiet : goal.returns-clause-quiet
returns-clause-quiet c = of_script HasNoProcedureError c.two_stations_keep_order.ensures.quiet c.scripts_are_runs.ensures

pub returns-clause-window : goal.returns-clause-window
returns-clause-window c = of_script_set_up StaysInWindow c.two_stations_keep_order.ensures.window c.scripts_are_runs.ensures

pub returns-clause-up_once : goal.returns-clause-up_once
returns-clause-up_once c = up_once c.two_stations_keep_order.ensures.up_once c.scripts_are_runs.ensures

pub returns-clause-told : goal.returns-clause-told
returns-clause-told c = are_told c.scripts_are_runs.ensures

pub returns-clause-tapped : goal.returns-clause-tapped
returns-clause-tapped c = are_tapped c.scripts_are_runs.ensures
