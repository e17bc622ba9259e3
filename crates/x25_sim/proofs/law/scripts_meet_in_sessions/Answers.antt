use Rattle.x25_world.specs.laws.Claims.{HasNoProcedureError}
use Rattle.x25_world.specs.laws.ConfirmedClaims.{ConfirmedAreHandedUp}
use Rattle.x25_world.specs.laws.SessionClaims.{AllArrive, AreLawfulWhereMet, AreNamedInSessions, MeetInStep, OpenStretchesMeet, UnmetAreToldNothing}
use Rattle.x25_world.specs.laws.SessionWindow.{SessionsStayInWindow}
use Rattle.x25_sim.proofs.RunLemmas.{of_all_scripts, of_all_runs}
use Rattle.x25_sim.proofs.law.scripts_meet_in_sessions.Goals as goal

pub returns-clause-step : goal.returns-clause-step
returns-clause-step c = of_all_scripts MeetInStep c.stations_meet_in_sessions.ensures.step c.scripts_are_runs.ensures

pub returns-clause-lawful : goal.returns-clause-lawful
returns-clause-lawful c = of_all_scripts AreLawfulWhereMet c.stations_meet_in_sessions.ensures.lawful c.scripts_are_runs.ensures

pub returns-clause-named : goal.returns-clause-named
returns-clause-named c = of_all_scripts AreNamedInSessions c.stations_meet_in_sessions.ensures.named c.scripts_are_runs.ensures

pub returns-clause-arrives : goal.returns-clause-arrives
returns-clause-arrives c = of_all_scripts AllArrive c.stations_meet_in_sessions.ensures.arrives c.scripts_are_runs.ensures

pub returns-clause-unmet : goal.returns-clause-unmet
returns-clause-unmet c = of_all_scripts UnmetAreToldNothing c.stations_meet_in_sessions.ensures.unmet c.scripts_are_runs.ensures

pub returns-clause-stand : goal.returns-clause-stand
returns-clause-stand c = of_all_scripts OpenStretchesMeet c.stations_meet_in_sessions.ensures.stand c.scripts_are_runs.ensures

pub returns-clause-quiet : goal.returns-clause-quiet
returns-clause-quiet c = of_all_scripts HasNoProcedureError c.stations_meet_in_sessions.ensures.quiet c.scripts_are_runs.ensures

pub returns-clause-window : goal.returns-clause-window
returns-clause-window c = of_all_runs SessionsStayInWindow c.stations_meet_in_sessions.ensures.window c.scripts_are_runs.ensures

pub returns-clause-confirmed : goal.returns-clause-confirmed
returns-clause-confirmed c = of_all_scripts ConfirmedAreHandedUp c.stations_meet_in_sessions.ensures.confirmed c.scripts_are_runs.ensures
