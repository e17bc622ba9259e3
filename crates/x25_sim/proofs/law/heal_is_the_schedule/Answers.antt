use Rattle.x25_sim.specs.laws.RunLaw.{HealRestShowsAll, HealBringsAll}
use Rattle.x25_sim.proofs.RunLemmas.{of_all_scripts}
use Rattle.x25_sim.proofs.ScheduleLemmas as lemma
use Rattle.x25_sim.proofs.law.heal_is_the_schedule.Goals as goal

pub returns-clause-schedule : goal.returns-clause-schedule
returns-clause-schedule c = lemma.heal_is_the_schedule

pub returns-clause-arrives : goal.returns-clause-arrives
returns-clause-arrives c = of_all_scripts HealBringsAll (lemma.heals_throughout c.healing_brings_all.ensures.arrives) c.scripts_are_runs.ensures

pub returns-clause-shows : goal.returns-clause-shows
returns-clause-shows c = of_all_scripts HealRestShowsAll (lemma.shows_throughout c.healing_brings_all.ensures.shows) c.scripts_are_runs.ensures
