use Rattle.x25.proofs.tasks.simulate.Goals as goal

pub returns-clause-runs : goal.returns-clause-runs
returns-clause-runs g c = rw c.settings_of.ensures at c.sim.ensures.runs

pub returns-clause-claims : goal.returns-clause-claims
returns-clause-claims g c = rw c.settings_of.ensures at c.sim.ensures.claims
