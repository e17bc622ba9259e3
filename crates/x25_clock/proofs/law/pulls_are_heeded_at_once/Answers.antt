use Rattle.x25_clock.proofs.PullLemmas.{pull_is_heeded}
use Rattle.x25_clock.proofs.law.pulls_are_heeded_at_once.Goals as goal

pub returns : goal.returns
returns c = pull_is_heeded c.stations_ask_or_rest.ensures.pulled c.steps_leave_none.ensures
