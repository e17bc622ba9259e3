use Rattle.x25_switch.proofs.RunLemmas.{heeding_runs, asking_runs, lingering_runs}
use Rattle.x25_switch.proofs.law.calls_run_by_events.Goals as goal

pub returns : goal.returns
returns c = record { heeding = heeding_runs; asking = asking_runs; lingering = lingering_runs }
