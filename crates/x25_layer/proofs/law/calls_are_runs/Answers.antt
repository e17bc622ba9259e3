use Rattle.x25_layer.proofs.{RoundLemmas.{calls_run, hears_run}, SettleLemmas.{rounds_settle, rounds_behind, rounds_at_end, comes_up_alone}}
use Rattle.x25_layer.proofs.law.calls_are_runs.Goals as goal

pub returns : goal.returns
returns c = record { calls = calls_run; hears = hears_run; settle = rounds_settle; on = rounds_behind; end = rounds_at_end; up = comes_up_alone }
