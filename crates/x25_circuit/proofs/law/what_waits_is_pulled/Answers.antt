use Rattle.x25_circuit.proofs.PullLemmas.{pulls_empty}
use Rattle.x25_circuit.proofs.law.what_waits_is_pulled.Goals as goal

pub returns : goal.returns
returns c = pulls_empty
