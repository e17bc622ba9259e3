use Rattle.x25_layer.proofs.Names.{◌≡◌, ℕ, None, Circuit, lowest_free, LayerSettings, FitsCircuits}
use Rattle.x25_layer.proofs.free_channel.lowest_free.Given as goal

abbrev pub invariant-loop-circuit : goal.invariant-loop-circuit
invariant-loop-circuit l = record {
  channel : l.channel ≡ l.circuit-index;
  none : (c : LayerSettings) (f : ℕ → Circuit) → FitsCircuits c l.circuits f → lowest_free f l.circuit-index ≡ None;
}
