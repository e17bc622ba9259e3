use Rattle.x25_layer.proofs.{FitLemmas.{ChangedBelow}, Names.{ℕ, Circuit, LayerSettings, at_rest, FitsCircuits}}
use Rattle.x25_layer.proofs.circuits.begin_all.Given as goal

abbrev pub invariant-loop-circuit : goal.invariant-loop-circuit
invariant-loop-circuit l = record {
  fits : (c : LayerSettings) (f : ℕ → Circuit) → FitsCircuits c l.initial.circuit-items f → ChangedBelow c l.circuit-index l.circuit-items f at_rest.circuits;
}
