use Rattle.x25_layer.proofs.{FitLemmas.{ChangedBelow}, Names.{ℕ, Circuit, forgotten, LayerSettings, FitsCircuits}}
use Rattle.x25_layer.proofs.circuits.forget_all.Given as goal

abbrev pub invariant-loop-circuit : goal.invariant-loop-circuit
invariant-loop-circuit l = record {
  fits : (c : LayerSettings) (f : ℕ → Circuit) → FitsCircuits c l.initial.circuit-items f
      → ChangedBelow c l.circuit-index l.circuit-items f (λ k. forgotten (f k));
}
