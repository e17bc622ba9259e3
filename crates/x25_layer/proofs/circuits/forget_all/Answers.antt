use Rattle.x25_layer.proofs.Names.{ℕ, suc, ◌≡◌, ◌≤◌, ◌∙◌, List, length, sym, subst, ap, arith, slice_get-get_or, Circuit, forgotten, FitsCircuits}
use Rattle.x25_layer.proofs.FitLemmas.{changed_none, changed_more, changed_all, written_back}
use Rattle.x25_circuit.specs.declared.circuit.Circuit as circuit_code
use Rattle.x25_layer.proofs.circuits.forget_all.Goals as goal

pub loop-circuit-init : goal.loop-circuit-init
loop-circuit-init c = record {
  fits = λ s f fits. changed_none s _ f (λ k. forgotten (f k)) fits;
}

pub loop-circuit-preserved : goal.loop-circuit-preserved
loop-circuit-preserved c =
    let i : ℕ = c.loop-circuit.circuit-index in
    let read = slice_get-get_or c.loop-circuit.circuit-items i c.circuit-item.result (omega arith) in
    record {
      fits = λ s f fits.
          let before = c.loop-circuit.invariant.fits s f fits in
          let x : Circuit = f (suc i) in
          let found = before.above i _ (omega arith) read in
          changed_more s i _ f (λ k. forgotten (f k)) _ before (c.forget.ensures.fits s.circuit x found);
    }

pub returns : goal.returns
returns c =
    let high : length c.args.circuits.now.items ≤ c.args.circuits.now.len = omega arith in
    let count : length c.loop-circuit.circuit-items ≡ length c.args.circuits.now.items = omega arith in
    let all = written_back c.args.circuits.now.len c.args.circuits.now.items c.loop-circuit.circuit-items high count in
    record {
      fits = λ s f fits. subst (λ (vs : List circuit_code.Circuit). FitsCircuits s vs (λ k. forgotten (f k))) (sym all)
          (changed_all s c.loop-circuit.circuit-index c.loop-circuit.circuit-items f (λ k. forgotten (f k))
          (c.loop-circuit.invariant.fits s f (subst (λ (vs : List circuit_code.Circuit). FitsCircuits s vs f) (sym c.deref_mut-circuit-items.ensures.value)
          fits))
          (omega arith));
      count = ap length all ∙ count;
    }
