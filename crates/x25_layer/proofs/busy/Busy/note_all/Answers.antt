use Rattle.x25_layer.proofs.Names.{◌≡◌, ◌∙◌, inl, inr, ℕ, suc, ◌+◌, slice_get, sym, ap, subst, arith, cases_lt, same_Some, slice_get_within, IsOutside, IsIdle}
use Rattle.x25_layer.proofs.{BusyLemmas.{idle_is, not_busy}, FitLemmas.{read_at}}
use Rattle.x25_circuit.specs.declared.circuit.Circuit as circuit_code
use Rattle.x25_layer.proofs.busy.Busy.note_all.Goals as goal

pub loop-circuit-preserved : goal.loop-circuit-preserved
loop-circuit-preserved c = record {
  channel = ap (λ (n : ℕ). n + 1) c.loop-circuit.invariant.channel;
  places = c.note.ensures.places ∙ c.loop-circuit.invariant.places;
  idle = λ k v less at out.
      let channel = c.loop-circuit.invariant.channel in
      elim (cases_lt k c.loop-circuit.circuit-index) [
        | inl below ↦
            c.loop-circuit.invariant.idle k v below at (c.note.ensures.others (suc k) out)
        | inr up ↦
            let same : c.loop-circuit.circuit-index ≡ k = omega (arith, less, up) in
            let here : suc k ≡ c.loop-circuit.channel + 1 = omega (arith, same, channel) in
            let read = read_at c.args.circuits.now c.loop-circuit.circuit-index c.circuit-item.result c.loop-circuit-test.true c.circuit-item.is in
            subst (λ (u : circuit_code.Circuit). IsIdle u)
            (same_Some c.circuit-item.result v (sym read ∙ ap (λ (n : ℕ). slice_get c.args.circuits.now n) same ∙ at))
            (idle_is c.circuit-item.result c.is_idle.result c.is_idle.ensures.value c.is_idle.ensures.none (not_busy _ (c.note.ensures.this (subst (λ (h : ℕ). IsOutside c.note.new.self.words.items h) here out))))
      ];
}

pub returns-clause-idle : goal.returns-clause-idle
returns-clause-idle c = λ k v at out.
    let low = slice_get_within c.args.circuits.now k v at in
    c.loop-circuit.invariant.idle k v (omega (arith, low)) at out
