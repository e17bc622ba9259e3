use Rattle.x25_layer.proofs.{FreeLemmas.{freed, lowest_none, lowest_some}, Names.{◌≡◌, ◌+◌, ◌∙◌, ℕ, length, sym, ap, arith, lowest_free}}
use Rattle.x25_layer.proofs.free_channel.lowest_free.Goals as goal

pub returns-then-is_free-clause-value : goal.returns-then-is_free-clause-value
returns-then-is_free-clause-value c = λ s f fits.
    let free = freed s c.args.circuits.now f c.loop-circuit.circuit-index c.circuit-item.result c.is_free.result fits c.loop-circuit-test.true
    c.circuit-item.is c.is_free.ensures in
    lowest_some f c.loop-circuit.circuit-index _ c.loop-circuit.channel c.loop-circuit.invariant.channel (c.loop-circuit.invariant.none s f fits)
    (free ∙ c.if-is_free.true) c.loop-circuit-test.true

pub loop-circuit-preserved : goal.loop-circuit-preserved
loop-circuit-preserved c = record {
  channel = ap (λ (n : ℕ). n + 1) c.loop-circuit.invariant.channel;
  none = λ s f fits.
      let free = freed s c.args.circuits.now f c.loop-circuit.circuit-index c.circuit-item.result c.is_free.result fits c.loop-circuit-test.true
      c.circuit-item.is c.is_free.ensures in
      lowest_none f c.loop-circuit.circuit-index (c.loop-circuit.invariant.none s f fits) (free ∙ c.if-is_free.false);
}

pub returns-clause-value : goal.returns-clause-value
returns-clause-value c = λ s f fits.
    let all : c.loop-circuit.circuit-index ≡ length c.args.circuits.now = omega arith in
    sym (c.loop-circuit.invariant.none s f fits) ∙ ap (λ (n : ℕ). lowest_free f n) all
