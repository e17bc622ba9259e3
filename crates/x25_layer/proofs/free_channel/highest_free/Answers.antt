use Rattle.x25_layer.proofs.{FreeLemmas.{freed, highest_at}, Names.{◌≡◌, ◌-◌, ◌∙◌, ℕ, sym, ap, true, false, arith, highest_free}}
use Rattle.x25_layer.proofs.free_channel.highest_free.Goals as goal

pub returns-then-is_free-clause-value : goal.returns-then-is_free-clause-value
returns-then-is_free-clause-value c = λ s f fits.
    let high = c.loop-channel.invariant.high in
    let free = freed s c.args.circuits.now f (c.loop-channel.channel - 1) c.index-circuits-channel.result c.is_free.result fits (omega (arith, high))
    c.index-circuits-channel.is c.is_free.ensures in
    sym (c.loop-channel.invariant.free s f fits ∙ highest_at f c.loop-channel.channel true (omega arith) (free ∙ c.if-is_free.true))

pub loop-channel-preserved : goal.loop-channel-preserved
loop-channel-preserved c =
    let high = c.loop-channel.invariant.high in
    record {
      high = omega (arith, high);
      free = λ s f fits.
          let free = freed s c.args.circuits.now f (c.loop-channel.channel - 1) c.index-circuits-channel.result c.is_free.result fits (omega (arith, high))
          c.index-circuits-channel.is c.is_free.ensures in
          c.loop-channel.invariant.free s f fits ∙ highest_at f c.loop-channel.channel false (omega arith) (free ∙ c.if-is_free.false);
    }

pub returns-clause-value : goal.returns-clause-value
returns-clause-value c = λ s f fits.
    let none : c.loop-channel.channel ≡ 0 = omega arith in
    sym (c.loop-channel.invariant.free s f fits ∙ ap (λ (n : ℕ). highest_free f n) none)
