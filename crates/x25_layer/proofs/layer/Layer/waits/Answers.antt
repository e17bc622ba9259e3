use Rattle.x25_layer.proofs.Names.{◌≡◌, ◌∙◌, ℕ, suc, ◌+◌, ◌-◌, ◌<◌, length, sym, ap, arith, waits_up_to}
use Rattle.x25_layer.proofs.{BusyLemmas.{waits_past}, FitLemmas.{waits_more, read_at}}
use Rattle.x25_layer.proofs.layer.Layer.waits.Goals as goal

pub loop-next-preserved : goal.loop-next-preserved
loop-next-preserved c =
    let i : ℕ = c.from.result - 1 in
    let same = c.from.ensures in
    let higher = c.in-Some.ensures.higher in
    let next : i + 1 ≡ c.in-Some.next = omega (arith, same, higher) in
    let low : i < length c.args.self.now.circuits.items =
    (let within = c.in-Some.ensures.within in let places = c.args.self.now.places in omega (arith, next, within, places)) in
    record {
      sum = λ s l fits.
          let read = read_at c.args.self.now.circuits.items i c.index.result.now low c.index.ensures in
          let skipped = waits_past s c.args.self.now.circuits.items c.args.self.now.busy.words.items l.circuits fits.circuits c.args.self.now.still
          c.loop-next.channel i (omega (arith, next, higher)) (omega (arith, low))
          (λ k more less. c.in-Some.ensures.between k more (omega (arith, next, less))) in
          waits_more s l.circuits i _ _ (c.loop-next.invariant.sum s l fits ∙ sym skipped)
          (c.waits-waits.ensures.value s.circuit (l.circuits (suc i)) (fits.circuits i _ read))
          ∙ ap (λ (k : ℕ). waits_up_to l.circuits k) next;
      few = (let few = c.waits-waits.ensures.few in let before = c.loop-next.invariant.few in omega (arith, few, before, higher));
      high = omega (arith, next, low);
    }

pub returns : goal.returns
returns c = λ s l fits.
    let channels = fits.channels in
    let high = c.loop-next.invariant.high in
    c.loop-next.invariant.sum s l fits
    ∙ sym (waits_past s c.args.self.now.circuits.items c.args.self.now.busy.words.items l.circuits fits.circuits c.args.self.now.still c.loop-next.channel
    s.channels.count (omega (arith, channels, high)) (omega (arith, channels))
    (λ k more less. c.in_default.ensures.none k more))
