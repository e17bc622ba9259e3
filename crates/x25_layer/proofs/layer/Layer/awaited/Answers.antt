use Rattle.x25_layer.proofs.Names.{◌≡◌, ◌∙◌, ℕ, suc, ◌+◌, ◌-◌, ◌<◌, Bool, if◌then◌else◌, length, sym, ap, arith, is_any, awaited_up_to}
use Rattle.x25_layer.proofs.{BusyLemmas.{awaited_past}, FitLemmas.{awaited_more, read_at}}
use Rattle.x25_layer.proofs.layer.Layer.awaited.Goals as goal

pub loop-next-preserved : goal.loop-next-preserved
loop-next-preserved c =
    let i : ℕ = c.from.result - 1 in
    let same = c.from.ensures in
    let higher = c.in-Some.ensures.higher in
    let next : i + 1 ≡ c.in-Some.next = omega (arith, same, higher) in
    let low : i < length c.args.self.now.circuits.items =
    (let within = c.in-Some.ensures.within in let places = c.args.self.now.places in omega (arith, next, within, places)) in
    record {
      sum = λ s l fits.
          let read = read_at c.args.self.now.circuits.items i c.index.result.now low c.index.ensures in
          let skipped = awaited_past s c.args.self.now.circuits.items c.args.self.now.busy.words.items l.circuits fits.circuits c.args.self.now.still
          c.loop-next.channel i (omega (arith, next, higher)) (omega (arith, low))
          (λ k more less. c.in-Some.ensures.between k more (omega (arith, next, less))) in
          awaited_more l.circuits i _ _ (c.loop-next.invariant.sum s l fits ∙ sym skipped)
          (c.one_if-awaited.ensures.value ∙ ap (λ (b : Bool). if b then 1 else 0)
          (c.is_any.ensures ∙ ap is_any (c.awaits.ensures s.circuit (l.circuits (suc i)) (fits.circuits i _ read))))
          ∙ ap (λ (k : ℕ). awaited_up_to l.circuits k) next;
      few = (let few = c.one_if-awaited.ensures.few in let before = c.loop-next.invariant.few in omega (arith, few, before, higher));
      high = omega (arith, next, low);
    }

pub returns : goal.returns
returns c = λ s l fits.
    let channels = fits.channels in
    let high = c.loop-next.invariant.high in
    c.loop-next.invariant.sum s l fits
    ∙ sym (awaited_past s c.args.self.now.circuits.items c.args.self.now.busy.words.items l.circuits fits.circuits c.args.self.now.still c.loop-next.channel
    s.channels.count (omega (arith, channels, high)) (omega (arith, channels))
    (λ k more less. c.in_default.ensures.none k more))
