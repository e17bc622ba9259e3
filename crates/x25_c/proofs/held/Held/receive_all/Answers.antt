use Rattle.std.{proofs.Common.{◌∙◌, arith, refl, subst, sym}, specs.Prelude.{Ok}}
use Rattle.x25_c.{proofs.ReceiveLemmas.{ends_all, ends_full, ends_short, from_before, its_octets, one_more, sum_more, where_ok}, specs.code.Happens.{HappensTo}}
use Rattle.x25_station.specs.{code.FitsStation.{FitsStation}, laws.TimerLaw.{Comes}}
use Rattle.x25_c.proofs.held.Held.receive_all.Goals as goal

pub returns-then-count-octets : goal.returns-then-count-octets
returns-then-count-octets c =
    let i = c.loop-place.invariant in
    ends_short _ _ c.loop-place.place c.loop-place.at c.args.self.now c.loop-place.self c.loop-place-test.true i.1
    (from_before _ _ c.loop-place.place c.args.self.now _ c.loop-place.self _ c.begin.ensures.station c.begin.ensures.end
    (record { clock = c.begin.ensures.clock; time = c.begin.ensures.time }) i.2) i.0 c.if-count-octets.true i.3

pub returns-then-is_err : goal.returns-then-is_err
returns-then-is_err c =
    let i = c.loop-place.invariant in
    ends_full _ _ c.loop-place.place c.loop-place.at c.args.self.now c.loop-place.self c.loop-place-test.true i.1
    (from_before _ _ c.loop-place.place c.args.self.now _ c.loop-place.self _ c.begin.ensures.station c.begin.ensures.end
    (record { clock = c.begin.ensures.clock; time = c.begin.ensures.time }) i.2)
    c.keep.new.self c.keep.ensures.whole c.keep.ensures.station c.keep.ensures.end (record { clock = c.keep.ensures.clock; time = c.keep.ensures.time })
    (c.keep.ensures.passed ∙ i.3)

pub loop-place-preserved : goal.loop-place-preserved
loop-place-preserved c =
    let i = c.loop-place.invariant in let octets = c.args.octets.now in let counts = c.args.counts.now in let place = c.loop-place.place in (
      omega (arith, i.0, c.if-count-octets.false),
      sum_more counts place c.loop-place.at c.loop-place-test.true i.1,
      one_more octets counts place _ c.loop-place.self c.keep.new.self c.take.new.self i.2 c.keep.ensures.whole
          (where_ok c.keep.result _ (sym c.is_err.ensures.value ∙ c.if-is_err.false) c.keep.ensures.kept)
          (λ c' s fits. subst (λ v. FitsStation c' v s) (sym c.keep.ensures.station) fits) c.keep.ensures.end c.keep.ensures.time c.keep.ensures.clock
          (subst (λ f. HappensTo c.keep.new.self c.take.new.self (Ok tt) (Comes f)) (its_octets octets counts place c.loop-place.at _ i.1 refl)
          c.take.ensures.happens) c.take.ensures.earlier,
      c.take.ensures.passed ∙ c.keep.ensures.passed ∙ i.3,
    )

pub returns : goal.returns
returns c =
    let i = c.loop-place.invariant in
    ends_all c.args.octets.now c.args.counts.now c.loop-place.place c.args.self.now c.loop-place.self
    (omega (arith, c.loop-place-test.false, c.loop-place.auto.place-end))
    (from_before _ _ c.loop-place.place c.args.self.now _ c.loop-place.self _ c.begin.ensures.station c.begin.ensures.end
    (record { clock = c.begin.ensures.clock; time = c.begin.ensures.time }) i.2) i.3
