use Rattle.std.proofs.Common.{ℕ, ◌≡◌, ◌++◌, List, ◌∙◌, ap, arith, take}
use Rattle.std.proofs.lemmas.List.{take_all}
use Rattle.x25_packet.specs.Digits.{packed}
use Rattle.x25_packet.proofs.AddressLaws.{length-pairs, one_pair}
use Rattle.x25_packet.proofs.spelling.append_digits.Goals as goal

pub push_reserved-requires : goal.push_reserved-requires
push_reserved-requires c =
    let size = length-pairs c.args.called.now c.args.calling.now in
    omega (arith, c.loop-pair.invariant.1, c.loop-pair.invariant.2, c.requires, c.loop-pair-test.true)

pub loop-pair-preserved : goal.loop-pair-preserved
loop-pair-preserved c =
    let size = length-pairs c.args.called.now c.args.calling.now in (
      c.push_reserved.ensures.items
          ∙ one_pair (c.args.called.now ++ c.args.calling.now) c.args.octets.now.items c.loop-pair.octets.items c.loop-pair.pair c.digit_at-high.result
          c.digit_at-low.result
          (omega (arith, c.loop-pair-test.true)) c.loop-pair.invariant.0 c.digit_at-high.ensures.value c.digit_at-low.ensures.value,
      omega (arith, c.loop-pair.invariant.1, c.push_reserved.ensures.len),
      omega (arith, c.loop-pair.invariant.2, c.push_reserved.ensures.capacity),
    )

pub returns-clause-items : goal.returns-clause-items
returns-clause-items c =
    let size = length-pairs c.args.called.now c.args.calling.now in
    let whole : take c.loop-pair.pair (packed (c.args.called.now ++ c.args.calling.now)) ≡ packed (c.args.called.now ++ c.args.calling.now) =
    take_all c.loop-pair.pair (packed (c.args.called.now ++ c.args.calling.now)) (omega (arith, c.loop-pair-test.false)) in
    c.loop-pair.invariant.0 ∙ ap (λ (o : List ℕ). c.args.octets.now.items ++ o) whole

pub returns-clause-len : goal.returns-clause-len
returns-clause-len c =
    let size = length-pairs c.args.called.now c.args.calling.now in
    omega (arith, c.loop-pair.invariant.1, c.loop-pair-test.false, c.loop-pair.auto.pair-end)
