use Rattle.std.proofs.Common.{◌≡◌, ◌∙◌, ◌+◌, ◌≤◌, length, map, slice_set, ap, refl, arith}
use Rattle.x25_clock.specs.declared.wait.Wait.{Wait}
use Rattle.x25_clock.specs.Clock.{rotated}
use Rattle.x25_clock.proofs.ListLemmas.{left_mapped, changed_more, written_back}
use Rattle.x25_clock.proofs.awaited.rotate_in.Goals as goal

pub loop-wait-init : goal.loop-wait-init
loop-wait-init c = refl

pub loop-wait-preserved : goal.loop-wait-preserved
loop-wait-preserved c =
    let f = rotated c.args.times c.args.now c.args.channel in
    ap (λ (w : Wait). left_mapped f (c.loop-wait.wait-index + 1) (slice_set c.loop-wait.wait-items c.loop-wait.wait-index w)) c.rotated.ensures
    ∙ changed_more f c.loop-wait.wait-index c.loop-wait.wait-items c.deref_mut-wait-items.result.now _ (omega arith) c.loop-wait.invariant

pub returns-clause-items : goal.returns-clause-items
returns-clause-items c =
    let f = rotated c.args.times c.args.now c.args.channel in
    let value = c.deref_mut-wait-items.ensures.value in
    let same : length c.loop-wait.wait-items ≡ length c.args.waits.now.items = c.loop-wait.auto.wait-items ∙ ap length value in
    let all : length c.loop-wait.wait-items ≤ c.loop-wait.wait-index = omega arith in
    let high : length c.args.waits.now.items ≤ c.args.waits.now.len = omega arith in
    written_back f c.loop-wait.wait-index c.args.waits.now.len c.loop-wait.wait-items c.args.waits.now.items (c.loop-wait.invariant ∙ ap (map f) value) all
    high same
