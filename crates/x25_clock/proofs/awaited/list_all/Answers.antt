use Rattle.std.proofs.Common.{◌≡◌, ◌∙◌, ◌+◌, ◌≤◌, ◌++◌, List, [], ◌∷◌, ℕ, ap, sym, subst, arith}
use Rattle.x25_layer.specs.code.FitsLayer.{awaited_at, unacknowledged_at}
use Rattle.x25_station.specs.Config.{layer_settings}
use Rattle.x25_clock.specs.Clock.{heeded_on, wait_after, wait_at}
use Rattle.x25_clock.specs.declared.wait.Wait.{Wait}
use Rattle.x25_clock.specs.Awaited.{AreListed}
use Rattle.x25_clock.proofs.ListedLemmas.{listed_short, still_listed, more_listed, one_heard, all_heard}
use Rattle.x25_clock.proofs.awaited.list_all.Goals as goal

pub push_reserved-requires : goal.push_reserved-requires
push_reserved-requires c =
    let before = c.loop-channel.invariant in
    let few = listed_short c.loop-channel.past 0 c.loop-channel.list.items before.3 (omega arith) in
    let higher = c.in-Some.ensures.higher in
    let within = c.in-Some.ensures.within in
    let places = before.2 in
    omega (arith, few, higher, within, places)

pub loop-channel-preserved : goal.loop-channel-preserved
loop-channel-preserved c =
    let l = c.loop-channel in
    let before = l.invariant in
    let found = c.find-place.ensures in
    let stands = c.channel-stands.result in
    let x : Wait = wait_after c.args.times c.args.now stands.awaits stands.unacknowledged c.find-place.result.1 in
    let pushed = c.push_reserved.ensures.items ∙ ap (λ (y : Wait). l.list.items ++ y ∷ []) c.heed.ensures in (
      c.in-Some.ensures.within,
      found.bound,
      (let room = c.push_reserved.ensures.capacity in let places = before.2 in omega (arith, room, places)),
      subst (AreListed c.in-Some.channel 0) (sym pushed)
          (more_listed c.args.times c.args.now c.args.old.now l.list.items l.at l.past c.in-Some.channel stands.awaits stands.unacknowledged
          c.find-place.result.1 before.3 before.4 c.in-Some.ensures.higher found.wait),
      (λ h high. found.rest h high ∙ before.4 h (let higher = c.in-Some.ensures.higher in omega (arith, high, higher))),
      (λ d s fits. subst (λ (ws : List Wait). (h : ℕ) → 1 ≤ h → h ≤ c.in-Some.channel → wait_at h ws
          ≡ heeded_on c.args.times c.args.now (layer_settings d) s.layer (wait_at h c.args.old.now)) (sym pushed)
          (one_heard c.args.times c.args.now (λ k. awaited_at (layer_settings d) s.layer k) (λ k. unacknowledged_at (layer_settings d) s.layer k)
          c.args.old.now l.list.items l.at l.past c.in-Some.channel stands.awaits stands.unacknowledged c.find-place.result.1
          before.3 before.4 (before.5 d s fits) c.in-Some.ensures.higher (c.in-Some.ensures.between d s fits) (c.channel-stands.ensures.awaits d s fits)
          (c.channel-stands.ensures.unacknowledged d s fits) found.wait)),
    )

pub returns-clause-listed : goal.returns-clause-listed
returns-clause-listed c =
    let l = c.loop-channel in
    still_listed l.past c.args.most 0 l.list.items l.invariant.0 l.invariant.3

pub returns-clause-heeds : goal.returns-clause-heeds
returns-clause-heeds c = λ d s fits h low high.
    let l = c.loop-channel in
    all_heard c.args.times c.args.now (λ k. awaited_at (layer_settings d) s.layer k) (λ k. unacknowledged_at (layer_settings d) s.layer k)
    c.args.old.now l.list.items l.past (c.args.most + 1)
    l.invariant.3 (l.invariant.5 d s fits) (c.in_default.ensures.none d s fits) h low (omega (arith, high))
