use Rattle.x25_station.proofs.Names.{◌≡◌, ◌∙◌, ℕ, ◌-◌, ◌+◌, ◌≤◌, List, sym, subst, arith, FitsLayer, Putting, FitsWhole, after_put_to, after_all}
use Rattle.x25_station.proofs.LinkLemmas.{on_ok}
use Rattle.x25_station.proofs.RoundLemmas.{begins, next_round, ends_here, ends_shut, one_more, room_when, shut_when, shut_after, turn_here, turn_shut}
use Rattle.x25_link.specs.laws.LinkLaws.{acked_low}
use Rattle.x25_station.proofs.driving.pull_all.Goals as goal

pub loop-left-init : goal.loop-left-init
loop-left-init c = record {
  up = c.requires.up;
  longest = c.requires.longest;
  few = omega arith;
  places = c.requires.places;
  high = let fits = c.type_inv.channel.fits in omega (arith, fits);
  within = λ s x p fits link.
      begins s x c.args.turn.now p c.args.layer.now c.args.link.now fits link
      (acked_low c.args.link.now (after_all x p.put) link);
}

pub loop-left-preserved-in-Some : goal.loop-left-preserved-in-Some
loop-left-preserved-in-Some c =
    let some = c.loop-left-test.true in
    let now = c.loop-left.invariant in
    record {
      up = c.put.ensures.up_stays ∙ now.up;
      longest = (let a = c.put.ensures.longest_stays in let b = now.longest in omega (arith, a, b));
      few = (let few = now.few in omega (arith, few));
      places = (let a = on_ok c.put.result c.unwrap.result _ c.unwrap.ensures c.put.ensures.places in let b = now.places in omega (arith, a, b, some));
      high = let within = c.in-Some.ensures.within in omega (arith, within);
      within = λ s x p fits link.
          let w = now.within s x p fits link in
          let fewer : c.loop-left.left ≡ (c.loop-left.left - 1) + 1 = omega (arith, some) in
          one_more s x c.args.turn.now p c.loop-left.layer c.pull.new.self c.loop-left.link c.put.new.self c.loop-left.channel c.in-Some.next c.loop-left.left
          (c.loop-left.left - 1) c.in-Some.ensures.higher fewer w
          (room_when c.loop-left.link _ c.waiting.result w.link c.waiting.ensures.value c.if-waiting-lt-FEW.true)
          (c.in-Some.ensures.next s _ w.layer)
          (λ y f. subst (λ (octets : List ℕ). FitsWhole c.put.new.self (after_put_to y octets)) c.to_put.ensures
          (on_ok c.put.result c.unwrap.result _ c.unwrap.ensures (c.put.ensures.state y f)));
    }

pub loop-left-preserved : goal.loop-left-preserved
loop-left-preserved c =
    let now = c.loop-left.invariant in
    record {
      up = now.up;
      longest = now.longest;
      few = now.few;
      places = now.places;
      high = omega arith;
      within = λ s x p fits link.
          let w = now.within s x p fits link in
          next_round c.calls_are_runs.ensures.on s x c.args.turn.now p c.loop-left.layer c.pull.new.self c.loop-left.link c.loop-left.channel c.loop-left.left w
          (room_when c.loop-left.link _ c.waiting.result w.link c.waiting.ensures.value c.if-waiting-lt-FEW.true)
          (c.in-None.ensures.next s _ w.layer);
    }

pub returns-then-channel-eq0-clause-layer : goal.returns-then-channel-eq0-clause-layer
returns-then-channel-eq0-clause-layer c = λ s p x fits link.
    let w = c.loop-left.invariant.within s x p fits link in
    let none = c.in-None.ensures.next s _ w.layer in
    subst (λ (u : Putting). FitsLayer s c.pull.new.self u.layer)
    (sym (ends_here c.calls_are_runs.ensures.end s x c.args.turn.now p c.loop-left.layer c.pull.new.self c.loop-left.link c.loop-left.channel c.loop-left.left
    c.if-channel-eq0.true w none)) none.layer

pub returns-then-channel-eq0-clause-link : goal.returns-then-channel-eq0-clause-link
returns-then-channel-eq0-clause-link c = λ s p x fits link.
    let w = c.loop-left.invariant.within s x p fits link in
    let none = c.in-None.ensures.next s _ w.layer in
    subst (λ (u : Putting). FitsWhole c.loop-left.link (after_all x u.put))
    (sym (ends_here c.calls_are_runs.ensures.end s x c.args.turn.now p c.loop-left.layer c.pull.new.self c.loop-left.link c.loop-left.channel c.loop-left.left
    c.if-channel-eq0.true w none)) w.link

pub returns-else-waiting-lt-FEW-clause-layer : goal.returns-else-waiting-lt-FEW-clause-layer
returns-else-waiting-lt-FEW-clause-layer c = λ s p x fits link.
    let w = c.loop-left.invariant.within s x p fits link in
    let high : 8 ≤ c.waiting.result = omega arith in
    let shut = shut_when c.loop-left.link _ c.waiting.result w.link c.waiting.ensures.value high in
    subst (λ (u : Putting). FitsLayer s c.loop-left.layer u.layer)
    (sym (ends_shut c.calls_are_runs.ensures.end s x c.args.turn.now p c.loop-left.layer c.loop-left.link c.loop-left.channel c.loop-left.left w
    shut)) w.layer

pub returns-else-waiting-lt-FEW-clause-link : goal.returns-else-waiting-lt-FEW-clause-link
returns-else-waiting-lt-FEW-clause-link c = λ s p x fits link.
    let w = c.loop-left.invariant.within s x p fits link in
    let high : 8 ≤ c.waiting.result = omega arith in
    let shut = shut_when c.loop-left.link _ c.waiting.result w.link c.waiting.ensures.value high in
    subst (λ (u : Putting). FitsWhole c.loop-left.link (after_all x u.put))
    (sym (ends_shut c.calls_are_runs.ensures.end s x c.args.turn.now p c.loop-left.layer c.loop-left.link c.loop-left.channel c.loop-left.left w
    shut)) w.link

pub returns-after-loop-left-clause-layer : goal.returns-after-loop-left-clause-layer
returns-after-loop-left-clause-layer c = λ s p x fits link.
    let w = c.loop-left.invariant.within s x p fits link in
    let none : c.loop-left.left ≡ 0 = omega arith in
    let shut = shut_after c.loop-left.link _ c.loop-left.left w.link none w.enough in
    subst (λ (u : Putting). FitsLayer s c.loop-left.layer u.layer)
    (sym (ends_shut c.calls_are_runs.ensures.end s x c.args.turn.now p c.loop-left.layer c.loop-left.link c.loop-left.channel c.loop-left.left w
    shut)) w.layer

pub returns-after-loop-left-clause-link : goal.returns-after-loop-left-clause-link
returns-after-loop-left-clause-link c = λ s p x fits link.
    let w = c.loop-left.invariant.within s x p fits link in
    let none : c.loop-left.left ≡ 0 = omega arith in
    let shut = shut_after c.loop-left.link _ c.loop-left.left w.link none w.enough in
    subst (λ (u : Putting). FitsWhole c.loop-left.link (after_all x u.put))
    (sym (ends_shut c.calls_are_runs.ensures.end s x c.args.turn.now p c.loop-left.layer c.loop-left.link c.loop-left.channel c.loop-left.left w
    shut)) w.link

pub returns-then-channel-eq0-clause-turn : goal.returns-then-channel-eq0-clause-turn
returns-then-channel-eq0-clause-turn c = λ s p x fits link.
    let w = c.loop-left.invariant.within s x p fits link in
    let none = c.in-None.ensures.next s _ w.layer in
    turn_here s x c.args.turn.now p _
    (ends_here c.calls_are_runs.ensures.end s x c.args.turn.now p c.loop-left.layer c.pull.new.self c.loop-left.link c.loop-left.channel c.loop-left.left
    c.if-channel-eq0.true w none)
    (room_when c.loop-left.link _ c.waiting.result w.link c.waiting.ensures.value c.if-waiting-lt-FEW.true)

pub returns-else-waiting-lt-FEW-clause-turn : goal.returns-else-waiting-lt-FEW-clause-turn
returns-else-waiting-lt-FEW-clause-turn c = λ s p x fits link.
    let w = c.loop-left.invariant.within s x p fits link in
    let high : 8 ≤ c.waiting.result = omega arith in
    let shut = shut_when c.loop-left.link _ c.waiting.result w.link c.waiting.ensures.value high in
    turn_shut s x c.args.turn.now p c.loop-left.layer c.loop-left.link c.loop-left.channel c.loop-left.left w
    (ends_shut c.calls_are_runs.ensures.end s x c.args.turn.now p c.loop-left.layer c.loop-left.link c.loop-left.channel c.loop-left.left w shut) shut

pub returns-after-loop-left-clause-turn : goal.returns-after-loop-left-clause-turn
returns-after-loop-left-clause-turn c = λ s p x fits link.
    let w = c.loop-left.invariant.within s x p fits link in
    let none : c.loop-left.left ≡ 0 = omega arith in
    let shut = shut_after c.loop-left.link _ c.loop-left.left w.link none w.enough in
    turn_shut s x c.args.turn.now p c.loop-left.layer c.loop-left.link c.loop-left.channel c.loop-left.left w
    (ends_shut c.calls_are_runs.ensures.end s x c.args.turn.now p c.loop-left.layer c.loop-left.link c.loop-left.channel c.loop-left.left w shut) shut
