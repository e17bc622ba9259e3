use Rattle.x25_link.proofs.{FitsLemmas.{pumped_more, pumped_all, owes_is}, Names.{◌≡◌, true, false, refl, arith, pumped, owes_ready, FitsSide}}
use Rattle.x25_link.proofs.station.LinkStation.end.Goals.{else-loop-frame-test, then-loop-frame-test+then-not-pump_once}
use Rattle.x25_link.proofs.station.LinkStation.end.Goals.{else-is_up-via-then-is_up+then-self+else-not-is_busy, else-is_up-via-then-is_up+else-self}
use Rattle.x25_link.proofs.station.LinkStation.end.Goals.{else-is_up-via-else-is_up}
use Rattle.x25_link.proofs.station.LinkStation.end.Goals as goal

pub loop-frame-init : goal.loop-frame-init
unfolding pumped
loop-frame-init c = record { step = λ d before t fits. fits; few = omega arith }

pub loop-frame-preserved : goal.loop-frame-preserved
loop-frame-preserved c = record {
  step = λ d before t fits. rw pumped_more
      (c.pump_once.ensures.step d before (pumped c.loop-frame._frame d.window t) (c.loop-frame.invariant.step d before t fits));
  few = omega (arith, c.pump_once.ensures.one, c.loop-frame.invariant.few);
}

pub returns-then-not-is_busy-clause-step : goal.returns-then-not-is_busy-clause-step
returns-then-not-is_busy-clause-step c = λ d before t fits.
    let side : FitsSide d c.loop-frame-test.self before c.loop-frame-test.out (pumped 7 d.window t) = elim c.loop-frame-test.branch [
      | else-loop-frame-test w ↦
          let seven : c.loop-frame._frame ≡ 7 = omega (arith, w.loop-frame-test.false) in
          rw (w.self-is, w.out-is) (rw seven at (c.loop-frame.invariant.step d before t fits))
      | then-loop-frame-test+then-not-pump_once w ↦
          let now = c.loop-frame.invariant.step d before t fits in
          rw (w.self-is, w.out-is)
          (pumped_all d _ before _ t c.loop-frame._frame (omega (arith, w.loop-frame-test.true)) (w.if-not-pump_once.ensures.sent d _ now.near)
          (w.if-not-pump_once.ensures.step d before _ now))
    ] in
    let near = side.near in
    let owes = owes_is d _ _ near true true false (c.if-is_up.ensures) c.if-self.true (c.if-not-is_busy.ensures d _ near) in
    rw owes (c.ready.ensures.step d before (pumped 7 d.window t) side)

pub returns-else-is_up-clause-step : goal.returns-else-is_up-clause-step
returns-else-is_up-clause-step c = λ d before t fits.
    let side : FitsSide d c.loop-frame-test.self before c.loop-frame-test.out (pumped 7 d.window t) = elim c.loop-frame-test.branch [
      | else-loop-frame-test w ↦
          let seven : c.loop-frame._frame ≡ 7 = omega (arith, w.loop-frame-test.false) in
          rw (w.self-is, w.out-is) (rw seven at (c.loop-frame.invariant.step d before t fits))
      | then-loop-frame-test+then-not-pump_once w ↦
          let now = c.loop-frame.invariant.step d before t fits in
          rw (w.self-is, w.out-is)
          (pumped_all d _ before _ t c.loop-frame._frame (omega (arith, w.loop-frame-test.true)) (w.if-not-pump_once.ensures.sent d _ now.near)
          (w.if-not-pump_once.ensures.step d before _ now))
    ] in
    let near = side.near in
    let owes : owes_ready (pumped 7 d.window t).near ≡ false = elim c.else-is_up.branch [
      | else-is_up-via-then-is_up+then-self+else-not-is_busy w ↦
          owes_is d _ _ near true true true w.if-is_up.ensures w.if-self.true (w.if-not-is_busy.ensures d _ near)
      | else-is_up-via-then-is_up+else-self w ↦ owes_is d _ _ near true false _ w.if-is_up.ensures w.if-self.false refl
      | else-is_up-via-else-is_up w ↦ owes_is d _ _ near false _ _ w.if-is_up.ensures refl refl
    ] in
    rw owes side
