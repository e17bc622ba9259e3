use Rattle.std.proofs.Common.{◌≡◌, ◌∙◌, Ok, Err, Some, false, ap, refl, subst}
use Rattle.x25_c.{proofs.HappenLemmas.{from_still, is_both, is_refused}, specs.Clocked.{Heeds, moment_of}, specs.declared.held.Held.{Held}}
use Rattle.x25_clock.specs.{Clock.{seen}, Due.{channel_for, event_for, timer_number}, declared.due.Due.{Due}, laws.ClockLaw.{comes}}
use Rattle.x25_layer.specs.code.FitsLayer.{awaited_at}
use Rattle.x25_station.specs.Config.{layer_settings}
use Rattle.x25_clock.specs.declared.due.Due.TheVariants as due
use Rattle.x25_c.proofs.held.Held.insist.Goals as goal

-- no octets come
none_come : (d : Due) → false ≡ comes (event_for d)
none_come due.T1 = refl
none_come due.Probe = refl
none_come (due.Reset h) = refl
none_come (due.ResetUnacknowledged h) = refl
none_come (due.Clear h) = refl
none_come (due.Restart h) = refl
none_come due.Relink = refl

pub returns-in-Ok : goal.returns-in-Ok
returns-in-Ok c =
    let asks = c.in-Ok.ensures in
    let old = c.args.self.now in
    let mid = c.begin.new.self in
    let alone = c.begin.ensures.alone in
    let new : Held = record mid {
      station = c.pull.new.self;
      step = c.pull.new.out;
      clock = c.heed.new.clock;
      passed = Some (record { timer = c.timer-timer.result; channel = c.channel-channel.result });
    } in
    let happens = is_both mid new c.ask.new.station c.ask.new.step (event_for asks.asked) asks.done.does asks.done.timer c.pull.ensures.pulls
    c.pull.ensures.timer c.pull.ensures.entries (λ none. asks.done.only) refl refl
    (λ k s fits. subst (λ come. Heeds (moment_of mid.time) (seen k s c.pull.new.out come) mid.clock c.heed.new.clock) (none_come asks.asked)
    (c.heed.ensures k s fits)) in
    record {
      asked = asks.asked;
      is = λ k s fits. asks.is k s (c.begin.ensures.station k s fits);
      happens = from_still old mid new (Ok tt) (event_for asks.asked) c.begin.ensures.station c.begin.ensures.end c.begin.ensures.time c.begin.ensures.clock
          happens;
      alone = record { frames = alone.frames; entries = alone.entries; timer = alone.timer };
      passed = λ k s fits. ap (λ timer. Some (record { timer = timer; channel = c.channel-channel.result }))
          (c.timer-timer.ensures ∙ ap (λ awaits. timer_number old.end awaits c.args.due)
          (c.awaited.ensures k s fits ∙ ap (λ h. awaited_at (layer_settings k) s.layer h) c.channel-channel.ensures))
          ∙ ap (λ h. Some (record {
            timer = timer_number old.end (awaited_at (layer_settings k) s.layer (channel_for c.args.due)) c.args.due;
            channel = h;
          })) c.channel-channel.ensures;
    }

pub returns-in-Err : goal.returns-in-Err
returns-in-Err c =
    let asks = c.in-Err.ensures in
    let old = c.args.self.now in
    let mid = c.begin.new.self in
    let alone = c.begin.ensures.alone in
    let new : Held = record mid { station = c.ask.new.station; step = c.ask.new.step } in
    let happens = is_refused mid new c.in-Err.error (event_for asks.asked) refl asks.done.does.refused (λ none. asks.done.only) asks.done.does.stays
    asks.done.does.empty asks.done.timer refl refl in
    record {
      asked = asks.asked;
      is = λ k s fits. asks.is k s (c.begin.ensures.station k s fits);
      happens = from_still old mid new (Err c.in-Err.error) (event_for asks.asked) c.begin.ensures.station c.begin.ensures.end c.begin.ensures.time
          c.begin.ensures.clock happens;
      alone = record { frames = alone.frames; entries = alone.entries; timer = alone.timer };
      passed = λ k s fits. c.begin.ensures.passed;
    }
