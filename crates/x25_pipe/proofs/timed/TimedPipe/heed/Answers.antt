use Rattle.std.proofs.Common.{◌≡◌, ◌∙◌, Bool, ap, ap₂}
use Rattle.x25_clock.specs.Clock.{Seen, is_heard, seen}
use Rattle.x25_layer.specs.code.FitsLayer.{awaited_at, unacknowledged_at}
use Rattle.x25_station.specs.Config.{layer_settings}
use Rattle.x25_station.specs.Station.Told.{is_at_rest}
use Rattle.x25_station.specs.Timer.{tells_link}
use Rattle.x25_station.specs.declared.timer.Timer.{Timer}
use Rattle.x25_pipe.specs.Timed.{moment_of, seen_at}
use Rattle.x25_pipe.proofs.TimedLemmas.{heeded_alike}
use Rattle.x25_pipe.proofs.timed.TimedPipe.heed.Goals as goal

pub returns : goal.returns
returns c = λ k times old now w told refused a h deadlines is_times channels time.
    let step = c.args.self.now.pipe.step in
    let by : Timer → Bool → Bool → Seen = λ t noted heard. record {
      timer = t;
      at_rest = is_at_rest a.next;
      restarting = a.next.layer.restarting;
      noted = noted;
      heard = heard;
      awaited = λ h. awaited_at (layer_settings k) a.next.layer h;
      unacknowledged = λ h. unacknowledged_at (layer_settings k) a.next.layer h;
    } in
    let same : seen k a.next step c.args.self.now.pipe.has_come ≡ seen_at k a =
    ap (λ t. by t (tells_link step.entries.items) (is_heard c.args.self.now.pipe.has_come step.frames step.entries.items)) h.timer
    ∙ ap₂ (λ entries heard. by a.timer (tells_link entries) heard) h.entries h.is_heard in
    record {
      pipe = h.stands;
      deadlines = c.heed.ensures.heeds k a.next h.stands.fits
          ∙ heeded_alike _ times _ (moment_of w.now) _ (seen_at k a) _ w.deadlines is_times (c.moment_at-now.ensures ∙ ap moment_of time) same deadlines;
      timers = c.heed.ensures.times ∙ is_times;
      channels = c.heed.ensures.channels ∙ channels;
      time = time;
    }
