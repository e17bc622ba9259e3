use Rattle.std.proofs.Common.{◌∙◌, ap₂, refl, ℕ}
use Rattle.x25_clock.specs.Clock.{begun}
use Rattle.x25_clock.specs.declared.times.Times.{Times}
use Rattle.x25_pipe.proofs.timed.TimedPipe.begin.Goals as goal

pub returns : goal.returns
returns c = λ k times old written w told refused h.
    let now = c.args.now in
    record {
      pipe = h.pipe;
      deadlines = c.begin.ensures.begins k w.station h.pipe.fits
          ∙ ap₂ (λ (t : Times) (n : ℕ). begun t now n k w.station) h.timers h.channels;
      timers = c.begin.ensures.times ∙ h.timers;
      channels = c.begin.ensures.channels ∙ h.channels;
      time = refl;
    }
