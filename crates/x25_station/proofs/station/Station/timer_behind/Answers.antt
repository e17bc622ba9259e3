use Rattle.x25_station.proofs.{ClockLemmas.{anew_by}, Names.{◌∙◌, true, false, ap, sym, link_settings, is_anew, runs, timer_of}}
use Rattle.x25_station.proofs.station.Station.timer_behind.Goals as goal

pub returns-then-not-timer_runs : goal.returns-then-not-timer_runs
returns-then-not-timer_runs c = λ k s step ran fits entries acked.
    ap (λ b. timer_of b (is_anew s c.args.has_fired step)) (sym c.if-not-timer_runs.true ∙ c.timer_runs.ensures (link_settings k) step.near.link fits.link)

pub returns-then-ran-has_fired : goal.returns-then-ran-has_fired
returns-then-ran-has_fired c = λ k s step ran fits entries acked.
    ap (λ b. timer_of b true) (sym c.if-not-timer_runs.false ∙ c.timer_runs.ensures (link_settings k) step.near.link fits.link)
    ∙ ap (timer_of (runs step.near)) (sym c.if-ran-has_fired.true
    ∙ anew_by c.args.has_fired s step c.args.ran c.tells_link.result c.args.acknowledged c.args.out.now.entries.items ran entries c.tells_link.ensures acked)

pub returns-else-ran-has_fired : goal.returns-else-ran-has_fired
returns-else-ran-has_fired c = λ k s step ran fits entries acked.
    ap (λ b. timer_of b false) (sym c.if-not-timer_runs.false ∙ c.timer_runs.ensures (link_settings k) step.near.link fits.link)
    ∙ ap (timer_of (runs step.near)) (sym c.if-ran-has_fired.false
    ∙ anew_by c.args.has_fired s step c.args.ran c.tells_link.result c.args.acknowledged c.args.out.now.entries.items ran entries c.tells_link.ensures acked)
