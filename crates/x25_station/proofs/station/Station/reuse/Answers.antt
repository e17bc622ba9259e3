use Rattle.x25_station.proofs.{ClockLemmas.{goes_on}, Names.{◌∙◌, ap, false, link_settings, timer_of}}
use Rattle.x25_station.proofs.station.Station.reuse.Goals as goal

pub returns-clause-timer : goal.returns-clause-timer
returns-clause-timer c = λ k s fits.
    c.pulled-out.ensures ∙ goes_on c.timer_runs.result ∙ ap (λ b. timer_of b false) (c.timer_runs.ensures (link_settings k) s.link fits.link)
