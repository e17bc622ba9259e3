use Rattle.x25_station.proofs.Names.{Bool, not, ap₂, ◌&&◌, link_settings, layer_settings}
use Rattle.x25_station.proofs.station.Station.status.Goals as goal

pub returns-clause-is_at_rest : goal.returns-clause-is_at_rest
returns-clause-is_at_rest c = λ d s fits.
    ap₂ (λ (a b : Bool). a && not b) (c.idle.ensures (link_settings d) s.link fits.link) (c.timer_runs-timer_runs.ensures (link_settings d) s.link fits.link)

pub returns-clause-awaits_ua : goal.returns-clause-awaits_ua
returns-clause-awaits_ua c = λ d s fits. c.awaits_ua.ensures (link_settings d) s.link fits.link

pub returns-clause-is_restarting : goal.returns-clause-is_restarting
returns-clause-is_restarting c = λ d s fits. c.is_restarting.ensures (layer_settings d) s.layer fits.layer

pub returns-clause-timer_runs : goal.returns-clause-timer_runs
returns-clause-timer_runs c = λ d s fits. c.timer_runs-timer_runs.ensures (link_settings d) s.link fits.link
