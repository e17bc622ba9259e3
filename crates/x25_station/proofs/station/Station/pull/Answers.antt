use Rattle.x25_station.{proofs.Names.{◌∙◌, ap, link_settings, pulled_timer, runs}, specs.Pulling.{pulled}}
use Rattle.x25_station.proofs.station.Station.pull.Goals as goal

pub returns-clause-timer : goal.returns-clause-timer
returns-clause-timer c = λ few c' s fits.
    c.pulled-out.ensures
    ∙ ap (λ b. pulled_timer c.args.out.now.timer b c.timer_runs.result) (c.timer_runs-ran.ensures (link_settings c') s.link fits.link)
    ∙ ap (λ b. pulled_timer c.args.out.now.timer (runs s) b)
    (c.timer_runs.ensures (link_settings c') (pulled c' s).near.link (c.pull_frames.ensures.state c' s fits).link)
