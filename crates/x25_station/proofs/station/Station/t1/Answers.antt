use Rattle.x25_station.proofs.{ClockLemmas.{timed, ok_fired, err_fired}, DoesLemmas.{retimed}, Names.{true, link_settings}, TimerLemmas.{fired_none}}
use Rattle.x25_station.proofs.station.Station.t1.Goals as goal

pub returns-clause-does : goal.returns-clause-does
returns-clause-does c = retimed _ _ c.call_link-answer.new.out c.timer_behind-out.result _ _ c.call_link-answer.ensures.does

pub returns-clause-timer : goal.returns-clause-timer
returns-clause-timer c = λ c' s fits.
    timed c' s c.args.self.now c.call_link-answer.new.self c.call_link-answer.new.out c.timer_behind-out.result fits c.call_link-answer.result _ c.is_ok.result true
    c.call_link-answer.ensures.does (ok_fired c.call_link-answer.result c.is_ok.result c.is_ok.ensures.value)
    (err_fired c.call_link-answer.result c.is_ok.result c.is_ok.ensures.value)
    (fired_none c' s)
    (λ step near entries none. c.timer_behind-out.ensures c' s step (c.timer_runs-ran.ensures (link_settings c') s.link fits.link) near entries none)
