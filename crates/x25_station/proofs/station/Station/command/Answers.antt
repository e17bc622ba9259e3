use Rattle.x25_station.proofs.{ClockLemmas.{timed, always, not_ever}, DoesLemmas.{retimed}, Names.{false, refl, link_settings}, TimerLemmas.{asked_none}}
use Rattle.x25_station.proofs.station.Station.command.Goals as goal

pub returns-clause-does : goal.returns-clause-does
returns-clause-does c = retimed _ _ c.carry_out-answer.new.out c.timer_behind-out.result _ _ c.carry_out-answer.ensures.does

pub returns-clause-timer : goal.returns-clause-timer
returns-clause-timer c = λ c' s fits.
    timed c' s c.args.self.now c.carry_out-answer.new.self c.carry_out-answer.new.out c.timer_behind-out.result fits c.carry_out-answer.result _ false false
    c.carry_out-answer.ensures.does (always c.carry_out-answer.result refl) (not_ever c.carry_out-answer.result refl)
    (asked_none c' s _)
    (λ step near entries none. c.timer_behind-out.ensures c' s step (c.timer_runs-ran.ensures (link_settings c') s.link fits.link) near entries none)

pub returns-clause-only : goal.returns-clause-only
returns-clause-only c = λ few c' s fits. c.carry_out-answer.ensures.only few c' s fits
