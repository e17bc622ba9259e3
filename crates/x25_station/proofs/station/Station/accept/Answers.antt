use Rattle.x25_station.proofs.{DoesLemmas.{alike}, Names.{given_with}}
use Rattle.x25_station.proofs.station.Station.accept.Goals as goal

pub returns-in-Some : goal.returns-in-Some
returns-in-Some c = record { does = alike _ _ _ _ _ _ (λ d s fits. c.in-Some.ensures d s (given_with c.args.given) fits) c.ask.ensures.does }

pub returns-in-None : goal.returns-in-None
returns-in-None c = record { does = alike _ _ _ _ _ _ (λ d s fits. c.in-None.ensures d s (given_with c.args.given) fits) c.ask-in-None.ensures.does }
