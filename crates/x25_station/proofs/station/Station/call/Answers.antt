use Rattle.x25_station.proofs.{DoesLemmas.{alike}, EitherLemmas.{said_asked}, Names.{ap, ◌∙◌, in_brief, given_with, Dials, asks}}
use Rattle.x25_station.proofs.station.Station.call.Goals as goal

pub returns : goal.returns
returns c = record {
  does = alike _ _ _ _ _ _
      (λ d s fits. said_asked d s (given_with c.args.given) (Dials c.args.called.now c.args.calling.now c.args.user.now (in_brief c.args.params))
      ∙ ap (λ p. asks d s (given_with c.args.given) (Dials c.args.called.now c.args.calling.now c.args.user.now p)) (c.proposal-proposal.ensures d s fits))
      c.dial.ensures.does;
}
