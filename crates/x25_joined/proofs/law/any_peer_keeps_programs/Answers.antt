use Rattle.x25_joined.specs.laws.BesidePeerClaims.{KeepsSessions}
use Rattle.x25_joined.proofs.PeerShows.{of_program}
use Rattle.x25_joined.proofs.law.any_peer_keeps_programs.Goals as goal

pub returns : goal.returns
returns c =
    let law = c.any_peer_keeps_stations_over_sessions.ensures in
    of_program KeepsSessions c.lines_are_in_octets.ensures
    (λ s low high few w reached. record {
      step = law.step s low high few w reached;
      order = law.order s low high few w reached;
      idle = law.idle s low high few w reached;
      unmet = law.unmet s low high few w reached;
      agree = law.agree s low high few w reached;
      latest = law.latest s low high few w reached;
      quiet = law.quiet s low high few w reached;
    })
