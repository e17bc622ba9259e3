use Rattle.x25_joined.specs.laws.BesidePeerClaims.{KeepsSessions}
use Rattle.x25_joined.proofs.PeerPlays.{of_timed_program}
use Rattle.x25_joined.proofs.law.any_peer_keeps_timed_programs.Goals as goal

pub returns : goal.returns
returns c = of_timed_program KeepsSessions c.reading_is_the_grammar.ensures c.any_peer_keeps_programs.ensures
