use Rattle.x25_world.specs.laws.SessionClaims.{SessionsKeepOrder}
use Rattle.x25_joined.proofs.JoinedPlays.{of_timed_programs}
use Rattle.x25_joined.proofs.law.timed_programs_meet_in_sessions.Goals as goal

pub returns : goal.returns
returns c = of_timed_programs SessionsKeepOrder c.reading_is_the_grammar.ensures c.programs_meet_in_sessions.ensures
