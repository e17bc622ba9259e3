use Rattle.x25_joined.proofs.JoinedRuns.{are_worlds}
use Rattle.x25_joined.proofs.law.two_programs_are_a_world.Goals as goal

pub returns : goal.returns
returns c = are_worlds c.lines_are_in_octets.ensures c.stations_meet_in_sessions.ensures.octets
