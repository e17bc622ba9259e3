use Rattle.x25_line.proofs.ends.Sessions.{keep_sessions}
use Rattle.x25_line.proofs.peers.two_ends_keep_sessions.Goals as goal

pub returns : goal.returns
returns c = keep_sessions
