use Rattle.x25_line.proofs.sessions.SessionsForgotten.{sessions_are_links, set_up_is_the_start}
use Rattle.x25_line.proofs.law.sessions_are_links.Goals as goal

pub returns : goal.returns
returns c = record { alike = sessions_are_links; start = set_up_is_the_start }
