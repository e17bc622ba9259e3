use Rattle.x25_line.proofs.sessions.SessionEvents.{each_hands_in_session}
use Rattle.x25_line.proofs.law.each_session_event_hands_one.Goals as goal

pub returns : goal.returns
returns c = each_hands_in_session c.notes_what_changes.ensures.take_hands_up
