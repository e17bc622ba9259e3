use Rattle.x25_line.proofs.StationEvents.{each_hands_one}
use Rattle.x25_line.proofs.law.each_event_hands_one.Goals as goal

pub returns : goal.returns
returns c = each_hands_one
