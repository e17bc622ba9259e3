use Rattle.x25_switched.proofs.rows.SwitchRowLemmas.{message_goes_through}
use Rattle.x25_switched.proofs.law.messages_go_through_switches.Goals as goal

pub returns : goal.returns
returns c = record { through = message_goes_through }
