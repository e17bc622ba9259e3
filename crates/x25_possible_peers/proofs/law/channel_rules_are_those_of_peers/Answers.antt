use Rattle.x25_possible_peers.proofs.AsPeerLemmas.{channel_rules}
use Rattle.x25_possible_peers.proofs.law.channel_rules_are_those_of_peers.Goals as goal

pub returns : goal.returns
returns c = channel_rules
