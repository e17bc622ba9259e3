use Rattle.x25_possible_peers.proofs.LinkAsPeerLemmas.{link_rules}
use Rattle.x25_possible_peers.proofs.law.link_rules_are_those_of_peers.Goals as goal

pub returns : goal.returns
returns c = link_rules
