use Rattle.x25_possible_peers.proofs.LayerAsPeerLemmas.{restart_rules}
use Rattle.x25_possible_peers.proofs.law.restart_rules_are_those_of_peers.Goals as goal

pub returns : goal.returns
returns c = restart_rules
