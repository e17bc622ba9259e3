use Rattle.x25_possible_peers.proofs.LinkLemmas.{link_steps}
use Rattle.x25_possible_peers.proofs.law.link_peers_keep_the_rules.Goals as goal

pub returns : goal.returns
returns c = link_steps
