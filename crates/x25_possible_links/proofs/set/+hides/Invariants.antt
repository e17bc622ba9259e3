use Rattle.std.proofs.Common.{◌-◌, length}
use Rattle.x25_possible_links.proofs.set.«+hides».Given as goal

abbrev pub decreases-hides : goal.decreases-hides
decreases-hides l = length l.way.now - l.at
