use Rattle.std.proofs.Common.{◌-◌, length}
use Rattle.x25_possible.proofs.spots.«+find».Given as goal

abbrev pub decreases-find : goal.decreases-find
decreases-find l = length l.way.now - l.at
