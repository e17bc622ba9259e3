use Rattle.std.proofs.Common.{◌-◌, length}
use Rattle.x25_possible_links.proofs.spots.«+answers».Given as goal

abbrev pub decreases-answers : goal.decreases-answers
decreases-answers l = length l.way.now - l.at
