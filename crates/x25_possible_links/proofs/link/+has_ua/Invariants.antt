use Rattle.std.proofs.Common.{◌-◌, length}
use Rattle.x25_possible_links.proofs.link.«+has_ua».Given as goal

abbrev pub decreases-has_ua : goal.decreases-has_ua
decreases-has_ua l = length l.way.now - l.at
