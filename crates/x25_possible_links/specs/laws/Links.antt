-- What the places of an end of a link mean.
use Rattle.std.specs.Prelude.{◌≡◌, List, []}
use Rattle.x25_possible.specs.laws.Possible.{Item, IsIn, IsUnexplained, Place, Stands}
use Rattle.x25_possible_links.specs.laws.Link.{At, link_rules}
use Rattle.x25_possible_links.specs.laws.Places.{places}
use Rattle.x25_possible_links.specs.declared.frame.Frame.{Frame}
use Rattle.x25_possible_links.specs.declared.stand.Stand.{Stand}

-- Of an end that began in one of these: there is no place exactly where no run of an end that keeps the rules explains
-- the tape, and to each place a run comes.
pub record TellsExactly (begun : List Stand) : Type 0 where
  pub told : (tape : List (Item Frame)) → places begun tape ≡ [] → IsUnexplained (link_rules begun) tape
  pub untold : (tape : List (Item Frame)) → IsUnexplained (link_rules begun) tape → places begun tape ≡ []
  pub stands : (tape : List (Item Frame)) (q : Place Stand Frame) → IsIn q (places begun tape)
      → Stands (link_rules begun) tape (At q.state) q.way
