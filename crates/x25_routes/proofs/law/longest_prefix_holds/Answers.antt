use Rattle.x25_routes.proofs.RouteLemmas.{longest_holds, none_is_passed_over}
use Rattle.x25_routes.proofs.law.longest_prefix_holds.Goals as goal

pub returns : goal.returns
returns c = record { longest = longest_holds; none = none_is_passed_over }
