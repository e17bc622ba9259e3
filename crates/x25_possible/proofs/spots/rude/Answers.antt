use Rattle.std.proofs.Common.{sym, ◌∙◌}
use Rattle.x25_possible.proofs.LoopLemmas.{polite_none}
use Rattle.x25_possible.proofs.spots.rude.Goals as goal

pub returns-then-are_polite : goal.returns-then-are_polite
returns-then-are_polite c = polite_none c.args.packet c.args.spots.now (sym c.are_polite.ensures ∙ c.if-are_polite.true)
