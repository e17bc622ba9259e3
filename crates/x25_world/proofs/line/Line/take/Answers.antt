use Rattle.x25_world.proofs.{LineLemmas.{map-remove}, Names.{refl}}
use Rattle.x25_world.proofs.line.Line.take.Goals as goal

pub returns-in-Dce-clause-line : goal.returns-in-Dce-clause-line
returns-in-Dce-clause-line c = rw (← c.self.view_is, c.in-Dce.is, c.take_off.ensures.items, c.take_off.ensures.capacity, map-remove) refl

pub returns-in-Dte-clause-line : goal.returns-in-Dte-clause-line
returns-in-Dte-clause-line c = rw (← c.self.view_is, c.in-Dte.is, c.take_off-in-Dte.ensures.items, c.take_off-in-Dte.ensures.capacity, map-remove) refl
