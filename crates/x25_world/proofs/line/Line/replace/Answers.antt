use Rattle.x25_world.proofs.{LineLemmas.{map-replaced}, Names.{refl}}
use Rattle.x25_world.proofs.line.Line.replace.Goals as goal

pub returns-in-Dce-clause-ok : goal.returns-in-Dce-clause-ok
returns-in-Dce-clause-ok c = rw (← c.self.view_is, c.in-Dce.is, map-replaced, c.with_octets-own.ensures.items, c.in_ok-with_capacity.ensures.items) refl

pub returns-in-Dte-clause-ok : goal.returns-in-Dte-clause-ok
returns-in-Dte-clause-ok c = rw (← c.self.view_is, c.in-Dte.is, map-replaced, c.with_octets-own.ensures.items, c.in_ok-with_capacity.ensures.items) refl
