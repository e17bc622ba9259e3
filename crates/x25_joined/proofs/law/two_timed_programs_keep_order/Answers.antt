use Rattle.x25_world.specs.laws.Claims.{HasNoProcedureError, IsNamed}
use Rattle.x25_joined.proofs.JoinedPlays.{of_timed_programs_up_once, timed_arrive, timed_lawful}
use Rattle.x25_joined.proofs.law.two_timed_programs_keep_order.Goals as goal

pub returns-clause-lawful : goal.returns-clause-lawful
returns-clause-lawful c = timed_lawful c.reading_is_the_grammar.ensures c.two_programs_keep_order.ensures.lawful

pub returns-clause-arrives : goal.returns-clause-arrives
returns-clause-arrives c = timed_arrive c.reading_is_the_grammar.ensures c.two_programs_keep_order.ensures.arrives

pub returns-clause-named : goal.returns-clause-named
returns-clause-named c = of_timed_programs_up_once IsNamed c.reading_is_the_grammar.ensures c.two_programs_keep_order.ensures.named

pub returns-clause-quiet : goal.returns-clause-quiet
returns-clause-quiet c = of_timed_programs_up_once HasNoProcedureError c.reading_is_the_grammar.ensures c.two_programs_keep_order.ensures.quiet
