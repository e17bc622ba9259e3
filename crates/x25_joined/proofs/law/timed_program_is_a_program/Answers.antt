use Rattle.x25_joined.proofs.{PlayedText.{said_is_written}, WithoutClock.{without_clock_is}}
use Rattle.x25_joined.proofs.law.timed_program_is_a_program.Goals as goal

pub returns-clause-text : goal.returns-clause-text
returns-clause-text c = said_is_written

pub returns-clause-same : goal.returns-clause-same
returns-clause-same c = without_clock_is c.reading_is_the_grammar.ensures
