use Rattle.x25_judge.proofs.verdicts.Midst.{links_are_taken_up, numbers_are_found}
use Rattle.x25_judge.proofs.law.links_are_taken_up.Goals as goal

pub returns-clause-begins : goal.returns-clause-begins
returns-clause-begins c = links_are_taken_up

pub returns-clause-found : goal.returns-clause-found
returns-clause-found c = numbers_are_found
