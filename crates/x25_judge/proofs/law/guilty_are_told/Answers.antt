use Rattle.x25_judge.proofs.{verdicts.Guilty.{guilty_are_told, told_are_guilty}, verdicts.Minded.{judged_finals_are_told, judged_sendings_are_told}}
use Rattle.x25_judge.proofs.law.guilty_are_told.Goals as goal

pub returns-clause-guilty : goal.returns-clause-guilty
returns-clause-guilty c = guilty_are_told

pub returns-clause-told : goal.returns-clause-told
returns-clause-told c = told_are_guilty

pub returns-clause-sendings : goal.returns-clause-sendings
returns-clause-sendings c = judged_sendings_are_told

pub returns-clause-finals : goal.returns-clause-finals
returns-clause-finals c = judged_finals_are_told
