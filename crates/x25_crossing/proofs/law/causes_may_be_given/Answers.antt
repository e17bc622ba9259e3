use Rattle.x25_crossing.proofs.CauseLemmas.{clears_are_given, resets_are_given}
use Rattle.x25_crossing.proofs.law.causes_may_be_given.Goals as goal

pub returns : goal.returns
returns c = record { clears = clears_are_given; resets = resets_are_given }
