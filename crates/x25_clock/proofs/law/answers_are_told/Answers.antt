use Rattle.x25_clock.proofs.AnswerLemmas.{answer_is_told}
use Rattle.x25_clock.proofs.law.answers_are_told.Goals as goal

pub returns : goal.returns
returns c = answer_is_told c.ways_out_lead_on.ensures.told c.nothing_waits_for_ever.ensures
