-- What the laws of a circuit say of proposals and answers, which those of two layers rest on.
use Rattle.x25_circuit.specs.laws.ParamsLaws.{FieldIsSaid, NoFieldIsKnown, ProposalIsAnswer, AnswerIsAllowed}
use Rattle.x25_circuit.specs.laws.ParamsLaws.{TermsAreAllowed}

pub record Laws : Type 0 where
  pub said : FieldIsSaid
  pub no_field : NoFieldIsKnown
  pub proposal : ProposalIsAnswer
  pub answer : AnswerIsAllowed
  pub terms : TermsAreAllowed
