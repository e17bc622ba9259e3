use Rattle.x25_circuit.proofs.ParamsLemmas.{field_is_said, full_is_read_alike, full_says_all, no_field_is_known, known_is_no_field, field_is_allowed}
use Rattle.x25_circuit.proofs.ParamsLemmas.{said_is_allowed, proposal_is_answer, default_is_answer, answer_is_allowed, terms_are_allowed}
use Rattle.x25_circuit.proofs.law.values_are_agreed.Goals as goal

pub returns : goal.returns
returns c = record {
  said = field_is_said;
  in_full = full_is_read_alike;
  says_all = full_says_all;
  no_field = no_field_is_known;
  known = known_is_no_field;
  field = field_is_allowed;
  allowed = said_is_allowed;
  proposal = proposal_is_answer;
  usual = default_is_answer;
  answer = answer_is_allowed;
  terms = terms_are_allowed;
}
