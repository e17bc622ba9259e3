use Rattle.x25_pipe.proofs.rows.PipeRowLemmas.{mark_comes_first, call_goes_out, others_are_refused}
use Rattle.x25_pipe.proofs.law.answers_as_worked.Goals as goal

pub returns : goal.returns
returns c = record { first = mark_comes_first; call = call_goes_out; others = others_are_refused }
