use Rattle.std.proofs.lemmas.Result.{MatchResult-weaker}
use Rattle.x25_records.proofs.RecordLemmas.{line_failed, line_told}
use Rattle.x25_records.proofs.recorder.RecorderLineTaker.take_line.Goals as goal

pub returns-clause-on : goal.returns-clause-on
returns-clause-on g c = λ _ old first lines text line h.
    MatchResult-weaker c.answer.result (c.answer.ensures.tells first line old h.told h.tells)
    (λ _ tells. line_told old _ _ text c.args.self.now c.answer.new.self first lines h tells (c.answer.ensures.refused first line))
    (λ _ begins. line_failed old _ _ text c.args.self.now first lines h begins)
