use Rattle.x25_io.proofs.RunLemmas.{none_ran}
use Rattle.x25_judge.specs.Judge.{begins_at}
use Rattle.x25_judge.specs.code.Stream.{program}
use Rattle.x25_judge.proofs.StreamLemmas.{input_begins}
use Rattle.x25_judge.proofs.judging.judge_lines.Goals as goal

pub returns-in_err-held-clause-runs : goal.returns-in_err-held-clause-runs
returns-in_err-held-clause-runs g c =
    let p = program c.args.loose (begins_at c.args.at c.args.window c.args.defaults c.args.reading c.args.strictness) in
    none_ran g.R.Source g.W.Sink p c.args.reader.now c.args.writer.now c.from_residual-in_err-held.result c.from_residual-in_err-held.ensures.1

pub returns-in_err-answerer-clause-runs : goal.returns-in_err-answerer-clause-runs
returns-in_err-answerer-clause-runs g c =
    let p = program c.args.loose (begins_at c.args.at c.args.window c.args.defaults c.args.reading c.args.strictness) in
    none_ran g.R.Source g.W.Sink p c.args.reader.now c.args.writer.now c.from_residual-in_err-answerer.result c.from_residual-in_err-answerer.ensures.1

pub returns-clause-runs : goal.returns-clause-runs
returns-clause-runs g c =
    let j = begins_at c.args.at c.args.window c.args.defaults c.args.reading c.args.strictness in
    let written = g.W.Sink.contents c.args.writer.now in
    let made = c.in_ok-answerer.ensures in
    record {
      zero_or_one = c.take_text.ensures.zero_or_one;
      answers = c.take_text.ensures.answers (c.args.loose, j) written
          (input_begins c.args.loose j written c.new-lines.result.held _ c.new-lines.result.taker _ c.new-lines.ensures.held c.new-lines.ensures.taker
          c.in_ok-held.ensures made.loose made.judge made.empty made.faultless);
      marks = c.take_text.ensures.marks;
    }

pub returns-clause-memory : goal.returns-clause-memory
returns-clause-memory g c = λ err. absurd (c.take_text.ensures.memory err)
