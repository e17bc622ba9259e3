use Rattle.x25_io.proofs.RunLemmas.{none_ran}
use Rattle.x25_records.proofs.RecordLemmas.{input_begins}
use Rattle.x25_records.specs.code.Stream.{program}
use Rattle.x25_records.proofs.records.write_records.Goals as goal

pub returns-in_err-piece : goal.returns-in_err-piece
returns-in_err-piece g c =
    none_ran g.R.Source g.W.Sink program c.args.reader.now c.args.writer.now c.from_residual.result c.from_residual.ensures.1

pub returns-in_err-held : goal.returns-in_err-held
returns-in_err-held g c =
    none_ran g.R.Source g.W.Sink program c.args.reader.now c.args.writer.now c.from_residual-in_err-held.result c.from_residual-in_err-held.ensures.1

pub returns-in_err-recorder : goal.returns-in_err-recorder
returns-in_err-recorder g c =
    none_ran g.R.Source g.W.Sink program c.args.reader.now c.args.writer.now c.from_residual-in_err-recorder.result
    c.from_residual-in_err-recorder.ensures.1

pub returns : goal.returns
returns g c =
    let written = g.W.Sink.contents c.args.writer.now in
    let made = c.in_ok-recorder.ensures in
    record {
      zero_or_one = c.take_text.ensures.zero_or_one;
      answers = c.take_text.ensures.answers tt written
          (input_begins written c.new-lines.result.held _ c.new-lines.result.taker _ c.new-lines.ensures.held c.new-lines.ensures.taker
          c.in_ok-held.ensures made.empty made.none);
      marks = c.take_text.ensures.marks;
    }
