use Rattle.x25_decode.{proofs.LooseLemmas.{input_begins}, specs.code.LooseStream.{loose_program}}
use Rattle.x25_io.proofs.RunLemmas.{none_ran}
use Rattle.x25_decode.proofs.decoding.decode_loosely.Goals as goal

pub returns-in_err-held-clause-runs : goal.returns-in_err-held-clause-runs
returns-in_err-held-clause-runs g c =
    none_ran g.R.Source g.W.Sink (loose_program c.args.reading) c.args.reader.now c.args.writer.now c.from_residual-in_err-held.result
    c.from_residual-in_err-held.ensures.1

pub returns-in_err-decoder-clause-runs : goal.returns-in_err-decoder-clause-runs
returns-in_err-decoder-clause-runs g c =
    none_ran g.R.Source g.W.Sink (loose_program c.args.reading) c.args.reader.now c.args.writer.now c.from_residual-in_err-decoder.result
    c.from_residual-in_err-decoder.ensures.1

pub returns-clause-runs : goal.returns-clause-runs
returns-clause-runs g c =
    let written = g.W.Sink.contents c.args.writer.now in
    let made = c.in_ok-decoder.ensures in
    record {
      zero_or_one = c.take_text.ensures.zero_or_one;
      answers = c.take_text.ensures.answers c.args.reading written
          (input_begins c.args.reading written c.new-lines.result.held _ c.new-lines.result.taker _ c.new-lines.ensures.held c.new-lines.ensures.taker
          c.in_ok-held.ensures made.reading made.empty made.none);
      marks = c.take_text.ensures.marks;
    }

pub returns-clause-memory : goal.returns-clause-memory
returns-clause-memory g c = λ err. absurd (c.take_text.ensures.memory err)
