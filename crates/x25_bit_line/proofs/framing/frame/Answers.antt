use Rattle.std.proofs.Common.{◌∙◌, ap}
use Rattle.x25_bit_line.specs.code.Frames.{program}
use Rattle.x25_bit_line.proofs.FramesLemmas.{begins}
use Rattle.x25_io.proofs.RunLemmas.{none_ran}
use Rattle.x25_bit_line.proofs.framing.frame.Goals as goal

pub returns-in_err-held : goal.returns-in_err-held
returns-in_err-held g c =
    none_ran g.R.Source g.W.Sink (program c.args.loose) c.args.reader.now c.args.writer.now c.from_residual-in_err-held.result
    c.from_residual-in_err-held.ensures.1

pub returns-in_err-sender : goal.returns-in_err-sender
returns-in_err-sender g c =
    none_ran g.R.Source g.W.Sink (program c.args.loose) c.args.reader.now c.args.writer.now c.from_residual-in_err-sender.result
    c.from_residual-in_err-sender.ensures.1

pub returns : goal.returns
returns g c =
    let written = g.W.Sink.contents c.args.writer.now in
    let sender = c.in_ok-sender.ensures in
    record {
      zero_or_one = c.take_text.ensures.zero_or_one;
      answers = c.take_text.ensures.answers (c.args.loose, tt) written
          (begins c.args.loose written c.new-lines.result.held _ c.new-lines.result.taker.loose c.new-lines.result.taker.taker _ c.new-lines.ensures.held
          (ap (λ l. l.loose) c.new-lines.ensures.taker ∙ c.new-read.ensures.loose) (ap (λ l. l.taker) c.new-lines.ensures.taker ∙ c.new-read.ensures.taker)
          c.in_ok-held.ensures sender.bits sender.empty sender.right);
      marks = c.take_text.ensures.marks;
    }
