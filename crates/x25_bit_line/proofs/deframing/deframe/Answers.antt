use Rattle.std.proofs.Common.{◌∙◌, [], ap, sym, subst}
use Rattle.x25_bits.specs.code.Fits.{Fits}
use Rattle.x25_bit_line.specs.code.Reads.{program}
use Rattle.x25_bit_line.proofs.ReadsLemmas.{reads_start}
use Rattle.x25_io.proofs.RunLemmas.{none_ran}
use Rattle.x25_bit_line.proofs.deframing.deframe.Goals as goal

pub returns-in_err-deframer-clause-runs : goal.returns-in_err-deframer-clause-runs
returns-in_err-deframer-clause-runs g c =
    none_ran g.R.Source g.W.Sink (program c.args.from) c.args.reader.now c.args.writer.now c.from_residual-in_err-deframer.result
    c.from_residual-in_err-deframer.ensures.1

pub returns-in_err-lines-clause-runs : goal.returns-in_err-lines-clause-runs
returns-in_err-lines-clause-runs g c =
    none_ran g.R.Source g.W.Sink (program c.args.from) c.args.reader.now c.args.writer.now c.from_residual-in_err-lines.result
    c.from_residual-in_err-lines.ensures.1

pub returns-clause-runs : goal.returns-clause-runs
returns-clause-runs g c =
    let written = g.W.Sink.contents c.args.writer.now in
    let made = c.new-finder.ensures in
    record {
      zero_or_one = c.take_text.ensures.zero_or_one;
      answers = c.take_text.ensures.answers c.args.from written
          (λ input. reads_start c.args.from written c.new-finder.result input (ap (λ l. l.from) made.lines ∙ c.in_ok-lines.ensures.from)
          (subst (λ d. Fits d []) (sym made.deframer) c.in_ok-deframer.ensures) (ap (λ l. l.output) made.lines ∙ c.in_ok-lines.ensures.empty));
      marks = c.take_text.ensures.marks;
    }

pub returns-clause-memory : goal.returns-clause-memory
returns-clause-memory g c = λ err. absurd (c.take_text.ensures.memory err)
