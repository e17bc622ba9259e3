use Rattle.std.proofs.Common.{◌∙◌, ◌||◌, ap, sym, subst}
use Rattle.x25_bit_line.specs.Framing.{line_bits}
use Rattle.x25_bit_line.specs.LineBits.{SendsLine}
use Rattle.x25_bit_line.proofs.FrameLineLemmas.{sends_frame, sends_none, wrong_by_mark, stays_right}
use Rattle.x25_bit_line.proofs.SendingLemmas.{sends_by, sends_nothing}
use Rattle.x25_bit_line.proofs.frame_sender.FrameSender.take.Goals as goal

pub returns-in-Some-clause-sends : goal.returns-in-Some-clause-sends
returns-in-Some-clause-sends g c =
    subst (λ more. SendsLine c.send_frame.result (g.W.Sink.contents c.args.writer.now) (g.W.Sink.contents c.send_frame.new.writer) c.args.self.now.bits.bits
    c.send_frame.new.self.bits c.args.self.now.output c.send_frame.new.output more)
    (sym (sends_frame c.args.line.now _ _ c.in-Some.ensures.sent.1))
    (sends_by c.send_frame.result _ _ _ _ _ _ _ c.send_frame.ensures.tells c.send_frame.ensures.rest)

pub returns-in-Some-clause-wrong : goal.returns-in-Some-clause-wrong
returns-in-Some-clause-wrong g c = λ short. stays_right c.send_frame.result c.args.line.now _ _ c.args.self.now.is_wrong c.in-Some.ensures.sent.1

pub returns-in-None-clause-sends : goal.returns-in-None-clause-sends
returns-in-None-clause-sends g c = λ old bits h.
    rw (c.pass_over.ensures.bits, c.pass_over.ensures.output)
    (sends_nothing old _ _ _ bits (line_bits c.args.line.now) (sends_none c.args.line.now c.in-None.ensures.sent) h)

pub returns-in-None-clause-wrong : goal.returns-in-None-clause-wrong
returns-in-None-clause-wrong g c = λ short.
    c.pass_over.ensures.wrong ∙ ap (λ b. c.args.self.now.is_wrong || b) (sym (wrong_by_mark c.args.line.now c.in-None.ensures.sent short))
