use Rattle.std.proofs.Common.{◌≡◌, ◌∙◌, ◌<◌, ◌≤◌, ◌||◌, length, ap, sym, subst}
use Rattle.std.specs.Prelude.{MatchOption, OnOk}
use Rattle.std.proofs.Math.Bool.{or-true}
use Rattle.std.proofs.lemmas.Result.{MatchResult-weaker}
use Rattle.x25_io.specs.HeldLine.{most_line}
use Rattle.x25_io.proofs.ToldLemmas.{with_ok}
use Rattle.x25_bit_line.specs.Framing.{is_wrong, line_bits}
use Rattle.x25_bit_line.specs.LineBits.{SendsLine}
use Rattle.x25_bit_line.proofs.FrameLineLemmas.{long_is_wrong, sends_none}
use Rattle.x25_bit_line.proofs.FramesLemmas.{line_lost, line_taken}
use Rattle.x25_bit_line.proofs.SendingLemmas.{sends_nothing}
use Rattle.x25_bit_line.proofs.frame_sender.FrameSenderLineTaker.take_line.Goals as goal

pub returns-in-Some-clause-on : goal.returns-in-Some-clause-on
returns-in-Some-clause-on g c = λ setting old first lines input line h.
    let is = subst (λ o. MatchOption o (most_line < length first) (λ held. (held.now ≡ first) × (length first ≤ most_line))) c.in-Some.is line in
    let sends = subst (λ line. SendsLine c.take.result (g.W.Sink.contents c.args.writer.now) (g.W.Sink.contents c.take.new.writer) c.args.self.now.bits.bits
    c.take.new.self.bits.bits c.args.self.now.output c.take.new.self.output (line_bits line))
    is.0 c.take.ensures.sends in
    let wrong = subst (λ line. OnOk c.take.result (c.take.new.self.is_wrong ≡ (c.args.self.now.is_wrong || is_wrong line))) is.0
    (c.take.ensures.wrong (subst (λ line. length line ≤ most_line) (sym is.0) is.1)) in
    MatchResult-weaker c.take.result (with_ok c.take.result _ _ _ (sends old h.bits h.sends) wrong)
    (λ _ t. line_taken old _ _ input c.args.self.now c.take.new.self first lines h t.0 t.1)
    (λ _ b. line_lost old _ _ input c.args.self.now first lines h b)

pub returns-in-None-clause-on : goal.returns-in-None-clause-on
returns-in-None-clause-on g c = λ setting old first lines input line h.
    let long = subst (λ o. MatchOption o (most_line < length first) (λ held. (held.now ≡ first) × (length first ≤ most_line))) c.in-None.is line in
    let none = c.long_lines_send_nothing.ensures.sent first long in
    line_taken old _ _ input c.args.self.now _ first lines h (sends_nothing old _ _ _ h.bits (line_bits first) (sends_none first none) h.sends)
    (sym (ap (λ b. c.args.self.now.is_wrong || b) (long_is_wrong first none (c.long_lines_send_nothing.ensures.gap first long) long)
    ∙ or-true c.args.self.now.is_wrong))
