use Rattle.std.proofs.Common.{List, ℕ}
use Rattle.x25_io.proofs.TakerLemmas.{led_ended}
use Rattle.x25_io.proofs.line_taker.LineByLineTextTaker.give_up.Goals as goal

pub returns-in-Ok-clause-part : goal.returns-in-Ok-clause-part
returns-in-Ok-clause-part g c = λ setting old rest text l. (c.in-Ok.ensures.on setting old _ text l.stands).2

pub returns-in-Ok-clause-lines : goal.returns-in-Ok-clause-lines
returns-in-Ok-clause-lines g c = λ setting old rest text l read.
    led_ended (λ (lines : List (List ℕ)). g.T.LineTaker.stands setting c.args.self.taker old (g.W.Sink.contents c.args.writer.now) lines text)
    (λ (lines : List (List ℕ)). g.T.LineTaker.ended setting old (g.W.Sink.contents c.write_out.new.writer) lines text) c.args.self.held rest l
    (c.in-Ok.ensures.on setting old _ text l.stands).1
