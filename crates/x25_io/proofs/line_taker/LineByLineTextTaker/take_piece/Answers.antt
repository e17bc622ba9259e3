use Rattle.std.proofs.{Common.{◌∙◌, ◌++◌, ◌∷◌, List, ℕ, ap, append_assoc, subst}, lemmas.Result.{err_from_is_err_and, MatchResult-weaker}}
use Rattle.x25_io.{proofs.TakerLemmas.{led, more}, specs.code.LinesLead.{LinesLead}}
use Rattle.x25_io.proofs.line_taker.LineByLineTextTaker.take_piece.Goals as goal

pub returns-in_err-close-clause-on : goal.returns-in_err-close-clause-on
returns-in_err-close-clause-on g c = λ setting old rest text l.
    let p = err_from_is_err_and c.from_residual.result c.from_residual.ensures.1 in
    let split = ap (λ l. l ++ rest) c.in-Some.ensures.parts.1 ∙ append_assoc c.in-Some.tail.now (10 ∷ c.in-Some.after.now) rest in
    rw p.1 (c.in_err-close.ensures.on setting old (c.in-Some.after.now ++ rest) text
    (subst (LinesLead (λ lines. g.T.LineTaker.stands setting c.loop-tail.self.taker old (g.W.Sink.contents c.loop-tail.writer) lines text)
    c.loop-tail.self.held) split (c.loop-tail.invariant.1 setting old rest text l)))

pub loop-tail-preserved : goal.loop-tail-preserved
loop-tail-preserved g c = (
  c.in_ok-close.ensures.kept ∙ c.loop-tail.invariant.0,
  λ setting old rest text l.
      let split = ap (λ l. l ++ rest) c.in-Some.ensures.parts.1 ∙ append_assoc c.in-Some.tail.now (10 ∷ c.in-Some.after.now) rest in
      c.in_ok-close.ensures.on setting old (c.in-Some.after.now ++ rest) text
      (subst (LinesLead (λ lines. g.T.LineTaker.stands setting c.loop-tail.self.taker old (g.W.Sink.contents c.loop-tail.writer) lines text)
      c.loop-tail.self.held) split (c.loop-tail.invariant.1 setting old rest text l)),
)

pub returns-clause-on : goal.returns-clause-on
returns-clause-on g c = λ setting old rest text l.
    let stands = λ (lines : List (List ℕ)). g.T.LineTaker.stands setting c.loop-tail.self.taker old (g.W.Sink.contents c.loop-tail.writer) lines text in
    let held = more stands c.loop-tail.self.held c.hold.new.self c.loop-tail.left.now rest (c.loop-tail.invariant.1 setting old rest text l)
    c.in_default.ensures.parts (λ begun. c.hold.ensures begun) in
    MatchResult-weaker c.write_out.result (c.write_out.ensures.on setting old _ text held.stands)
    (λ _ done. led stands (λ (lines : List (List ℕ)). g.T.LineTaker.stands setting c.write_out.new.self old (g.W.Sink.contents c.write_out.new.writer) lines
    text) c.hold.new.self rest held done.0)
    (λ _ begins. begins)
