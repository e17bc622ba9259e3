use Rattle.std.proofs.{Common.{◌∷◌, List, ℕ, refl, subst}, lemmas.Result.{MatchResult-weaker}}
use Rattle.x25_io.{proofs.TakerLemmas.{between, ends, ends_whole, more}, proofs.ToldLemmas.{with_ok}, specs.HeldLine.{HoldsLine}, specs.Lines.{lines_of}}
use Rattle.x25_io.proofs.line_taker.LineByLine.close.Goals as goal

pub returns-clause-on : goal.returns-clause-on
returns-clause-on g c = λ setting old rest text l.
    let stands = λ (lines : List (List ℕ)). g.T.LineTaker.stands setting c.args.self.now.taker old (g.W.Sink.contents c.args.writer.now) lines text in
    let held = more stands c.args.self.now.held c.hold.new.self c.args.tail.now (10 ∷ rest) l c.requires (λ begun. c.hold.ensures begun) in
    MatchResult-weaker c.end_line.result
    (with_ok c.end_line.result _ _ _ (c.end_line.ensures.on setting old held.begun (lines_of rest) text held.holds (ends stands c.hold.new.self rest held))
    c.end_line.ensures.cleared)
    (λ _ done. between (λ (lines : List (List ℕ)). g.T.LineTaker.stands setting c.end_line.new.self.taker old (g.W.Sink.contents c.end_line.new.writer) lines
    text) c.end_line.new.self.held rest done.1 done.0)
    (λ _ begins. begins)

pub returns-then-is_whole-clause-on : goal.returns-then-is_whole-clause-on
returns-then-is_whole-clause-on g c = λ setting old rest text l.
    let held = c.args.self.now.held in
    let stands = λ (lines : List (List ℕ)). g.T.LineTaker.stands setting c.args.self.now.taker old (g.W.Sink.contents c.args.writer.now) lines text in
    let whole = c.is_whole.ensures l.begun l.holds c.if-is_whole.true in
    MatchResult-weaker c.take_line.result
    (c.take_line.ensures.on setting old c.args.tail.now (lines_of rest) text (refl, whole.1) (ends_whole stands held c.args.tail.now rest l c.requires whole.0))
    (λ _ done. between (λ (lines : List (List ℕ)). g.T.LineTaker.stands setting c.take_line.new.self old (g.W.Sink.contents c.take_line.new.writer) lines text)
    held rest
    (subst (λ begun. HoldsLine begun held) whole.0 l.holds) done)
    (λ _ begins. begins)
