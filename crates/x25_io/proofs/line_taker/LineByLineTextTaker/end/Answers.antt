use Rattle.std.proofs.{Common.{[], List, ℕ}, lemmas.Result.{err_from_is_err_and}}
use Rattle.x25_io.proofs.TakerLemmas.{ends_last, none_left}
use Rattle.x25_io.proofs.line_taker.LineByLineTextTaker.end.Goals as goal

pub returns-then-is_empty-clause-all : goal.returns-then-is_empty-clause-all
returns-then-is_empty-clause-all g c = λ setting old text l.
    let stands = λ (lines : List (List ℕ)). g.T.LineTaker.stands setting c.args.self.taker old (g.W.Sink.contents c.args.writer.now) lines text in
    c.end.ensures.all setting old text (none_left stands c.args.self.held l ((c.is_empty.ensures l.begun l.holds).0 c.if-is_empty.true))

pub returns-in_err-end_line-clause-all : goal.returns-in_err-end_line-clause-all
returns-in_err-end_line-clause-all g c = λ setting old text l.
    let stands = λ (lines : List (List ℕ)). g.T.LineTaker.stands setting c.args.self.taker old (g.W.Sink.contents c.args.writer.now) lines text in
    let p = err_from_is_err_and c.from_residual.result c.from_residual.ensures.1 in
    rw p.1 (c.in_err-end_line.ensures.on setting old l.begun [] text l.holds
    (ends_last stands c.args.self.held l (λ none. let yes = (c.is_empty.ensures l.begun l.holds).1 none in let no_line = c.if-is_empty.false in cc)))

pub returns-clause-all : goal.returns-clause-all
returns-clause-all g c = λ setting old text l.
    let stands = λ (lines : List (List ℕ)). g.T.LineTaker.stands setting c.args.self.taker old (g.W.Sink.contents c.args.writer.now) lines text in
    c.end-2.ensures.all setting old text (c.in_ok-end_line.ensures.on setting old l.begun [] text l.holds
    (ends_last stands c.args.self.held l (λ none. let yes = (c.is_empty.ensures l.begun l.holds).1 none in let no_line = c.if-is_empty.false in cc)))
