use Rattle.std.proofs.{Common.{◌∙◌, ◌≤◌, length, arith, subst}, lemmas.Result.{err_from_is_err_and}}
use Rattle.x25_io.proofs.{ReadLemmas.{at_end, consumed, fewer, kept}, RunLemmas.{answered, cut_short}}
use Rattle.x25_io.proofs.pieces.take_text.Goals as goal

pub returns-in_default-clause-answers : goal.returns-in_default-clause-answers
returns-in_default-clause-answers g c = λ setting old begins.
    cut_short _ (g.R.Source.remaining c.args.reader.now) _ old _ c.give_up.result
    (λ text is.
    let at = c.loop.invariant.2 setting old text is (begins text) in (
      c.give_up.ensures.part setting old at.0 text at.3,
      λ fault. (at.0, kept _ _ at.0 at.1 c.in_default.ensures.octets, c.give_up.ensures.lines setting old at.0 text at.3 fault),
    ))

pub returns-then-count-eq0-clause-answers : goal.returns-then-count-eq0-clause-answers
returns-then-count-eq0-clause-answers g c = λ setting old begins.
    answered _ (g.R.Source.remaining c.args.reader.now) _ old _ c.end.result
    (λ text is few.
    let at = c.loop.invariant.2 setting old text is (begins text) in
    let end = at_end _ _ at.0 c.read.new.buffer c.in-Ok.count at.1 c.in-Ok.ensures.octets.0 c.if-count-eq0.true
    (c.in-Ok.ensures.octets.1 c.if-count-eq0.true (omega arith)) in
    c.end.ensures.all setting old text (subst (λ rest. g.T.TextTaker.leads setting c.loop.taker old (g.W.Sink.contents c.loop.writer) rest text) end at.3))
    c.end.ensures.read

pub returns-in_err-take_piece-clause-answers : goal.returns-in_err-take_piece-clause-answers
returns-in_err-take_piece-clause-answers g c = λ setting old begins.
    let p = err_from_is_err_and c.from_residual.result c.from_residual.ensures.1 in
    rw p.1 (answered _ (g.R.Source.remaining c.args.reader.now) _ old _ _
    (λ text is few.
    let at = c.loop.invariant.2 setting old text is (begins text) in
    let left = consumed _ _ at.0 _ at.1 c.in-Ok.ensures.octets.0 in
    c.in_err-take_piece.ensures.on setting old left.0 text
    (subst (λ rest. g.T.TextTaker.leads setting c.loop.taker old (g.W.Sink.contents c.loop.writer) rest text) left.2 at.3))
    (λ err. c.in_err-take_piece.ensures.read (cc (err, p.2))))

pub loop-preserved : goal.loop-preserved
loop-preserved g c = (
  c.in-Ok.ensures.kept ∙ c.loop.invariant.0,
  c.in_ok-take_piece.ensures.kept ∙ c.loop.invariant.1,
  λ setting old text is h.
      let at = c.loop.invariant.2 setting old text is h in
      let left = consumed _ _ at.0 _ at.1 c.in-Ok.ensures.octets.0 in (
        left.0,
        left.1,
        fewer c.loop.counter c.in-Ok.count at.0 c.read.new.buffer left.0 text left.2 c.in-Ok.ensures.bound c.if-count-eq0.false at.2,
        c.in_ok-take_piece.ensures.on setting old left.0 text
            (subst (λ rest. g.T.TextTaker.leads setting c.loop.taker old (g.W.Sink.contents c.loop.writer) rest text) left.2 at.3),
      ),
)

pub returns-clause-answers : goal.returns-clause-answers
returns-clause-answers g c = λ setting old begins.
    answered _ (g.R.Source.remaining c.args.reader.now) _ old _ c.end-2.result
    (λ text is few.
    let at = c.loop.invariant.2 setting old text is (begins text) in
    let all : c.loop.counter ≤ length text = omega (arith, at.2) in
    absurd (omega (arith, all, few, c.loop-test.false)))
    c.end-2.ensures.read
