use Rattle.std.proofs.Common.{◌∙◌, ◌||◌, ◌++◌, ◌∷◌, ap, subst}
use Rattle.x25_decode.{proofs.StreamLemmas.{answered, first_line, held_more}, specs.Decoding.{answer_to}}
use Rattle.x25_io.proofs.{LineLemmas.{ends_line}, ToldLemmas.{more_waits}}
use Rattle.x25_io.specs.HeldLine.{HoldsLine}
use Rattle.x25_decode.proofs.decoder.Decoder.close.Goals as goal

pub returns-then-is_empty-clause-leads : goal.returns-then-is_empty-clause-leads
returns-then-is_empty-clause-leads c = λ old now rest all any h.
    let empty = (c.is_empty.ensures h.begun h.holds).0 c.if-is_empty.true in
    answered _ old now now _ _ _ rest all any _ _ _ c.args.tail.now (c.args.tail.now ++ 10 ∷ rest) h
    (first_line _ old now now _ _ _ rest all any c.args.tail.now h c.requires.open empty)
    (more_waits old now _ _ h.told _ h.tells
    (c.answer-refused.ensures.text ∙ ap (λ t. t ++ answer_to c.args.self.now.reading c.args.tail.now) c.text.ensures.value))
    (ap (λ b. c.args.self.now.is_refused || b) c.answer-refused.ensures.refused)
    (subst (λ begun. HoldsLine begun c.args.self.now.held) empty h.holds)

pub returns-clause-leads : goal.returns-clause-leads
returns-clause-leads c = λ old now rest all any h.
    let more = held_more _ old now now _ _ _ (10 ∷ rest) all any c.hold.new.self c.args.tail.now h c.requires.open (λ begun. c.hold.ensures begun) in
    rw c.end_line.ensures.reading
    (answered _ old now now _ _ _ rest all any _ _ _ more.begun (10 ∷ rest) more
    (ends_line more.begun rest more.is_open)
    (more_waits old now _ _ more.told _ more.tells (c.end_line.ensures.text more.begun more.holds))
    (c.end_line.ensures.refused more.begun more.holds)
    c.end_line.ensures.cleared)
