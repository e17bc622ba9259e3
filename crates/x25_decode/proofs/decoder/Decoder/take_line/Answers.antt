use Rattle.std.proofs.{Common.{◌∙◌, ◌+◌, ◌-◌, ◌||◌, ◌++◌, ◌∷◌, ap, append_assoc, drop, length, subst, sym, take}, Math.Bool.{or-false}}
use Rattle.std.proofs.lemmas.Result.{err_from_is_err_and}
use Rattle.x25_decode.{proofs.FrontLemmas.{parted}, proofs.StreamLemmas.{answered, first_line, part_written, written}, specs.Decoding.{answer_to}}
use Rattle.x25_decode.specs.code.Stream.{LeadsFrom}
use Rattle.x25_io.proofs.ToldLemmas.{more_waits}
use Rattle.x25_io.specs.HeldLine.{HoldsLine}
use Rattle.x25_decode.proofs.decoder.Decoder.take_line.Goals as goal

pub returns-in_err-make_room-clause-leads : goal.returns-in_err-make_room-clause-leads
returns-in_err-make_room-clause-leads g c = λ old rest all any h.
    let p = err_from_is_err_and c.from_residual.result c.from_residual.ensures.1 in
    rw p.1 (part_written _ old _ _ _ _ _ _ all any h (c.in_err-make_room.ensures.tells old h.told h.tells))

pub returns-then-not-is_empty-clause-leads : goal.returns-then-not-is_empty-clause-leads
returns-then-not-is_empty-clause-leads g c = λ old rest all any h.
    c.take_found_line.ensures.leads old _ rest all any (written _ old _ _ _ _ _ _ all any _ h (c.in_ok-make_room.ensures.tells old h.told h.tells))

pub returns-in-Some-clause-leads : goal.returns-in-Some-clause-leads
returns-in-Some-clause-leads g c = λ old rest all any h.
    let left = c.args.left.now in
    let count = c.in-Some.count in
    let refused = c.args.self.now.is_refused in
    let now = g.W.Sink.contents c.make_room.new.writer in
    let behind = take (length left - (count + 1)) (drop (count + 1) left) in
    let split = ap (λ l. l ++ rest) (parted count left c.in-Some.ensures.line) ∙ append_assoc (take count left) (10 ∷ behind) rest in
    let room = written _ old _ _ _ _ _ _ all any _ h (c.in_ok-make_room.ensures.tells old h.told h.tells) in
    let before = subst (λ l. LeadsFrom old now (record c.args.self.now { output = c.make_room.new.self }) l all any) split room in
    let empty = (c.is_empty.ensures before.begun before.holds).0 c.if-not-is_empty.false in
    answered _ old now now _ _ _ (behind ++ rest) all any _ _ _ (take count left) (take count left ++ 10 ∷ (behind ++ rest)) before
    (first_line _ old now now _ _ _ (behind ++ rest) all any (take count left) before c.in-Some.ensures.line.2 empty)
    (more_waits old now _ _ before.told _ before.tells
    (c.in-Some.ensures.text ∙ ap (λ t. t ++ answer_to c.args.self.now.reading (take count left)) c.text.ensures.value))
    (sym (ap (λ b. refused || b) c.in-Some.ensures.taken ∙ or-false refused))
    (subst (λ begun. HoldsLine begun c.args.self.now.held) empty before.holds)

pub returns-in-None-clause-leads : goal.returns-in-None-clause-leads
returns-in-None-clause-leads g c = λ old rest all any h.
    c.take_found_line-in-None.ensures.leads old _ rest all any
    (rw (c.in-None.ensures.text, c.text.ensures.value) (written _ old _ _ _ _ _ _ all any _ h (c.in_ok-make_room.ensures.tells old h.told h.tells)))
