use Rattle.std.proofs.{Common.{◌≡◌, ◌∙◌, ◌||◌, true, None, Some, ap, sym, subst, refl}, Math.Bool.{or-false}, lemmas.Result.{err_from_is_err_and, on_ok_weaker}}
use Rattle.std.specs.Prelude.{MatchOption, OnOk}
use Rattle.x25_decode.{proofs.LooseLemmas.{answer_parts, refuses_parts, told_behind}, specs.LooseDecoder.{answer_loosely, answer_to_asked}}
use Rattle.x25_io.proofs.ToldLemmas.{part_of_all}
use Rattle.x25_io.specs.Loose.{asked}
use Rattle.x25_decode.proofs.loose_decoder.LooseDecoder.answer_parts.Goals as goal

pub returns-in_err-tell-clause-tells : goal.returns-in_err-tell-clause-tells
returns-in_err-tell-clause-tells g c = λ few old told h.
    let p = err_from_is_err_and c.from_residual.result c.from_residual.ensures.1 in
    let line = c.args.line.now in
    let head = c.split_loose.result.0.now in
    rw p.1 (part_of_all old _ told head (answer_to_asked c.args.self.now.reading (asked true line)) (answer_loosely c.args.self.now.reading line)
    (answer_parts c.args.self.now.reading line head (asked true line) (c.split_loose.ensures.carried few) refl) (c.in_err-tell.ensures.tells old told h))

pub returns-in-Some-clause-tells : goal.returns-in-Some-clause-tells
returns-in-Some-clause-tells g c = λ few old told h.
    let line = c.args.line.now in
    let head = c.split_loose.result.0.now in
    let found = subst (λ o. MatchOption o (asked true line ≡ None) (λ found. asked true line ≡ Some found.now)) c.in-Some.is (c.split_loose.ensures.asked few)
    in
    told_behind c.answer_asked.result _ _ _ _ head (answer_to_asked c.args.self.now.reading (Some c.in-Some.line.now)) _
    (answer_parts c.args.self.now.reading line head (Some c.in-Some.line.now) (c.split_loose.ensures.carried few) found)
    c.answer_asked.ensures.tells old told (c.in_ok-tell.ensures.tells old told h)

pub returns-in-Some-clause-refused : goal.returns-in-Some-clause-refused
returns-in-Some-clause-refused g c = λ few.
    let line = c.args.line.now in
    let found = subst (λ o. MatchOption o (asked true line ≡ None) (λ found. asked true line ≡ Some found.now)) c.in-Some.is (c.split_loose.ensures.asked few)
    in
    subst (λ b. OnOk c.answer_asked.result (c.answer_asked.new.self.is_refused ≡ (c.args.self.now.is_refused || b)))
    (sym (refuses_parts line (Some c.in-Some.line.now) found))
    c.answer_asked.ensures.refused

pub returns-in-None-clause-tells : goal.returns-in-None-clause-tells
returns-in-None-clause-tells g c = λ few old told h.
    let line = c.args.line.now in
    let head = c.split_loose.result.0.now in
    let none = subst (λ o. MatchOption o (asked true line ≡ None) (λ found. asked true line ≡ Some found.now)) c.in-None.is (c.split_loose.ensures.asked few) in
    told_behind c.tell-in-None.result _ _ _ _ head (answer_to_asked c.args.self.now.reading None) _
    (answer_parts c.args.self.now.reading line head None (c.split_loose.ensures.carried few) none)
    c.tell-in-None.ensures.tells old told (c.in_ok-tell.ensures.tells old told h)

pub returns-in-None-clause-refused : goal.returns-in-None-clause-refused
returns-in-None-clause-refused g c = λ few.
    let line = c.args.line.now in
    let none = subst (λ o. MatchOption o (asked true line ≡ None) (λ found. asked true line ≡ Some found.now)) c.in-None.is (c.split_loose.ensures.asked few) in
    on_ok_weaker c.tell-in-None.result (λ _. sym
    (ap (λ b. c.args.self.now.is_refused || b) (refuses_parts line None none) ∙ or-false c.args.self.now.is_refused)) c.tell-in-None.ensures.kept
