use Rattle.std.proofs.{Common.{◌∙◌, ◌++◌, ap, codes}, lemmas.Result.{err_from_is_err_and}}
use Rattle.x25_io.proofs.ToldLemmas.{more_waits, prefix_more, told_more}
use Rattle.x25_records.specs.Records.{record_of}
use Rattle.x25_records.proofs.recorder.Recorder.tell_record.Goals as goal

pub returns-in_err-make_room-clause-tells : goal.returns-in_err-make_room-clause-tells
returns-in_err-make_room-clause-tells g c = λ old told h.
    let p = err_from_is_err_and c.from_residual.result c.from_residual.ensures.1 in
    rw p.1 (prefix_more _ _ told _ (c.in_err-make_room.ensures.tells old told h))

pub returns-in_err-push_line-clause-tells : goal.returns-in_err-push_line-clause-tells
returns-in_err-push_line-clause-tells g c = λ old told h.
    let p = err_from_is_err_and c.from_residual-in_err-push_line.result c.from_residual-in_err-push_line.ensures.1 in
    rw p.1 (told_more _ _ _ told _ (c.in_ok-make_room.ensures.tells old told h))

pub returns-clause-tells : goal.returns-clause-tells
returns-clause-tells g c = λ old told h.
    more_waits old _ c.make_room.new.self _ told _ (c.in_ok-make_room.ensures.tells old told h)
    (c.in_ok-push_line.ensures ∙ ap (λ waits. waits ++ (record_of c.args.line.now ++ codes "\n")) c.text.ensures.value)
