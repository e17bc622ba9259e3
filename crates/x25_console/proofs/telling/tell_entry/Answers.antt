use Rattle.std.proofs.{Common.{◌∙◌, ◌++◌, ap}, lemmas.Result.{err_from_is_err_and}}
use Rattle.x25_io.proofs.ToldLemmas.{more_waits, prefix_more, told_more}
use Rattle.x25_station.specs.code.PlainEntry.{plain_entry}
use Rattle.x25_transcript.specs.EntryText.{entry_line}
use Rattle.x25_console.proofs.telling.tell_entry.Goals as goal

pub returns-in_err-make_room-clause-tells : goal.returns-in_err-make_room-clause-tells
returns-in_err-make_room-clause-tells g c = λ old told h.
    let p = err_from_is_err_and c.from_residual.result c.from_residual.ensures.1 in
    rw p.1 (prefix_more _ _ told _ (c.in_err-make_room.ensures.tells old told h))

pub returns-in_err-push_entry-clause-tells : goal.returns-in_err-push_entry-clause-tells
returns-in_err-push_entry-clause-tells g c = λ old told h.
    let p = err_from_is_err_and c.from_residual-in_err-push_entry.result c.from_residual-in_err-push_entry.ensures.1 in
    rw p.1 (told_more _ _ _ told _ (c.in_ok-make_room.ensures.tells old told h))

pub returns-clause-tells : goal.returns-clause-tells
returns-clause-tells g c = λ old told h.
    more_waits old _ c.make_room.new.self _ told _ (c.in_ok-make_room.ensures.tells old told h)
    (c.in_ok-push_entry.ensures.text ∙ ap (λ waits. waits ++ entry_line c.args.at (plain_entry c.args.lent.now c.args.entry.now)) c.text.ensures.value)
