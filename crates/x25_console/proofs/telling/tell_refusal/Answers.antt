use Rattle.std.proofs.{Common.{◌∙◌, ◌++◌, ap}, lemmas.Result.{err_from_is_err_and}}
use Rattle.x25_console.specs.Telling.{refusal_line}
use Rattle.x25_io.proofs.ToldLemmas.{more_waits, prefix_more}
use Rattle.x25_console.proofs.telling.tell_refusal.Goals as goal

pub returns-in_err-make_room-clause-tells : goal.returns-in_err-make_room-clause-tells
returns-in_err-make_room-clause-tells g c = λ old told h.
    let p = err_from_is_err_and c.from_residual.result c.from_residual.ensures.1 in
    rw p.1 (prefix_more _ _ told _ (c.in_err-make_room.ensures.tells old told h))

pub returns-clause-tells : goal.returns-clause-tells
returns-clause-tells g c = λ old told h.
    more_waits old _ c.make_room.new.self _ told _ (c.in_ok-make_room.ensures.tells old told h)
    (c.push_refusal.ensures ∙ ap (λ waits. waits ++ refusal_line c.args.number) c.text.ensures.value)
