use Rattle.std.proofs.lemmas.Result.{err_from_is_err_and}
use Rattle.x25_io.proofs.ToldLemmas.{prefix_more}
use Rattle.x25_world.specs.World.{event_of}
use Rattle.x25_sim.specs.Telling.{mark_line}
use Rattle.x25_sim.proofs.telling.tell_mark.Goals as goal

pub returns-in_err-make_room-clause-tells : goal.returns-in_err-make_room-clause-tells
returns-in_err-make_room-clause-tells g c = λ old told h.
    let p = err_from_is_err_and c.from_residual.result c.from_residual.ensures.1 in
    rw p.1 (prefix_more old _ told (mark_line (event_of c.args.event)) (c.in_err-make_room.ensures.tells old told h))
