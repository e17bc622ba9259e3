use Rattle.std.proofs.Common.{subst}
use Rattle.x25_station.specs.declared.timer.Timer.{Timer}
use Rattle.x25_pipe.specs.Pipe.{mark_turn}
use Rattle.x25_pipe.specs.code.Stands.{Stood}
use Rattle.x25_pipe.proofs.pipe.Pipe.mark_standing.Goals as goal

pub returns-clause-turns : goal.returns-clause-turns
returns-clause-turns g c = λ k old s told refused h.
    subst (λ (t : Timer). Stood k old (g.W.Sink.contents c.mark.new.writer) c.mark.new.self told refused c.mark.result (mark_turn k t s))
    (c.reuse.ensures.timer k s h.fits)
    (c.mark.ensures.turns k old s told refused (record { fits = h.fits; role = h.role; tells = h.tells; status = h.status }))
