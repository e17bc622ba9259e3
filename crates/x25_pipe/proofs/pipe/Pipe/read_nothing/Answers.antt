use Rattle.std.proofs.Common.{refl}
use Rattle.x25_pipe.proofs.StandLemmas.{acted_nothing}
use Rattle.x25_pipe.proofs.pipe.Pipe.read_nothing.Goals as goal

pub returns-clause-acts : goal.returns-clause-acts
returns-clause-acts g c = λ k old s told refused h.
    acted_nothing k old _ _ s told refused c.tell_nothing.result (c.tell_nothing.ensures.tells old told h.tells) h.fits h.role refl
    (c.reuse.ensures.timer k s h.fits) c.reuse.ensures.empty
