use Rattle.std.proofs.Common.{subst, None}
use Rattle.x25_pipe.specs.Pipe.{asked_act}
use Rattle.x25_pipe.specs.code.Stands.{Acted}
use Rattle.x25_pipe.proofs.LineLemmas.{event_read_at}
use Rattle.x25_pipe.proofs.pipe.Pipe.obey.Goals as goal

pub returns-in-Some-clause-acts : goal.returns-in-Some-clause-acts
returns-in-Some-clause-acts g c = λ few k old s told refused h.
    subst (λ event. Acted k old (g.W.Sink.contents c.hear.new.writer) c.hear.new.self told refused c.hear.result (asked_act k s event))
    (event_read_at k.wide _ k.role c.args.line.now _ h.role few c.in-Some.ensures.sent.1)
    (c.hear.ensures.acts k old s told refused (record { fits = h.fits; role = h.role; tells = h.tells; status = h.status }))

pub returns-in-None-clause-acts : goal.returns-in-None-clause-acts
returns-in-None-clause-acts g c = λ few k old s told refused h.
    subst (λ event. Acted k old (g.W.Sink.contents c.read_line.new.with) c.read_line.new.taker told refused c.read_line.result (asked_act k s event))
    (event_read_at k.wide _ k.role c.args.line.now None h.role few c.in-None.ensures.sent)
    (c.read_line.ensures.exact.0 k old s told refused (record { fits = h.fits; role = h.role; tells = h.tells; status = h.status }))
