use Rattle.std.proofs.Common.{◌∙◌, take, if◌then◌else◌, Some, None, ap, sym, subst}
use Rattle.x25_station.specs.laws.TimerLaw.{Comes}
use Rattle.x25_pipe.specs.Pipe.{asked_act, is_same}
use Rattle.x25_pipe.specs.code.Stands.{Acted}
use Rattle.x25_pipe.proofs.pipe.Pipe.hear.Goals as goal

pub returns-then-is_same-clause-acts : goal.returns-then-is_same-clause-acts
returns-then-is_same-clause-acts g c = λ k old s told refused h.
    let event = Comes (take c.args.count c.args.self.now.octets) in
    let test = ap (λ end. is_same end c.args.from) (sym c.other.ensures) ∙ sym c.is_same.ensures ∙ c.if-is_same.true in
    subst (λ b. Acted k old (g.W.Sink.contents c.receive.new.writer) c.receive.new.self told refused c.receive.result
    (asked_act k s (if b then Some event else None))) (sym test)
    (c.receive.ensures.acts k old s told refused h)

pub returns-clause-acts : goal.returns-clause-acts
returns-clause-acts g c = λ k old s told refused h.
    let event = Comes (take c.args.count c.args.self.now.octets) in
    let test = ap (λ end. is_same end c.args.from) (sym c.other.ensures) ∙ sym c.is_same.ensures ∙ c.if-is_same.false in
    subst (λ b. Acted k old (g.W.Sink.contents c.read_nothing.new.writer) c.read_nothing.new.self told refused c.read_nothing.result
    (asked_act k s (if b then Some event else None))) (sym test)
    (c.read_nothing.ensures.acts k old s told refused h)
