use Rattle.std.proofs.Common.{◌≡◌, ◌<◌, ◌≤◌, length, sym, subst}
use Rattle.std.specs.Prelude.{MatchOption}
use Rattle.x25_io.specs.HeldLine.{most_line}
use Rattle.x25_pipe.specs.Pipe.{asked_act, event_in}
use Rattle.x25_pipe.specs.code.Stands.{Acted, Acts}
use Rattle.x25_pipe.proofs.LineLemmas.{event_long}
use Rattle.x25_pipe.proofs.pipe.Pipe.answer.Goals as goal

pub returns-in-Some-clause-acts : goal.returns-in-Some-clause-acts
returns-in-Some-clause-acts g c = λ k old text line.
    let is = subst (λ o. MatchOption o (most_line < length text) (λ held. (held.now ≡ text) × (length text ≤ most_line))) c.in-Some.is line in
    subst (λ line. Acts k old (g.W.Sink.contents c.args.writer.now) (g.W.Sink.contents c.obey.new.writer) c.args.self.now c.obey.new.self c.obey.result
    (λ s. asked_act k s (event_in k.wide k.role line))) is.0
    (c.obey.ensures.acts (subst (λ line. length line ≤ most_line) (sym is.0) is.1) k old)

pub returns-in-None-clause-acts : goal.returns-in-None-clause-acts
returns-in-None-clause-acts g c = λ k old text line s told refused h.
    let long = subst (λ o. MatchOption o (most_line < length text) (λ held. (held.now ≡ text) × (length text ≤ most_line))) c.in-None.is line in
    subst (λ event. Acted k old (g.W.Sink.contents c.read_nothing.new.writer) c.read_nothing.new.self told refused c.read_nothing.result (asked_act k s event))
    (sym (event_long k.wide k.role text long))
    (c.read_nothing.ensures.acts k old s told refused h)
