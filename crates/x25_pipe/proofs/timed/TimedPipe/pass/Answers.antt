use Rattle.std.proofs.Common.{◌≡◌, ◌∙◌, ℕ, Option, true, false, nat_lt, if◌then◌else◌, refl, sym, subst, Some, None}
use Rattle.std.proofs.lemmas.Bool.{lt-ltb, le-ltb}
use Rattle.x25_pipe.specs.Pipe.{nothing_act}
use Rattle.x25_clock.specs.Clock.{most_due}
use Rattle.x25_pipe.specs.Timed.{act_turn, due_turns, pass_turn}
use Rattle.x25_pipe.specs.code.TimedStands.{StandsTimedAt, StoodTimed}
use Rattle.x25_pipe.proofs.TimedLemmas.{first_passed}
use Rattle.x25_pipe.proofs.timed.TimedPipe.pass.Goals as goal

pub returns-in_default-clause-turns : goal.returns-in_default-clause-turns
returns-in_default-clause-turns g c = λ k times old line w told refused h.
    let none : w.now ≡ None = sym h.time ∙ c.in_default.is in
    subst (λ (o : Option ℕ). StandsTimedAt k times old (g.W.Sink.contents c.args.writer.now) c.begin.new.self told refused (pass_turn k times c.args.now w o))
    (sym none)
    (first_passed k times old _ c.begin.new.self told refused c.args.now w (c.begin.ensures k times old _ w told refused h))

pub returns-then-now-last-clause-turns : goal.returns-then-now-last-clause-turns
returns-then-now-last-clause-turns g c = λ k times old line w told refused h.
    let now = c.args.now in
    let last = c.in-Some.last in
    let some : w.now ≡ Some last = sym h.time ∙ c.in-Some.is in
    let test : nat_lt now last ≡ true = lt-ltb now last c.if-now-last.true in
    subst (λ (o : Option ℕ). StoodTimed k times old (g.W.Sink.contents c.read_nothing.new.writer) c.read_nothing.new.self told refused c.read_nothing.result
    (pass_turn k times now w o)) (sym some)
    (subst (λ b. StoodTimed k times old (g.W.Sink.contents c.read_nothing.new.writer) c.read_nothing.new.self told refused c.read_nothing.result
    (if b then act_turn k times w (nothing_act w.station) else due_turns k times (most_due w.deadlines) (record w { now = Some now }))) (sym test)
    (c.read_nothing.ensures.turns k times old w told refused h))

pub returns-clause-turns : goal.returns-clause-turns
returns-clause-turns g c = λ k times old line w told refused h.
    let now = c.args.now in
    let last = c.in-Some.last in
    let some : w.now ≡ Some last = sym h.time ∙ c.in-Some.is in
    let test : nat_lt now last ≡ false = le-ltb now last c.if-now-last.false in
    subst (λ (o : Option ℕ). StoodTimed k times old (g.W.Sink.contents c.ask_due.new.writer) c.ask_due.new.self told refused c.ask_due.result
    (pass_turn k times now w o)) (sym some)
    (subst (λ b. StoodTimed k times old (g.W.Sink.contents c.ask_due.new.writer) c.ask_due.new.self told refused c.ask_due.result
    (if b then act_turn k times w (nothing_act w.station) else due_turns k times (most_due w.deadlines) (record w { now = Some now }))) (sym test)
    (c.ask_due.ensures.turns k times old (record w { now = Some now }) told refused
    (record { pipe = h.pipe; deadlines = h.deadlines; timers = h.timers; channels = h.channels; time = refl })))
