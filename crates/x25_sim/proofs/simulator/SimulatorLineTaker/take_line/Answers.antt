use Rattle.std.proofs.Common.{◌≡◌, ◌<◌, ◌≤◌, length, sym, subst}
use Rattle.std.specs.Prelude.{MatchOption}
use Rattle.std.proofs.lemmas.Result.{MatchResult-weaker}
use Rattle.x25_io.specs.HeldLine.{most_line}
use Rattle.x25_script.specs.ScriptLine.{taken}
use Rattle.x25_sim.specs.Stage.{asked_turn, simulated, turn}
use Rattle.x25_sim.specs.code.Stands.{Stood, Turns}
use Rattle.x25_sim.proofs.StreamLemmas.{asks_nothing, line_done, line_failed, obeyed}
use Rattle.x25_sim.proofs.simulator.SimulatorLineTaker.take_line.Goals as goal

pub returns-in-Some-clause-on : goal.returns-in-Some-clause-on
returns-in-Some-clause-on g c = λ a old first lines script line l.
    let whole = simulated a.cfg a.down a.shown script in
    let is = subst (λ o. MatchOption o (most_line < length first) (λ held. (held.now ≡ first) × (length first ≤ most_line))) c.in-Some.is line in
    let few = subst (λ line. length line ≤ most_line) (sym is.0) is.1 in
    let obeys = obeyed a.cfg a.shown old (g.W.Sink.contents c.args.writer.now) (g.W.Sink.contents c.read.new.writer) c.args.self.now.stage
    c.read.new.self.stage c.read.result c.in-Some.line.now
    few (c.read.ensures.turns a.cfg a.shown old) in
    let turned = subst (λ line. Turns a.cfg a.shown old (g.W.Sink.contents c.args.writer.now) (g.W.Sink.contents c.read.new.writer) c.args.self.now.stage
    c.read.new.self.stage c.read.result (turn a.cfg a.shown line)) is.0
    obeys in
    MatchResult-weaker c.read.result (turned l.at l.text l.status l.stands)
    (λ _ done. line_done a.cfg a.shown old _ _ whole c.args.self.now.stage c.read.new.self.stage first lines l done)
    (λ _ begins. line_failed a.cfg a.shown old _ _ whole c.args.self.now.stage first lines l begins)

pub returns-in-None-clause-on : goal.returns-in-None-clause-on
unfolding turn
returns-in-None-clause-on g c = λ a old first lines script line l.
    let whole = simulated a.cfg a.down a.shown script in
    let long = subst (λ o. MatchOption o (most_line < length first) (λ held. (held.now ≡ first) × (length first ≤ most_line))) c.in-None.is line in
    MatchResult-weaker c.read_nothing.result
    (subst (λ asked. Stood a.cfg a.shown old (g.W.Sink.contents c.read_nothing.new.writer) c.read_nothing.new.self l.text l.status c.read_nothing.result
    (asked_turn a.cfg a.shown l.at (taken a.cfg.wide asked))) (sym (asks_nothing first long))
    (c.read_nothing.ensures.turns a.cfg a.shown old l.at l.text l.status l.stands))
    (λ _ done. line_done a.cfg a.shown old _ _ whole c.args.self.now.stage c.read_nothing.new.self first lines l done)
    (λ _ begins. line_failed a.cfg a.shown old _ _ whole c.args.self.now.stage first lines l begins)
