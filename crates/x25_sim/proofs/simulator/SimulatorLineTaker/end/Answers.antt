use Rattle.std.proofs.Common.{◌≡◌, ◌∙◌, Bool, [], true, false, ap, refl, if◌then◌else◌}
use Rattle.std.proofs.lemmas.Result.{err_from_is_err_and}
use mir.Val.{bool_byte}
use Rattle.x25_sim.specs.Stage.{simulated, turns}
use Rattle.x25_sim.proofs.StreamLemmas.{left_begun, left_written, whole_told}
use Rattle.x25_sim.proofs.simulator.SimulatorLineTaker.end.Goals as goal

byte_is : (b : Bool) → bool_byte b ≡ (if b then 1 else 0)
byte_is true = refl
byte_is false = refl

pub returns-in_err-flush-clause-all : goal.returns-in_err-flush-clause-all
returns-in_err-flush-clause-all g c = λ a old script l.
    let p = err_from_is_err_and c.from_residual.result c.from_residual.ensures.1 in
    rw p.1 (left_begun a.cfg a.shown old _ _ (simulated a.cfg a.down a.shown script) c.args.self.now.stage (turns a.cfg a.shown []) l
    (c.in_err-flush.ensures.stands a.cfg a.shown old l.at l.text l.status l.stands))

pub returns-clause-all : goal.returns-clause-all
returns-clause-all g c = λ a old script l.
    let whole = simulated a.cfg a.down a.shown script in
    let done = whole_told a.cfg a.shown old _ c.flush.new.self whole
    (left_written a.cfg a.shown old _ _ whole c.args.self.now.stage c.flush.new.self (turns a.cfg a.shown []) l
    (c.in_ok-flush.ensures.stands a.cfg a.shown old l.at l.text l.status l.stands)) c.in_ok-flush.ensures.empty in
    (done.0, c.from.ensures ∙ ap bool_byte (c.is_refused.ensures ∙ done.1) ∙ byte_is _)
