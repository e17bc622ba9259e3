use Rattle.std.proofs.Common.{rules}
use Rattle.std.proofs.lemmas.Result.{err_from_is_err_and}
use Rattle.x25_io.proofs.ToldLemmas.{told_more}
use Rattle.x25_sim.proofs.simulator.SimulatorScriptTaker.damage.Goals as goal

pub returns-in_err-count : goal.returns-in_err-count
returns-in_err-count g c =
    let p = err_from_is_err_and c.from_residual.result c.from_residual.ensures.1 in
    ((λ cfg shown old w told refused h. rw p.1 (told_more _ _ _ told _ h.tells)), search rules)
