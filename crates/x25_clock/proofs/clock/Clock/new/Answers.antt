use Rattle.std.proofs.Common.{◌∙◌, ap, List, None}
use Rattle.x25_clock.specs.declared.wait.Wait.{Wait}
use Rattle.x25_clock.specs.Clock.{Deadlines, spread}
use Rattle.x25_clock.proofs.ListedLemmas.{none_listed}
use Rattle.x25_clock.proofs.clock.Clock.new.Goals as goal

pub returns-clause-plain : goal.returns-clause-plain
returns-clause-plain c =
    let only : List Wait → Deadlines = λ ws. record { t1 = None; idle = None; restart = None; waits = ws } in
    ap only (ap (spread c.args.channels 1) c.in_ok-waits.ensures.items ∙ none_listed c.args.channels 1)
