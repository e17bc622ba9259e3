use Rattle.x25_line.proofs.TapeLemmas.{silence_keeps_order}
use Rattle.x25_line.proofs.law.silent_tape_keeps_order.Goals as goal

pub returns : goal.returns
returns c =
    let below = c.laws_below.ensures in
    silence_keeps_order below.reads below.healing.sessions.laws
