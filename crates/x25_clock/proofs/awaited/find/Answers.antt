use Rattle.std.proofs.Common.{◌∙◌, None, sym, arith}
use Rattle.x25_circuit.specs.declared.awaits.Awaits.TheVariants.{Nothing}
use Rattle.x25_clock.specs.declared.wait.Wait.{Wait}
use Rattle.x25_clock.proofs.ListedLemmas.{first_higher}
use Rattle.x25_clock.proofs.awaited.find.Goals as goal

pub returns-then-wait-channel-2-clause-wait : goal.returns-then-wait-channel-2-clause-wait
returns-then-wait-channel-2-clause-wait c =
    let listed = c.requires.listed in
    let none : Wait = record { channel = 0; awaits = Nothing; until = None; unacknowledged = None; rotates = None } in
    c.nothing_on.ensures
    ∙ sym (first_higher c.loop-place.place c.args.channel listed.0 listed.1 c.args.waits.now none (omega arith) listed.2 (omega arith))
    ∙ c.loop-place.invariant c.args.channel (omega arith)
