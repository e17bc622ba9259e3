use Rattle.x25_circuit.proofs.Names.{◌≡◌, ◌∙◌, ℕ, Bool, ◌+◌, Some, None, Option, if◌then◌else◌, sym, ap, arith}
use Rattle.std.proofs.Common.{◌-◌, ◌%◌}
use Rattle.x25_circuit.specs.Circuit.{Circuit}
use Rattle.x25_circuit.proofs.circuit.Circuit.unacknowledged.Goals as goal

abbrev number_if : (x : Circuit) (b : Bool) → Option ℕ
number_if x b = if b then Some (x.talk.acked % 8) else None

pub returns-then-not-is_unacknowledged : goal.returns-then-not-is_unacknowledged
returns-then-not-is_unacknowledged c = λ d x fits. ap (number_if x) (sym c.if-not-is_unacknowledged.true ∙ c.is_unacknowledged.ensures d x fits)

pub returns : goal.returns
returns c = λ d x fits.
    let numbers = fits.talk.numbers in
    let top = c.top.ensures numbers.state numbers.fits in
    let get = c.get.ensures in
    let unacked = c.unacked.ensures.state numbers.state numbers.fits in
    let few = c.unacked.ensures.few in
    let acked = numbers.acked in
    let is : (c.get.result + 8 - c.unacked.result) % 8 ≡ x.talk.acked % 8 = omega (arith, top, get, unacked, few, acked) in
    ap Some is ∙ ap (number_if x) (sym c.if-not-is_unacknowledged.false ∙ c.is_unacknowledged.ensures d x fits)
