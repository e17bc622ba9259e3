-- What is shown of a request: an acceptance with the packet sizes and windows in force.
use Rattle.x25_station.proofs.Names.{◌≡◌, Bool, true, if◌then◌else◌, Option, Some, None, refl, ap, ◌∙◌, unwrap_or, Circuit, in_brief, Params, shown}
use Rattle.x25_circuit.specs.Calling as circuit

-- it looks at packet sizes and windows alone
pub same_shown : (x y : Circuit) (request : circuit.Request) → x.params ≡ y.params → shown x request ≡ shown y request
same_shown x y (circuit.Accepts answer) same = ap (λ (q : Params). circuit.Accepts (Some (in_brief q))) same
same_shown x y request same = refl

-- those of a configured channel
pub in_force : (configured : Bool) (o : Option Params) (p q : Params) → configured ≡ true → o ≡ (if configured then Some p else None) → unwrap_or o q ≡ p
in_force configured o p q is same = ap (λ (x : Option Params). unwrap_or x q) (same ∙ ap (λ (b : Bool). if b then Some p else None) is)
