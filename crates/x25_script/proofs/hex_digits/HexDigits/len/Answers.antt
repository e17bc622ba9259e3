use Rattle.std.proofs.Common.{◌≡◌, ◌/◌, List, ℕ, arith, length, subst}
use Rattle.x25_script.proofs.OctetLemmas.{length_written}
use Rattle.x25_script.proofs.hex_digits.HexDigits.len.Goals as goal

pub returns : goal.returns
returns c =
    let text = c.self.inside.digits.now in
    let long = length_written text c.self.invariant in
    subst (λ (octets : List ℕ). length text / 2 ≡ length octets) c.self.view_is (omega (arith, long))
