use Rattle.std.{proofs.Common.{◌∙◌, [], ap, length, sym, arith}, specs.Prelude.{unwrap_or}}
use Rattle.x25_script.proofs.OctetLemmas.{length_written, written_are_digits}
use Rattle.x25_script.proofs.hex_digits.HexDigits.write_to.Goals as goal

pub read_digits-requires-clause-digits : goal.read_digits-requires-clause-digits
read_digits-requires-clause-digits c = written_are_digits c.self.inside.digits.now c.self.invariant

pub read_digits-requires-clause-length : goal.read_digits-requires-clause-length
read_digits-requires-clause-length c =
    let text = c.self.inside.digits.now in
    let long = length_written text c.self.invariant in
    let room = c.requires ∙ ap length (sym c.self.view_is) in
    omega (arith, long, room)

pub returns : goal.returns
returns c = ap (λ o. unwrap_or o []) (sym c.read_digits.ensures) ∙ c.self.view_is
