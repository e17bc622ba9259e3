use Rattle.std.proofs.Common.{◌<◌, ◌^◌, ◌∙◌, sym, arith, bit_xor}
use Rattle.std.proofs.lemmas.Nat.{xor_lt}
use Rattle.x25_bits.proofs.FcsLemmas.{fcs_of-low_bits}
use Rattle.x25_bits.proofs.FoldLemmas.{two_is}
use Rattle.x25_bits.proofs.FrameCheckTable.{two_leave}
use Rattle.x25_bits.proofs.frame_check.fcs.Goals as goal

pub returns-then-octets-eq2 : goal.returns-then-octets-eq2
returns-then-octets-eq2 c =
    let octets = c.args.octets.now in
    let read = c.read_u16-word.result in
    let few : read < 2 ^ 16 = omega (arith, c.read_u16-word.type_inv) in
    let word = bit_xor read 65535 in
    let register = bit_xor c.left.result c.left-first.result in
    let small : register < 2 ^ 16 = xor_lt 16 c.left.result c.left-first.result (omega (arith, c.left.type_inv)) (omega (arith, c.left-first.type_inv)) in
    let left = two_leave word _ _ (xor_lt 16 read 65535 few (omega arith)) c.left-first.ensures c.left.ensures in
    let fed = two_is octets read c.if-octets-eq2.true (λ i. omega (arith, c.type_inv.octets i)) few c.read_u16-word.ensures in
    sym (fcs_of-low_bits octets register small (sym (left ∙ fed)))

pub returns : goal.returns
returns c = sym (fcs_of-low_bits c.args.octets.now c.register.result (omega (arith, c.register.type_inv)) (sym c.register.ensures))
