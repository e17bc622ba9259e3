use Rattle.std.proofs.Common.{◌≡◌, ◌∙◌, ◌%◌, sym, arith, length}
use Rattle.x25_script.proofs.OctetLemmas.{are_written, written_is, odd_unwritten, others_unwritten}
use Rattle.x25_script.proofs.hex_digits.HexDigits.of.Goals.{then-digits-eq1-via-then-digits-eq1, then-digits-eq1-via-else-digits-eq1+then-not-is_hexadecimal}
use Rattle.x25_script.proofs.hex_digits.HexDigits.of.Goals as goal

pub invariant_of-result : goal.invariant_of-result
invariant_of-result c =
    let odd = c.if-digits-eq1.false in
    let even : length c.args.digits.now % 2 ≡ 0 = omega (arith, odd) in
    are_written c.args.digits.now even (sym c.is_hexadecimal.ensures ∙ c.if-not-is_hexadecimal.false)

pub returns-then-digits-eq1 : goal.returns-then-digits-eq1
returns-then-digits-eq1 c = elim c.then-digits-eq1.branch [
  | then-digits-eq1-via-then-digits-eq1 w ↦ sym (odd_unwritten c.args.digits.now w.if-digits-eq1.true)
  | then-digits-eq1-via-else-digits-eq1+then-not-is_hexadecimal w ↦
      sym (others_unwritten c.args.digits.now (sym w.is_hexadecimal.ensures ∙ w.if-not-is_hexadecimal.true))
]

pub returns : goal.returns
returns c =
    let odd = c.if-digits-eq1.false in
    let even : length c.args.digits.now % 2 ≡ 0 = omega (arith, odd) in
    sym (written_is c.args.digits.now (are_written c.args.digits.now even (sym c.is_hexadecimal.ensures ∙ c.if-not-is_hexadecimal.false)))
