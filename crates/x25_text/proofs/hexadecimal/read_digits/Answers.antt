use Rattle.std.proofs.Common.{◌≡◌, ◌∙◌, ◌+◌, ◌-◌, ◌*◌, true, arith, length, subst}
use Rattle.x25_text.proofs.{BlockLemmas.{Reads, reads_last, reads_more, reads_none}, PairLemmas.{decode_read}}
use Rattle.x25_text.proofs.hexadecimal.read_digits.Goals as goal

pub loop-sixteen-init : goal.loop-sixteen-init
loop-sixteen-init c = reads_none c.args.digits.now c.args.octets.now

pub returns-then-count-lt16 : goal.returns-then-count-lt16
returns-then-count-lt16 c = decode_read c.args.digits.now (length c.args.octets.now) c.requires.length ∙ c.read_few_digits.ensures

pub loop-sixteen-preserved : goal.loop-sixteen-preserved
loop-sixteen-preserved c =
    let size = length c.args.octets.now in
    let on : 16 * c.loop-sixteen.sixteen + 16 ≡ 16 * (c.loop-sixteen.sixteen + 1) = omega arith in
    subst (λ n. Reads size n c.args.digits.now c.read_sixteen_digits.new.octets) on
    (reads_more size (16 * c.loop-sixteen.sixteen) 16 c.args.digits.now c.loop-sixteen.octets c.read_sixteen_digits.new.octets c.loop-sixteen.invariant
    c.requires.length
    (omega (arith, c.loop-sixteen-test.true, c.loop-sixteen.auto.sixteen-end)) c.read_sixteen_digits.ensures.octets c.read_sixteen_digits.ensures.before
    (omega (arith, c.read_sixteen_digits.auto.octets, c.loop-sixteen.invariant.long)))

pub returns : goal.returns
returns c =
    let size = length c.args.octets.now in
    decode_read c.args.digits.now size c.requires.length
    ∙ reads_last size (16 * c.loop-sixteen.sixteen) (size - 16) 16 c.args.digits.now c.loop-sixteen.octets c.read_sixteen_digits-2.new.octets true
    c.loop-sixteen.invariant c.requires.length
    (omega (arith, c.loop-sixteen-test.false, c.loop-sixteen.auto.sixteen-end, c.if-count-lt16.false))
    (omega (arith, c.loop-sixteen.auto.sixteen-end, c.loop-sixteen-test.false))
    (omega (arith, c.if-count-lt16.false)) c.read_sixteen_digits-2.ensures.octets c.read_sixteen_digits-2.ensures.before
    (omega (arith, c.read_sixteen_digits-2.auto.octets, c.loop-sixteen.invariant.long))
