use Rattle.std.proofs.Common.{◌≡◌, ◌+◌, ◌-◌, ◌*◌, arith, length, subst}
use Rattle.x25_text.proofs.ShownLemmas.{Shows, shows_last, shows_more, shows_none}
use Rattle.x25_text.proofs.hexadecimal.write_hexadecimal.Goals as goal

pub loop-eight-init : goal.loop-eight-init
loop-eight-init c = shows_none c.args.octets.now c.args.digits.now c.requires

pub loop-eight-preserved : goal.loop-eight-preserved
loop-eight-preserved c =
    let on : 8 * c.loop-eight.eight + 8 ≡ 8 * (c.loop-eight.eight + 1) = omega arith in
    subst (λ n. Shows n c.args.octets.now c.write_eight.new.digits) on
    (shows_more (8 * c.loop-eight.eight) 8 c.args.octets.now c.loop-eight.digits c.write_eight.new.digits c.loop-eight.invariant c.write_eight.ensures
    c.write_eight.auto.digits)

pub returns : goal.returns
returns c =
    let size = length c.args.octets.now in
    shows_last (size - 8) 8 (8 * c.loop-eight.eight) c.args.octets.now c.loop-eight.digits c.write_eight-2.new.digits c.loop-eight.invariant
    (omega (arith, c.loop-eight-test.false, c.loop-eight.auto.eight-end, c.if-count-lt8.false))
    (omega (arith, c.loop-eight.auto.eight-end, c.loop-eight-test.false))
    (omega (arith, c.if-count-lt8.false)) c.write_eight-2.ensures c.write_eight-2.auto.digits
