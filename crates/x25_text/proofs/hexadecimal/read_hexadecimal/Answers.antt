use Rattle.std.proofs.Common.{◌≡◌, ◌∙◌, ◌+◌, ◌-◌, ◌*◌, arith, length, subst}
use Rattle.x25_text.proofs.{BlockLemmas.{Reads, reads_fault, reads_last, reads_more, reads_none}, PairLemmas.{decode_read}}
use Rattle.x25_text.proofs.hexadecimal.read_hexadecimal.Goals as goal

pub loop-eight-init : goal.loop-eight-init
loop-eight-init c = reads_none c.args.digits.now c.args.octets.now

pub returns-then-count-lt8 : goal.returns-then-count-lt8
returns-then-count-lt8 c = decode_read c.args.digits.now (length c.args.octets.now) c.requires ∙ c.read_pairs.ensures

pub returns-then-not-read_eight : goal.returns-then-not-read_eight
returns-then-not-read_eight c =
    let size = length c.args.octets.now in
    decode_read c.args.digits.now size c.requires
    ∙ reads_fault size (8 * c.loop-eight.eight) 8 c.args.digits.now c.loop-eight.octets c.loop-eight.invariant c.requires
    (omega (arith, c.loop-eight-test.true, c.loop-eight.auto.eight-end)) c.if-not-read_eight.ensures.octets

pub loop-eight-preserved : goal.loop-eight-preserved
loop-eight-preserved c =
    let size = length c.args.octets.now in
    let on : 8 * c.loop-eight.eight + 8 ≡ 8 * (c.loop-eight.eight + 1) = omega arith in
    subst (λ n. Reads size n c.args.digits.now c.read_eight.new.octets) on
    (reads_more size (8 * c.loop-eight.eight) 8 c.args.digits.now c.loop-eight.octets c.read_eight.new.octets c.loop-eight.invariant c.requires
    (omega (arith, c.loop-eight-test.true, c.loop-eight.auto.eight-end)) c.if-not-read_eight.ensures.octets c.if-not-read_eight.ensures.before
    (omega (arith, c.read_eight.auto.octets, c.loop-eight.invariant.long)))

pub returns : goal.returns
returns c =
    let size = length c.args.octets.now in
    decode_read c.args.digits.now size c.requires
    ∙ reads_last size (8 * c.loop-eight.eight) (size - 8) 8 c.args.digits.now c.loop-eight.octets c.read_eight-2.new.octets c.read_eight-2.result
    c.loop-eight.invariant c.requires
    (omega (arith, c.loop-eight-test.false, c.loop-eight.auto.eight-end, c.if-count-lt8.false))
    (omega (arith, c.loop-eight.auto.eight-end, c.loop-eight-test.false))
    (omega (arith, c.if-count-lt8.false)) c.read_eight-2.ensures.octets c.read_eight-2.ensures.before
    (omega (arith, c.read_eight-2.auto.octets, c.loop-eight.invariant.long))
