use Rattle.std.proofs.Common.{◌+◌, ◌-◌, ◌*◌, ◌/◌, ◌%◌, ◌≡◌, ◌<◌, false, get_or, length, sym, subst, arith}
use Rattle.x25_bits.specs.FrameCheck.{bits_of}
use Rattle.x25_bits.specs.Passing.{Passes}
use Rattle.x25_bits.specs.code.Reading.{part}
use Rattle.x25_bits.proofs.OctetLemmas.{part_low}
use Rattle.x25_bits.proofs.StretchLemmas.{rest_few, rest_passes}
use Rattle.x25_bits.proofs.stretches.rest_of.Goals as goal

pub behind_zeros-requires-clause-few : goal.behind_zeros-requires-clause-few
behind_zeros-requires-clause-few c =
    rest_few (c.args.place % 8) (get_or c.args.octets.now (c.args.place / 8) 0) c.in-Some.passed (omega arith) (c.in-Some.ensures.passes false)

pub returns-clause-passes : goal.returns-clause-passes
returns-clause-passes c =
    let place = c.args.place in
    let octets = c.args.octets.now in
    let inside : place < 8 * length octets = c.requires.place in
    let run : c.args.scan.run ≡ 0 = omega arith in
    let inserted : c.args.scan.is_inserted ≡ false = c.if-scan.false in
    let p = c.behind_zeros.result in
    let zeros = c.behind_zeros.ensures in
    let bits = part place (place + (8 - place % 8)) (bits_of octets) in
    subst (λ r. Passes p r c.args.scan.is_inserted bits) (sym run) (subst (λ i. Passes p 0 i bits) (sym inserted)
    (subst (Passes p 0 false) (sym (part_low place (8 - place % 8) octets (omega arith) (omega arith)))
    (rest_passes (place % 8) (get_or octets (place / 8) 0) c.in-Some.passed p (omega arith) (c.in-Some.ensures.passes false) zeros.kept zeros.count zeros.run
    zeros.inserted)))
