use Rattle.std.proofs.Common.{◌*◌, ◌/◌, ◌≤◌, ◌≡◌, length, sym, subst, arith}
use Rattle.x25_bits.specs.FrameCheck.{bits_of}
use Rattle.x25_bits.specs.code.FitsSeen.{FitsSeen}
use Rattle.x25_bits.specs.code.Reading.{part}
use Rattle.x25_bits.proofs.IdleLemmas.{none_more_seen, none_more_found}
use Rattle.x25_bits.proofs.PassingLemmas.{content_fits, content_found, whole_part, whole_quiet}
use Rattle.x25_bits.proofs.deframer.Deframer.take_content.Goals as goal

pub returns-then-at-ne0-clause-fits : goal.returns-then-at-ne0-clause-fits
returns-then-at-ne0-clause-fits c = λ v f.
    subst (FitsSeen c.args.self.now) (sym (none_more_seen c.args.self.now c.args.at (bits_of c.args.octets.now) v f)) f

pub returns-then-at-ne0-clause-found : goal.returns-then-at-ne0-clause-found
returns-then-at-ne0-clause-found c = none_more_found c.args.self.now c.args.at (bits_of c.args.octets.now)

pub returns-then-not-is_in_content-clause-fits : goal.returns-then-not-is_in_content-clause-fits
returns-then-not-is_in_content-clause-fits c = λ v f.
    subst (FitsSeen c.args.self.now) (sym (none_more_seen c.args.self.now c.args.at (bits_of c.args.octets.now) v f)) f

pub returns-then-not-is_in_content-clause-found : goal.returns-then-not-is_in_content-clause-found
returns-then-not-is_in_content-clause-found c = none_more_found c.args.self.now c.args.at (bits_of c.args.octets.now)

pub returns-clause-fits : goal.returns-clause-fits
returns-clause-fits c =
    let taken = c.take_whole-taken.result in
    let there = c.take_whole-taken.ensures in
    let scan = c.behind_octets-self.ensures in
    let is = c.if-not-is_in_content.false in
    let room : length c.args.self.now.kept ≤ 32823 = c.is_in_content.ensures.room is in
    let at : c.args.at ≡ 8 * (c.args.at / 8) = omega (arith, c.if-at-ne0.false) in
    whole_part c.args.self.now _ c.args.at (c.args.at / 8) taken.end c.args.octets.now at
    (content_fits c.args.self.now _ taken.run taken.is_inserted (part (8 * (c.args.at / 8)) (8 * taken.end) (bits_of c.args.octets.now))
    (c.is_in_content.ensures.opened is) (c.is_in_content.ensures.going is) (omega arith) there.few there.passes scan.run scan.opened scan.aborted scan.inserted
    there.bits)

pub returns-clause-found : goal.returns-clause-found
returns-clause-found c =
    let at : c.args.at ≡ 8 * (c.args.at / 8) = omega (arith, c.if-at-ne0.false) in
    content_found c.args.self.now (part c.args.at (8 * c.take_whole-taken.result.end) (bits_of c.args.octets.now))
    (whole_quiet c.args.self.now.scan.run c.args.at (c.args.at / 8) c.take_whole-taken.result.end c.args.octets.now at c.take_whole-taken.ensures.passes.quiet)
