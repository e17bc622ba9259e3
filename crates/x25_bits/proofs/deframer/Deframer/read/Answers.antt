use Rattle.std.proofs.Common.{◌+◌, ◌≡◌, ◌<◌, ◌≤◌, ◌∙◌, ◌++◌, sym, subst, arith}
use Rattle.x25_bits.specs.FrameCheck.{bits_of}
use Rattle.x25_bits.specs.code.Fits.{Fits}
use Rattle.x25_bits.specs.code.FitsSeen.{FitsSeen}
use Rattle.x25_bits.specs.code.Reading.{part}
use Rattle.x25_bits.proofs.LendingLemmas.{reads_none, reads_more, reads_part, bit_fits, bit_lends, all_fit, all_lend, none_first}
use Rattle.x25_bits.proofs.OctetLemmas.{length-bits_of}
use Rattle.x25_bits.proofs.PassingLemmas.{passed_fits, passed_found}
use Rattle.x25_bits.specs.code.Held.{seen_from}
use Rattle.x25_bits.specs.code.Skips.{Skips}
use Rattle.x25_bits.proofs.SkippingLemmas.{skipped_fits}
use Rattle.x25_bits.proofs.deframer.Deframer.read.Goals as goal

pub loop-place-init : goal.loop-place-init
loop-place-init c = record { low = omega arith; high = c.requires.at; reads = reads_none c.args.self.now c.args.at (bits_of c.args.octets.now) }

pub loop-place-preserved-then-behind-end : goal.loop-place-preserved-then-behind-end
loop-place-preserved-then-behind-end c =
    let content = c.take_content-behind.ensures in
    let e = c.take_content-behind.new.self in
    let place = c.loop-place.place in
    let behind = c.take_content-behind.result in
    let was : c.args.at ≤ place = c.loop-place.invariant.low in
    let on : place ≤ behind = content.low in
    let low : c.args.at ≤ behind = omega arith in
    let reads = reads_part c.args.self.now c.loop-place.self e c.args.at place behind (bits_of c.args.octets.now) c.loop-place.invariant.reads was on
    content.fits content.found in
    record { low = low; high = content.high; reads = reads }

pub loop-place-preserved-in-Some : goal.loop-place-preserved-in-Some
loop-place-preserved-in-Some c =
    let content = c.take_content-behind.ensures in
    let e = c.take_content-behind.new.self in
    let place = c.loop-place.place in
    let behind = c.take_content-behind.result in
    let was : c.args.at ≤ place = c.loop-place.invariant.low in
    let on : place ≤ behind = content.low in
    let low : c.args.at ≤ behind = omega arith in
    let reads = reads_part c.args.self.now c.loop-place.self e c.args.at place behind (bits_of c.args.octets.now) c.loop-place.invariant.reads was on
    content.fits content.found in
    let stretch = c.in-Some.stretch in
    let there = c.in-Some.ensures in
    let later : behind < stretch.end = there.low in
    let bits = part behind stretch.end (bits_of c.args.octets.now) in
    let kept = c.keep_passed.ensures in
    record {
      low = omega arith;
      high = there.high;
      reads = reads_part c.args.self.now e c.keep_passed.new.self c.args.at behind stretch.end (bits_of c.args.octets.now) reads low (omega arith)
          (passed_fits e c.keep_passed.new.self stretch.passed bits there.opened there.going there.room there.size there.passes
          kept.run kept.opened kept.aborted kept.inserted kept.kept)
          (passed_found e stretch.passed bits there.passes);
    }

pub loop-place-preserved-in-Some-skip_at : goal.loop-place-preserved-in-Some-skip_at
loop-place-preserved-in-Some-skip_at c =
    let content = c.take_content-behind.ensures in
    let e = c.take_content-behind.new.self in
    let place = c.loop-place.place in
    let behind = c.take_content-behind.result in
    let was : c.args.at ≤ place = c.loop-place.invariant.low in
    let on : place ≤ behind = content.low in
    let low : c.args.at ≤ behind = omega arith in
    let reads = reads_part c.args.self.now c.loop-place.self e c.args.at place behind (bits_of c.args.octets.now) c.loop-place.invariant.reads was on
    content.fits content.found in
    let skipped = c.in-Some-skip_at.skipped in
    let there = c.in-Some-skip_at.ensures in
    let later : behind < skipped.end = there.low in
    let bits = part behind skipped.end (bits_of c.args.octets.now) in
    record {
      low = omega arith;
      high = there.high;
      reads = reads_part c.args.self.now e c.skip.new.self c.args.at behind skipped.end (bits_of c.args.octets.now) reads low (omega arith)
          (λ v f. skipped_fits c.skip.new.self (seen_from v bits) (subst (λ s. Skips s (seen_from v bits)) (sym c.skip.ensures.scan) (there.skips v f)))
          there.none;
    }

pub loop-place-preserved-then-next-behind : goal.loop-place-preserved-then-next-behind
loop-place-preserved-then-next-behind c =
    let content = c.take_content-behind.ensures in
    let e = c.take_content-behind.new.self in
    let place = c.loop-place.place in
    let behind = c.take_content-behind.result in
    let was : c.args.at ≤ place = c.loop-place.invariant.low in
    let on : place ≤ behind = content.low in
    let low : c.args.at ≤ behind = omega arith in
    let reads = reads_part c.args.self.now c.loop-place.self e c.args.at place behind (bits_of c.args.octets.now) c.loop-place.invariant.reads was on
    content.fits content.found in
    let next : behind ≤ c.idle_bits_until-next.result = c.idle_bits_until-next.ensures.low in
    record {
      low = omega arith;
      high = c.idle_bits_until-next.ensures.high;
      reads = reads_part c.args.self.now e e c.args.at behind c.idle_bits_until-next.result (bits_of c.args.octets.now) reads low next
          (λ v f. subst (FitsSeen e) (sym (c.idle_bits_until-next.ensures.seen v f)) f)
          c.idle_bits_until-next.ensures.found;
    }

pub loop-place-preserved : goal.loop-place-preserved
loop-place-preserved c =
    let size = length-bits_of c.args.octets.now in
    let content = c.take_content-behind.ensures in
    let e = c.take_content-behind.new.self in
    let place = c.loop-place.place in
    let behind = c.take_content-behind.result in
    let was : c.args.at ≤ place = c.loop-place.invariant.low in
    let on : place ≤ behind = content.low in
    let low : c.args.at ≤ behind = omega arith in
    let reads = reads_part c.args.self.now c.loop-place.self e c.args.at place behind (bits_of c.args.octets.now) c.loop-place.invariant.reads was on
    content.fits content.found in
    let inside : behind < c.args.end = omega (arith, content.high, c.if-behind-end.false) in
    record {
      low = omega arith;
      high = omega arith;
      reads = reads_more c.args.self.now e c.step-closed.new.self c.step-closed.result c.args.at behind (bits_of c.args.octets.now) c.step-closed.new.self.last
          c.read_bit.result
          reads (omega arith) (omega arith) c.read_bit.ensures c.step-closed.ensures.fits c.step-closed.ensures.found
          (sym c.is_some.ensures ∙ c.if-is_some.false);
    }

pub returns-then-is_some-clause-fits : goal.returns-then-is_some-clause-fits
returns-then-is_some-clause-fits c = λ before h.
    let size = length-bits_of c.args.octets.now in
    let content = c.take_content-behind.ensures in
    let e = c.take_content-behind.new.self in
    let place = c.loop-place.place in
    let behind = c.take_content-behind.result in
    let was : c.args.at ≤ place = c.loop-place.invariant.low in
    let on : place ≤ behind = content.low in
    let low : c.args.at ≤ behind = omega arith in
    let reads = reads_part c.args.self.now c.loop-place.self e c.args.at place behind (bits_of c.args.octets.now) c.loop-place.invariant.reads was on
    content.fits content.found in
    let inside : behind < c.args.end = omega (arith, content.high, c.if-behind-end.false) in
    all_fit c.args.self.now c.step-closed.new.self c.args.at (behind + 1) (bits_of c.args.octets.now) before
    (bit_fits c.args.self.now e c.step-closed.new.self c.args.at behind (bits_of c.args.octets.now) c.read_bit.result reads (omega arith) (omega arith)
    c.read_bit.ensures c.step-closed.ensures.fits) h

pub returns-then-is_some-clause-found : goal.returns-then-is_some-clause-found
returns-then-is_some-clause-found c = λ before h.
    let size = length-bits_of c.args.octets.now in
    let content = c.take_content-behind.ensures in
    let e = c.take_content-behind.new.self in
    let place = c.loop-place.place in
    let behind = c.take_content-behind.result in
    let was : c.args.at ≤ place = c.loop-place.invariant.low in
    let on : place ≤ behind = content.low in
    let low : c.args.at ≤ behind = omega arith in
    let reads = reads_part c.args.self.now c.loop-place.self e c.args.at place behind (bits_of c.args.octets.now) c.loop-place.invariant.reads was on
    content.fits content.found in
    let inside : behind < c.args.end = omega (arith, content.high, c.if-behind-end.false) in
    all_lend c.args.self.now c.step-closed.result c.args.at (behind + 1) (bits_of c.args.octets.now) c.step-closed.new.self.last before
    (bit_lends c.args.self.now e c.step-closed.result c.args.at behind (bits_of c.args.octets.now) c.step-closed.new.self.last c.read_bit.result reads
    (omega arith) (omega arith) c.read_bit.ensures c.step-closed.ensures.found) h

pub returns-then-is_some-clause-first : goal.returns-then-is_some-clause-first
returns-then-is_some-clause-first c = λ before n h less.
    let content = c.take_content-behind.ensures in
    let e = c.take_content-behind.new.self in
    let place = c.loop-place.place in
    let behind = c.take_content-behind.result in
    let was : c.args.at ≤ place = c.loop-place.invariant.low in
    let on : place ≤ behind = content.low in
    let low : c.args.at ≤ behind = omega arith in
    let reads = reads_part c.args.self.now c.loop-place.self e c.args.at place behind (bits_of c.args.octets.now) c.loop-place.invariant.reads was on
    content.fits content.found in
    none_first c.args.self.now e c.args.at n behind (bits_of c.args.octets.now) before reads (omega arith) h

pub returns-clause-fits : goal.returns-clause-fits
returns-clause-fits c = λ before h.
    let high : c.loop-place.place ≤ c.args.end = c.loop-place.invariant.high in
    let same : c.loop-place.place ≡ c.args.end = omega (arith, c.loop-place-test.false) in
    subst (λ n. Fits c.loop-place.self (before ++ part c.args.at n (bits_of c.args.octets.now))) same
    (all_fit c.args.self.now c.loop-place.self c.args.at c.loop-place.place (bits_of c.args.octets.now) before c.loop-place.invariant.reads.fits h)

pub returns-clause-found : goal.returns-clause-found
returns-clause-found c = λ before h.
    none_first c.args.self.now c.loop-place.self c.args.at c.args.end c.loop-place.place (bits_of c.args.octets.now) before c.loop-place.invariant.reads
    (omega (arith, c.loop-place-test.false)) h

pub returns-clause-first : goal.returns-clause-first
returns-clause-first c = λ before n h less.
    none_first c.args.self.now c.loop-place.self c.args.at n c.loop-place.place (bits_of c.args.octets.now) before c.loop-place.invariant.reads
    (omega (arith, c.loop-place-test.false)) h
