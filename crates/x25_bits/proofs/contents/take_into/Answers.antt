use Rattle.std.proofs.Common.{◌≡◌, ◌<◌, ◌+◌, ◌-◌, ◌*◌, ◌++◌, ◌∙◌, get_or, length, take, refl, sym, subst, arith}
use Rattle.x25_bits.specs.FrameCheck.{bits_of, low_bits}
use Rattle.x25_bits.specs.Passing.{PassesOn, kept_from}
use Rattle.x25_bits.specs.code.Reading.{part}
use Rattle.x25_bits.proofs.PassingLemmas.{passes_none, passes_more, kept_none, kept_more, octet_more}
use Rattle.x25_bits.proofs.ReadingLemmas.{part_none}
use Rattle.x25_bits.proofs.contents.take_into.Goals as goal

pub loop-place-init : goal.loop-place-init
loop-place-init c =
    let none = sym (part_none (8 * c.args.at) (bits_of c.args.octets.now)) in
    let before = take c.args.size (bits_of c.args.memory.now) in
    record {
      low = omega arith;
      high = c.requires.at;
      few = omega arith;
      passes = subst (PassesOn c.args.scan.run c.args.scan.is_inserted c.args.scan.run c.args.scan.is_inserted) none
          (passes_none c.args.scan.run c.args.scan.is_inserted);
      kept = subst (λ l. before ≡ before ++ kept_from c.args.scan.run l) none (kept_none c.args.scan.run before);
      len = refl;
    }

pub write_octet-requires : goal.write_octet-requires
write_octet-requires c =
    let before = c.loop-place.invariant in
    let room : c.args.size + 8 * (c.args.end - c.args.at) < 8 * length c.args.memory.now = c.requires.room in
    omega (arith, before.low, before.few, before.len, c.loop-place-test.true)

pub loop-place-preserved : goal.loop-place-preserved
loop-place-preserved c =
    let before = c.loop-place.invariant in
    let passed = c.in-Some.passed in
    let there = c.in-Some.ensures in
    let at = c.args.at in
    let place = c.loop-place.place in
    let run = c.args.scan.run in
    let last = c.args.scan.is_inserted in
    let octets = c.args.octets.now in
    let inside : place < length octets = omega (arith, c.requires.end, c.loop-place-test.true) in
    let bits = part (8 * at) (8 * place) (bits_of octets) in
    let more = low_bits 8 (get_or octets place 0) in
    let longer = sym (octet_more at place octets before.low inside) in
    let start = take c.args.size (bits_of c.args.memory.now) in
    record {
      low = omega (arith, before.low);
      high = omega (arith, c.loop-place-test.true);
      few = omega (arith, before.low, before.few, there.few);
      passes = subst (PassesOn passed.run passed.is_inserted run last) longer
          (passes_more c.loop-place.run c.loop-place.is_inserted run last bits more passed before.passes (there.passes c.loop-place.is_inserted));
      kept = subst (λ l. take (c.loop-place.count + passed.count) (bits_of c.write_octet.new.octets) ≡ start ++ kept_from run l) longer
          (kept_more c.loop-place.run c.loop-place.is_inserted run last bits more start _ _ passed before.passes (there.passes c.loop-place.is_inserted)
          before.kept
          (c.write_octet.ensures.bits passed.count there.few));
      len = c.write_octet.ensures.len ∙ before.len;
    }
