use Rattle.std.proofs.Common.{◌≤◌, ◌≡◌, ◌+◌, ◌∙◌, arith, ap, length, length-append}
use Rattle.x25_bits.specs.FrameCheck.{low_bits}
use Rattle.x25_bits.proofs.FcsLemmas.{length-low_bits}
use Rattle.x25_bits.proofs.deframer.Deframer.keep_passed.Goals as goal

pub invariant_of-self : goal.invariant_of-self
invariant_of-self c =
    let kept = c.args.self.now.kept in
    let more = low_bits c.args.passed.count c.args.passed.kept in
    let count : length more ≡ c.args.passed.count = length-low_bits c.args.passed.count c.args.passed.kept in
    let size : length c.append.new.self ≡ length kept + length more = ap length c.append.ensures ∙ length-append kept more in
    let few : length c.append.new.self ≤ 32831 = omega (arith, c.requires.room, c.requires.size) in
    record { few = few }
