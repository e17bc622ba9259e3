use Rattle.std.proofs.Common.{rules, ◌*◌, ◌<◌, length, refl, arith}
use Rattle.x25_bits.proofs.SkippingLemmas.{seven_skips, seven_nothing}
use Rattle.x25_bits.proofs.deframer.Deframer.seven_at.Goals as goal

pub returns : goal.returns
returns c =
    let inside : c.args.place < 8 * length c.args.octets.now = omega (arith, c.requires.place, c.requires.end) in
    record {
      skips = λ v f. seven_skips c.args.self.now c.args.place c.args.octets.now _ (omega arith) (omega (inside, arith)) c.if-ones-ne-SEVEN.false
          c.requires.opened (omega arith) c.requires.going (refl, refl, refl) v f;
      none = λ v f. seven_nothing c.args.self.now c.args.place c.args.octets.now (omega arith) (omega (inside, arith)) c.if-ones-ne-SEVEN.false
          c.requires.opened (omega arith) c.requires.going v f;
      low = search rules;
      high = search rules;
    }
