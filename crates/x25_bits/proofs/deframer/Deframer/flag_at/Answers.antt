use Rattle.std.proofs.Common.{rules, ◌*◌, ◌<◌, length, refl, arith}
use Rattle.x25_bits.proofs.SkippingLemmas.{flag_skips, flag_nothing}
use Rattle.x25_bits.proofs.deframer.Deframer.flag_at.Goals as goal

pub returns : goal.returns
returns c =
    let inside : c.args.place < 8 * length c.args.octets.now = omega (arith, c.requires.place, c.requires.end) in
    record {
      skips = λ v f. flag_skips c.args.self.now c.args.place c.args.octets.now _ (omega arith) (omega (inside, arith)) c.if-octet-ne-FLAG.false
          c.requires.opened (omega arith) c.requires.aborted (refl, refl, refl) v f;
      none = λ v f. flag_nothing c.args.self.now c.args.place c.args.octets.now (omega arith) (omega (inside, arith)) c.if-octet-ne-FLAG.false
          c.requires.opened (omega arith) c.requires.aborted v f;
      low = search rules;
      high = search rules;
    }
