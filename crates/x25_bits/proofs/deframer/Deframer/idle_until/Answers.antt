use Rattle.std.proofs.Common.{◌*◌, arith}
use Rattle.x25_bits.specs.FrameCheck.{bits_of}
use Rattle.x25_bits.proofs.IdleLemmas.{none_more_seen, none_more_found, one_more_seen, one_more_found}
use Rattle.x25_bits.proofs.deframer.Deframer.idle_until.Goals as goal

pub returns-in_default-clause-seen : goal.returns-in_default-clause-seen
returns-in_default-clause-seen c = none_more_seen c.args.self.now (8 * c.args.at) (bits_of c.args.octets.now)

pub returns-in_default-clause-found : goal.returns-in_default-clause-found
returns-in_default-clause-found c = none_more_found c.args.self.now (8 * c.args.at) (bits_of c.args.octets.now)

pub loop-place-init : goal.loop-place-init
loop-place-init c = record {
  low = omega arith;
  high = c.requires.at;
  seen = none_more_seen c.args.self.now (8 * c.args.at) (bits_of c.args.octets.now);
  found = none_more_found c.args.self.now (8 * c.args.at) (bits_of c.args.octets.now);
}

pub loop-place-preserved : goal.loop-place-preserved
loop-place-preserved c =
    let before = c.loop-place.invariant in
    record {
      low = omega (arith, before.low);
      high = omega (arith, c.loop-place-test.true);
      seen = one_more_seen c.args.self.now c.args.at c.loop-place.place c.in-Some.octet c.args.octets.now before.low (omega arith) c.if-octets-place.false
          c.in-Some.ensures.seen before.seen;
      found = one_more_found c.args.self.now c.args.at c.loop-place.place c.in-Some.octet c.args.octets.now before.low (omega arith) c.if-octets-place.false
          c.in-Some.ensures.found before.seen before.found;
    }
