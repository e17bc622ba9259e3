use Rattle.x25_bits.specs.FrameCheck.{bits_of}
use Rattle.x25_bits.proofs.IdleLemmas.{none_more_seen, none_more_found}
use Rattle.x25_bits.proofs.deframer.Deframer.idle_bits_until.Goals as goal

pub returns-then-at-ne0-clause-seen : goal.returns-then-at-ne0-clause-seen
returns-then-at-ne0-clause-seen c = none_more_seen c.args.self.now c.args.at (bits_of c.args.octets.now)

pub returns-then-at-ne0-clause-found : goal.returns-then-at-ne0-clause-found
returns-then-at-ne0-clause-found c = none_more_found c.args.self.now c.args.at (bits_of c.args.octets.now)
