use Rattle.x25_bits.proofs.IdleLemmas.{ones_seen, ones_found, idles_seen, idles_found}
use Rattle.x25_bits.proofs.deframer.Deframer.idle_octet.Goals as goal

pub returns-then-self-eq7-clause-seen : goal.returns-then-self-eq7-clause-seen
returns-then-self-eq7-clause-seen c = ones_seen c.args.self.now c.if-self-eq7.true

pub returns-then-self-eq7-clause-found : goal.returns-then-self-eq7-clause-found
returns-then-self-eq7-clause-found c = ones_found c.args.self.now c.if-self-eq7.true

pub returns-clause-seen : goal.returns-clause-seen
returns-clause-seen c = let h = c.in-Some.ensures in idles_seen c.args.self.now c.in-Some.count h.few h.opened h.going h.plain h.run h.kept

pub returns-clause-found : goal.returns-clause-found
returns-clause-found c = let h = c.in-Some.ensures in idles_found c.args.self.now c.in-Some.count h.few h.opened h.going h.plain h.run h.kept
