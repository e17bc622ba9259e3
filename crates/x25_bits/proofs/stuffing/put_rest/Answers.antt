use Rattle.x25_bits.proofs.StuffingTable.{none_more}
use Rattle.x25_bits.proofs.stuffing.put_rest.Goals as goal

pub returns-then-count-eq0-clause-ok : goal.returns-then-count-eq0-clause-ok
returns-then-count-eq0-clause-ok c = none_more c.args.bits.now c.args.count c.args.octet c.if-count-eq0.true
