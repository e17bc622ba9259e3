use Rattle.std.proofs.Common.{◌+◌, ◌*◌, arith}
use Rattle.x25_bits.proofs.StuffingTable.{stuffeds, stuffed_at, octet_few, octet_stuffs, in_two}
use Rattle.x25_bits.proofs.stuffing.put_octet.Goals as goal

pub returns-clause-few : goal.returns-clause-few
unfolding stuffeds
returns-clause-few c = octet_few c.args.run c.args.octet c.requires (omega arith)

pub returns-clause-stuffs : goal.returns-clause-stuffs
unfolding stuffeds
returns-clause-stuffs c = λ rest.
    octet_stuffs c.args.run c.args.octet c.args.bits.now c.put_rest.new.bits rest c.requires (omega arith)
    (in_two c.args.bits.now c.put_low.new.bits c.put_rest.new.bits (stuffed_at (c.args.run * 256 + c.args.octet)) c.in_ok-put_low.ensures.ok
    c.in_ok-put_rest.ensures.ok)
