use Rattle.std.proofs.Common.{◌≡◌, ◌∙◌, [], drop, sym}
use Rattle.std.proofs.lemmas.List.{append-nil, drop_all}
use Rattle.x25_bits.specs.Stuffing.{stuffed_from}
use Rattle.x25_bits.proofs.stuffing.put_stuffed.Goals as goal

pub returns-clause-ok : goal.returns-clause-ok
unfolding stuffed_from
returns-clause-ok c =
    let none : drop c.loop-octet.octet-index c.args.octets.now ≡ [] = drop_all _ _ c.loop-octet-test.false in
    sym (append-nil c.loop-octet.bits) ∙ (rw none at c.loop-octet.invariant.same)
