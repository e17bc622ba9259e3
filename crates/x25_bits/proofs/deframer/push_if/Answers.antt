use Rattle.std.proofs.Common.{◌≡◌, arith, ap, length, take, true}
use Rattle.std.proofs.lemmas.List.{length-take}
use Rattle.x25_bits.proofs.KeptLemmas.{kept_more, kept_full}
use Rattle.x25_bits.proofs.deframer.push_if.Goals as goal

pub returns-then-len-eq-HELD-clause-fits : goal.returns-then-len-eq-HELD-clause-fits
returns-then-len-eq-HELD-clause-fits c = λ all e.
    let kept : c.args.is_kept ≡ true = c.if-not-is_kept.false in
    rw kept (kept_full 32831 c.args.kept.now all c.args.bit e (omega arith))

pub returns-clause-fits : goal.returns-clause-fits
returns-clause-fits c = λ all e.
    let kept : c.args.is_kept ≡ true = c.if-not-is_kept.false in
    let size : length c.args.kept.now ≡ length (take 32831 all) = ap length e in
    let most = length-take 32831 all in
    rw kept (kept_more 32831 c.args.kept.now c.push.new.self all c.args.bit e (omega arith) c.push.ensures)
