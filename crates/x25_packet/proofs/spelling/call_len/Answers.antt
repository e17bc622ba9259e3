use Rattle.std.proofs.Common.{◌≡◌, ◌∙◌, ap, ◌+◌, ◌/◌, length, ℕ}
use Rattle.x25_packet.proofs.AddressLaws.{length-call}
use Rattle.x25_packet.proofs.spelling.call_len.Goals as goal

pub returns-clause-value : goal.returns-clause-value
returns-clause-value c = at c.len.result c.len-2.result c.len.ensures.number c.len-2.ensures.number
    ∙ length-call c.args.called.now c.args.calling.now c.args.facilities.now c.args.user.now
  where
    at : (n m : ℕ) → n ≡ length c.args.called.now → m ≡ length c.args.calling.now
        → 2 + (n + m + 1) / 2 + length c.args.facilities.now + length c.args.user.now ≡ 2 + (length c.args.called.now + length c.args.calling.now + 1) / 2
        + length c.args.facilities.now + length c.args.user.now
    at n m h k = ap (λ x. 2 + (x + m + 1) / 2 + length c.args.facilities.now + length c.args.user.now) h
        ∙ ap (λ x. 2 + (length c.args.called.now + x + 1) / 2 + length c.args.facilities.now + length c.args.user.now) k
