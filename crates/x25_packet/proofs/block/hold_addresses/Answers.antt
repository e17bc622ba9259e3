use Rattle.std.proofs.Common.{◌≡◌, ◌%◌, ◌/◌, ◌∙◌, Bool, arith, ap, false, get_or, nat_eq, rules, sym, true}
use Rattle.x25_packet.specs.Block.{hold_addresses}
use Rattle.x25_packet.proofs.DigitLemmas.{filler_is}
use Rattle.x25_packet.proofs.block.hold_addresses.Goals as goal

pub returns : goal.returns
returns c = at c.args.a c.if-not-a.false
  where
    last : c.unwrap_or.result ≡ get_or c.args.octets.now (c.args.count / 2) 0
    last = search rules

    at : (a : Bool) → a ≡ true → nat_eq (c.unwrap_or.result % 16) 0 ≡ hold_addresses a c.args.count c.args.octets.now
    at true is = ap (λ n. nat_eq (n % 16) 0) last ∙ sym (filler_is c.args.count c.args.octets.now (omega (arith, c.requires)))
    at false is = absurd (cc)
