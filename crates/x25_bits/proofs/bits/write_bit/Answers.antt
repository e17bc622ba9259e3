use Rattle.std.proofs.Common.{◌≡◌, ◌++◌, ◌∷◌, [], arith, rules}
use Rattle.x25_bits.proofs.OctetLemmas.{place_pushed, one_bit}
use Rattle.x25_bits.proofs.bits.write_bit.Goals as goal

pub returns-then-at-len-clause-ok : goal.returns-then-at-len-clause-ok
returns-then-at-len-clause-ok c =
    let after : c.push.new.self.items ≡ c.args.octets.now.items ++ c.from.result ∷ [] = search rules in
    place_pushed c.args.place c.from.result c.args.bit c.args.octets.now.items c.push.new.self.items (omega arith)
    (one_bit c.args.bit c.from.result c.from.ensures) after
