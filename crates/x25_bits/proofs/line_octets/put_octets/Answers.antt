use Rattle.std.proofs.Common.{◌≡◌, arith, rules}
use Rattle.x25_bits.specs.Stuffing.{framed, filled}
use Rattle.x25_bits.specs.Found.{octets_of}
use Rattle.x25_bits.specs.FrameCheck.{bits_of}
use Rattle.x25_bits.proofs.LineLemmas.{line_is, line_found}
use Rattle.x25_bits.proofs.line_octets.put_octets.Goals as goal

pub returns-clause-ok : goal.returns-clause-ok
returns-clause-ok c =
    let part : c.whole_octets-whole.result.now ≡ octets_of (filled (framed c.args.octets.now)) = search rules in
    line_is c.args.line.now.items c.whole_octets-whole.result.now c.append_octets.new.octets.items (framed c.args.octets.now) part (search rules)

pub returns-clause-found : goal.returns-clause-found
returns-clause-found c = λ low high.
    let part : c.whole_octets-whole.result.now ≡ octets_of (filled (framed c.args.octets.now)) = search rules in
    line_found (bits_of c.args.line.now.items) (bits_of c.append_octets.new.octets.items) c.args.octets.now (λ k. omega (arith, c.type_inv.octets k)) low high
    (line_is c.args.line.now.items c.whole_octets-whole.result.now c.append_octets.new.octets.items (framed c.args.octets.now) part (search rules))
