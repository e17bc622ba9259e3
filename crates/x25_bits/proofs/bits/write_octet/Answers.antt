use Rattle.std.proofs.Common.{◌≡◌, ◌∙◌, ◌+◌, ◌*◌, ◌/◌, ◌%◌, arith}
use Rattle.x25_bits.proofs.OctetLemmas.{place_octet}
use Rattle.x25_bits.proofs.bits.write_octet.Goals as goal

pub returns-clause-bits : goal.returns-clause-bits
returns-clause-bits c =
    let both = c.behind-both.result in
    let whole : both % 256 + both / 256 * 256 ≡ both = omega arith in
    place_octet c.args.place c.args.octet (both % 256) (both / 256) c.args.octets.now c.requires (omega arith) (whole ∙ c.behind-both.ensures)
