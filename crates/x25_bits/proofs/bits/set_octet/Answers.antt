use Rattle.std.proofs.Common.{◌∙◌, ◌+◌, ◌++◌, ap, length, take, sym}
use Rattle.x25_bits.specs.FrameCheck.{bits_of, low_bits}
use Rattle.x25_bits.proofs.OctetLemmas.{slice_written}
use Rattle.x25_bits.proofs.bits.set_octet.Goals as goal

pub returns-clause-bits : goal.returns-clause-bits
returns-clause-bits c = λ count h.
    let lent = c.as_mut_slice.ensures in
    let written = c.write_octet.ensures in
    let same = slice_written _ c.write_octet.new.octets _ (sym lent.len ∙ ap length lent.value) (written.len ∙ ap length lent.value) in
    ap (λ o. take (c.args.place + count) (bits_of o)) same ∙ written.bits count h
    ∙ ap (λ o. take c.args.place (bits_of o) ++ low_bits count c.args.octet) lent.value

pub returns-clause-len : goal.returns-clause-len
returns-clause-len c =
    let lent = c.as_mut_slice.ensures in
    let written = c.write_octet.ensures in
    ap length (slice_written _ c.write_octet.new.octets _ (sym lent.len ∙ ap length lent.value) (written.len ∙ ap length lent.value)) ∙ written.len
    ∙ ap length lent.value
