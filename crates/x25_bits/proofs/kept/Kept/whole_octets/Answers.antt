use Rattle.std.proofs.Common.{◌∙◌, ◌/◌, ap, take}
use Rattle.x25_bits.specs.FrameCheck.{bits_of}
use Rattle.x25_bits.specs.Found.{octets_by}
use Rattle.x25_bits.proofs.KeepingLemmas.{count_of}
use Rattle.x25_bits.proofs.kept.Kept.whole_octets.Goals as goal

pub returns : goal.returns
returns c =
    let size = count_of c.self.inside.count c.self.inside.octets.items c.args.self.now c.self.invariant.0 c.self.invariant.1 c.self.view_is in
    c.whole_octets.ensures
    ∙ ap (λ octets. octets_by (c.self.inside.count / 8) (take c.self.inside.count (bits_of octets))) c.as_slice.ensures.value
    ∙ ap (octets_by (c.self.inside.count / 8)) c.self.view_is
    ∙ ap (λ n. octets_by (n / 8) c.args.self.now) size
