use Rattle.std.proofs.Common.{◌∙◌, ◌-◌, length, drop, arith}
use Rattle.byteorder.specs.Numbers.{little_from-take}
use Rattle.x25_bits.proofs.BlockLemmas.{fed_next_block}
use Rattle.x25_bits.proofs.frame_check.with_block.Goals as goal

pub returns : goal.returns
returns c =
    let octets = c.args.octets.now in
    fed_next_block c.args.held.first c.args.held.second c.args.held.third c.args.held.fourth _ _ _ _ _ _ _ _ octets c.requires
    (λ i. omega (arith, c.type_inv.octets i)) c.folded_block-next.ensures
    c.read_u64-first.ensures
    (c.read_u64-second.ensures ∙ little_from-take 0 8 (length octets - 8) (drop 8 octets) (omega (arith, c.requires)))
    (c.read_u64-third.ensures ∙ little_from-take 0 8 (length octets - 16) (drop 16 octets) (omega (arith, c.requires)))
    (c.read_u64-fourth.ensures ∙ little_from-take 0 8 (length octets - 24) (drop 24 octets) (omega (arith, c.requires)))
