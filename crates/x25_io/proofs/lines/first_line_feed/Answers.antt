use Rattle.memchr.specs.Find.{is_byte}
use Rattle.std.{proofs.Common.{◌∙◌, ap, arith, cond, nat_eq, w8}, proofs.lemmas.Simd.{bitmask_splat, first_set_mask_l}, specs.Int.{trailing_zeros, w64}}
use Rattle.x25_io.proofs.lines.first_line_feed.Goals as goal

pub returns : goal.returns
returns c =
    let v = c.args.octets in
    c.lowest_set.ensures ∙ ap (λ m. cond (nat_eq m 0) 16 (trailing_zeros w64 m)) (bitmask_splat w8 nat_eq v 16 10 c.fits-octets.0 (omega arith))
    ∙ first_set_mask_l (is_byte 10) v 16 c.fits-octets.0 (omega arith)
