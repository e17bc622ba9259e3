use Rattle.std.{proofs.Common.{◌∙◌, ◌^◌, ◌-◌, ap, arith, map, nat_eq, nat_lt, sym, w8}, proofs.lemmas.Simd.{bitmask_splat}, specs.Simd.Lanes.{mask_l}}
use Rattle.x25_text.proofs.LaneLemmas.{mask_full}
use Rattle.x25_text.proofs.hexadecimal.are_below_ten.Goals as goal

pub returns : goal.returns
returns c =
    let v = c.args.values in
    ap (λ m. nat_eq m 65535) (bitmask_splat w8 nat_lt v 16 10 c.fits-values.0 (omega arith))
    ∙ ap (λ n. nat_eq (mask_l (map (λ x. nat_lt x 10) v)) (2 ^ n - 1)) (sym c.fits-values.0)
    ∙ mask_full (λ x. nat_lt x 10) v
