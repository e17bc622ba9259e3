use Rattle.std.proofs.{Common.{◌≡◌, ◌∙◌, cond, map, nat_le, replicate, sym}, lemmas.List.{map-id}, lemmas.Simd.{zip2_of_maps, splat_is_map}}
use Rattle.x25_text.proofs.LineLemmas.{leading_is}
use Rattle.x25_text.proofs.hexadecimal.leading.Goals as goal

pub returns : goal.returns
returns c =
    let v = c.args.values in
    let itself : v ≡ map (λ x. x) v = sym (map-id v) in
    let splat : replicate 16 16 ≡ map (λ _. 16) v = splat_is_map v 16 16 c.fits-values.0 in
    c.lowest_set.ensures ∙ leading_is v _ c.fits-values.0 (zip2_of_maps (λ a b. cond (nat_le a b) 255 0) _ _ v splat itself)
