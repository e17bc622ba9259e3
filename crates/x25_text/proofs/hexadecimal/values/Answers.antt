use Rattle.std.proofs.{Common.{◌≡◌, ◌∙◌, ℕ, map, refl, replicate, sym}, lemmas.List.{map-id}, lemmas.Simd.{zip2_of_maps, splat_is_map}}
use Rattle.x25_text.{proofs.LaneLemmas.{fits_each, same_map, sel_of_maps, tops_of_map}, specs.Hexadecimal.{value_of}}
use Rattle.x25_text.proofs.hexadecimal.values.Goals as goal

pub returns : goal.returns
returns c =
    let v = c.args.characters in
    let itself : v ≡ map (λ x. x) v = sym (map-id v) in
    let splat : (n : ℕ) → replicate 16 n ≡ map (λ _. n) v = λ n. splat_is_map v 16 n c.fits-characters.0 in
    sel_of_maps _ _ _ v (tops_of_map _ v (zip2_of_maps _ _ _ v (zip2_of_maps _ _ _ v itself (splat 48)) (splat 10))) (zip2_of_maps _ _ _ v itself (splat 48))
    (sel_of_maps _ _ _ v (tops_of_map _ v (zip2_of_maps _ _ _ v (zip2_of_maps _ _ _ v (zip2_of_maps _ _ _ v itself (splat 32)) (splat 97)) (splat 6)))
    (zip2_of_maps _ _ _ v (zip2_of_maps _ _ _ v (zip2_of_maps _ _ _ v itself (splat 32)) (splat 97)) (splat 10)) (splat 255))
    ∙ same_map _ value_of v refl (fits_each v c.fits-characters.1)
