use Rattle.std.proofs.{Common.{ℕ, ◌≡◌, ◌∙◌, ap, map, nat_le, refl, replicate, sym}, lemmas.List.{map-id}, lemmas.Simd.{zip2_of_maps, splat_is_map}}
use Rattle.std.specs.List.{list_all}
use Rattle.x25_text.proofs.{LaneLemmas.{fits_each, sel_of_maps, tops_of_map}, TestedLemmas.{marks_tested}}
use Rattle.x25_text.proofs.hexadecimal.marks.Goals as goal

pub returns : goal.returns
returns c =
    let v = c.args.characters in
    let itself : v ≡ map (λ x. x) v = sym (map-id v) in
    let splat : (n : ℕ) → replicate 16 n ≡ map (λ _. n) v = λ n. splat_is_map v 16 n c.fits-characters.0 in
    let figures = zip2_of_maps _ _ _ v itself (splat 198) in
    let upper = zip2_of_maps _ _ _ v (zip2_of_maps _ _ _ v itself (splat 223)) (splat 185) in
    let letters = zip2_of_maps _ _ _ v (sel_of_maps _ _ _ v (tops_of_map _ v (zip2_of_maps _ _ _ v upper (splat 4))) (splat 4) upper) (splat 4) in
    ap (list_all (nat_le 246)) (sel_of_maps _ _ _ v (tops_of_map _ v (zip2_of_maps _ _ _ v figures letters)) letters figures)
    ∙ marks_tested _ v refl (fits_each v c.fits-characters.1)
