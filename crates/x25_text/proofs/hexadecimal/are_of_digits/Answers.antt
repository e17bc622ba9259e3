use Rattle.std.proofs.{Common.{◌≡◌, ◌∙◌, ap, map, nat_lt, replicate, sym}, lemmas.List.{map-id}, lemmas.Simd.{splat_is_map, zip2_of_maps}}
use Rattle.std.specs.List.{list_all}
use Rattle.x25_text.proofs.{LaneLemmas.{fits_each}, TestedLemmas.{turned_tested}}
use Rattle.x25_text.proofs.hexadecimal.are_of_digits.Goals as goal

pub returns : goal.returns
returns c =
    let v = c.args.marks in
    let itself : v ≡ map (λ x. x) v = sym (map-id v) in
    let splat : replicate 16 10 ≡ map (λ _. 10) v = splat_is_map v 16 10 c.fits-marks.0 in
    c.are_below_ten.ensures ∙ ap (list_all (λ x. nat_lt x 10)) (zip2_of_maps _ _ _ v itself splat) ∙ turned_tested v (fits_each v c.fits-marks.1)
