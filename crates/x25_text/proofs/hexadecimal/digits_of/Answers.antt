use Rattle.std.proofs.{Common.{ℕ, ◌≡◌, map, refl, replicate, sym}, lemmas.List.{map-id}, lemmas.Simd.{zip2_of_maps, splat_is_map}}
use Rattle.x25_text.proofs.{LaneLemmas.{fits_each}, ShownLemmas.{in_turn, octets_shown}}
use Rattle.x25_text.proofs.hexadecimal.digits_of.Goals as goal

pub returns : goal.returns
unfolding in_turn
returns c =
    let v = c.args.octets in
    let itself : v ≡ map (λ x. x) v = sym (map-id v) in
    let splat : (n : ℕ) → replicate 8 n ≡ map (λ _. n) v = λ n. splat_is_map v 8 n c.fits-octets.0 in
    octets_shown _ _ 8 v _ _ c.fits-octets.0 (fits_each v c.fits-octets.1) refl refl (zip2_of_maps _ _ _ v itself (splat 4))
    (zip2_of_maps _ _ _ v itself (splat 15))
