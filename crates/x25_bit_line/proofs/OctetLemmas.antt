-- Bits and the octet that they write.
use Rattle.x25_bit_line.proofs.Names.{◌≡◌, ◌∙◌, ◌+◌, ◌-◌, ◌*◌, ◌<◌, ◌≤◌, ℕ, suc, Bool, true, false, List, [], ◌∷◌, ◌++◌, length, take, drop, ap, sym, subst}
use Rattle.x25_bit_line.proofs.Names.{refl, arith, length-drop, length-take-le, number_of}
use Rattle.std.proofs.{Common.{◌^◌, get_or}, Math.Seq.{drop-cons}, lemmas.List.{drop_all, get_or-drop, get_or-take, take_more}}
use Rattle.std.specs.{Int.{from_bool}, Prelude.{slice_index_or}}

pub no_octet : (place : ℕ) (bits : List Bool) → place + 8 ≤ length bits → 0 ≡ number_of (drop 8 (take 8 (drop place bits)))
unfolding number_of
no_octet place bits h =
    let size = length-drop place bits in
    let eight = length-take-le 8 (drop place bits) (omega (arith, size)) in
    ap number_of (sym (drop_all 8 (take 8 (drop place bits)) (omega (arith, eight))))

number_more : (b : Bool) (rest : List Bool) → number_of (b ∷ rest) ≡ from_bool b + 2 * number_of rest
unfolding number_of
number_more true rest = refl
number_more false rest = refl

small_bit : (b : Bool) → from_bool b ≤ 1
small_bit true = omega arith
small_bit false = omega arith

-- one bit more, the lowest
pub octet_more : (place behind octet next : ℕ) (b : Bool) (bits : List Bool) → place + 8 ≤ length bits → behind < 8
    → octet ≡ number_of (drop (8 - behind) (take 8 (drop place bits))) → octet < 2 ^ behind → b ≡ slice_index_or bits (place + (7 - behind)) false → next
    ≡ 2 * octet + from_bool b
    → (next ≡ number_of (drop (8 - (behind + 1)) (take 8 (drop place bits)))) × (next < 2 ^ (behind + 1))
octet_more place behind octet next b bits h few e small bit sum =
    let size = length-drop place bits in
    let eight = take 8 (drop place bits) in
    let all : length eight ≡ 8 = length-take-le 8 (drop place bits) (omega (arith, size)) in
    let at : 8 - (behind + 1) ≡ 7 - behind = omega arith in
    let after : suc (7 - behind) ≡ 8 - behind = omega arith in
    let read : get_or eight (7 - behind) false ≡ b = get_or-take 8 (drop place bits) (7 - behind) false (omega arith)
    ∙ get_or-drop place bits (7 - behind) false ∙ sym bit in
    let split : drop (8 - (behind + 1)) eight ≡ b ∷ drop (8 - behind) eight =
    ap (λ n. drop n eight) at ∙ drop-cons eight (7 - behind) false (omega (arith, all)) ∙ ap (λ x. x ∷ drop (suc (7 - behind)) eight) read
    ∙ ap (λ n. b ∷ drop n eight) after in
    let one = small_bit b in
    let power : behind + 1 ≡ suc behind = omega arith in (
      sym (ap number_of split ∙ number_more b (drop (8 - behind) eight) ∙ ap (λ n. from_bool b + 2 * n) (sym e) ∙ swapped (from_bool b) octet ∙ sym sum),
      subst (λ n. next < 2 ^ n) (sym power) (omega (arith, one, sum, small)),
    )
  where
    swapped : (x o : ℕ) → x + 2 * o ≡ 2 * o + x
    swapped x o = omega arith

pub bit_more : (place at : ℕ) (b : Bool) (bits rest next : List Bool) → place ≤ at → at < length bits → rest ≡ take (at - place) (drop place bits) → b
    ≡ slice_index_or bits at false
    → next ≡ rest ++ b ∷ [] → next ≡ take (at + 1 - place) (drop place bits)
bit_more place at b bits rest next low high e bit more =
    let size = length-drop place bits in
    let there : place + (at - place) ≡ at = omega arith in
    let one : at + 1 - place ≡ (at - place) + 1 = omega arith in
    let read : get_or (drop place bits) (at - place) false ≡ b = get_or-drop place bits (at - place) false ∙ ap (λ n. get_or bits n false) there ∙ sym bit in
    more ∙ ap (λ l. l ++ b ∷ []) e
    ∙ ap (λ x. take (at - place) (drop place bits) ++ x ∷ []) (sym read)
    ∙ sym (ap (λ n. take n (drop place bits)) one ∙ take_more (drop place bits) (at - place) false (omega (arith, size)))
