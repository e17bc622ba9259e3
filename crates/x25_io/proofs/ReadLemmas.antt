-- From the pieces that are read to the whole text.
use Rattle.std.proofs.Common.{◌≡◌, ◌∙◌, ◌+◌, ◌≤◌, ℕ, List, [], ◌++◌, length, take, Option, Some, None, ap, sym, subst, refl, arith}
use Rattle.std.{proofs.lemmas.List.{length-append, length-take-le}, proofs.lemmas.Option.{same_Some}, specs.Io.KnownBytes.{Consumes, IsAtEnd, Keeps}}

-- what is left behind the octets read
pub consumed : (a b : Option (List ℕ)) (rest octets : List ℕ) → a ≡ Some rest → Consumes a b octets
    → (more : List ℕ) × (b ≡ Some more) × (rest ≡ octets ++ more)
consumed None b rest octets e h = let bad : None ≡ Some rest = e in cc bad
consumed (Some xs) None rest octets e h = absurd h
consumed (Some xs) (Some ys) rest octets e h = (ys, refl, sym (same_Some xs rest e) ∙ h)

-- a failed read keeps what is left
pub kept : (a b : Option (List ℕ)) (rest : List ℕ) → a ≡ Some rest → Keeps a b → b ≡ Some rest
kept None b rest e h = let bad : None ≡ Some rest = e in cc bad
kept (Some xs) None rest e h = absurd h
kept (Some xs) (Some ys) rest e h = ap (λ o. Some o) h ∙ e

pub at_end : (a b : Option (List ℕ)) (rest octets : List ℕ) (count : ℕ) → a ≡ Some rest → Consumes a b (take count octets) → count ≡ 0 → IsAtEnd b → rest ≡ []
at_end a b rest octets count e h none end =
    let left = consumed a b rest (take count octets) e h in left.2 ∙ ap (λ n. take n octets ++ left.0) none ∙ subst IsAtEnd left.1 end

-- a read gives an octet at least
pub fewer : (counter count : ℕ) (rest buffer more input : List ℕ) → rest ≡ take count buffer ++ more → count ≤ length buffer → (count ≡ 0 → ⊥)
    → counter + length rest ≤ length input → counter + 1 + length more ≤ length input
fewer counter count rest buffer more input split fits some before =
    let size : length rest ≡ length (take count buffer) + length more = ap length split ∙ length-append (take count buffer) more in
    omega (arith, size, length-take-le count buffer fits, some, before)
