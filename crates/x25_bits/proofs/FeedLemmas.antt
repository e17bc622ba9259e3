-- Feeding bit by bit.
use Rattle.std.proofs.Common.{ℕ, ◌+◌, ◌<◌, ◌≡◌, ◌∙◌, Bool, false, List, [], ◌∷◌, ◌++◌, length, take, drop, refl, ap, sym, append_assoc, get_or}
use Rattle.std.proofs.lemmas.List.{append-nil, take_more}
use Rattle.std.proofs.Math.Seq.{drop-append_seam}
use Rattle.x25_bits.specs.Found.{found_of}
use Rattle.x25_bits.specs.code.Held.{Seen, seen_next, seen_found, seen_from, found_from, seen_of}
use Rattle.x25_bits.proofs.FoundLemmas.{found_more, seen-append}

pub seen_more : (v : Seen) (place : ℕ) (bits : List Bool) (b : Bool) → place < length bits → b ≡ get_or bits place false
    → seen_from v (take (place + 1) bits) ≡ seen_next (seen_from v (take place bits)) b
unfolding seen_from
seen_more v place bits b h e = rw e (ap (seen_from v) (take_more bits place false h) ∙ seen-append v (take place bits) (get_or bits place false ∷ []))

pub found-append : (v : Seen) (a b : List Bool) → found_from v (a ++ b) ≡ found_from v a ++ found_from (seen_from v a) b
unfolding found_from seen_from
found-append v [] b = refl
found-append v (x ∷ a) b = ap (λ l. seen_found v x ++ l) (found-append (seen_next v x) a b)
    ∙ sym (append_assoc (seen_found v x) (found_from (seen_next v x) a) (found_from (seen_from (seen_next v x) a) b))

pub found_later : (v : Seen) (place : ℕ) (bits : List Bool) (b : Bool) → place < length bits → b ≡ get_or bits place false
    → found_from v (take (place + 1) bits) ≡ found_from v (take place bits) ++ seen_found (seen_from v (take place bits)) b
unfolding found_from
found_later v place bits b h e =
    rw e (ap (found_from v) (take_more bits place false h) ∙ found-append v (take place bits) (get_or bits place false ∷ [])
    ∙ ap (λ l. found_from v (take place bits) ++ l) (append-nil (seen_found (seen_from v (take place bits)) (get_or bits place false))))

-- by whole lists of bits
pub seen_all : (before bits : List Bool) → seen_from (seen_of before) bits ≡ seen_of (before ++ bits)
unfolding seen_from
seen_all before bits = sym (seen-append (seen_of []) before bits)

pub found_all : (before bits : List Bool) → found_from (seen_of before) bits ≡ drop (length (found_of before)) (found_of (before ++ bits))
found_all before bits = sym (ap (drop (length (found_of before))) (found_more before bits)
    ∙ drop-append_seam (found_of before) (found_from (seen_of before) bits))
