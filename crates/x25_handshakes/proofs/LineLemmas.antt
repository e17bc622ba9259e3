-- One more packet at the back of a line.
use Rattle.x25_handshakes.proofs.Names.{◌≡◌, ℕ, ◌+◌, ◌%◌, ◌<◌, ◌≤◌, List, [], ◌∷◌, ◌++◌, length, Option, Some, None, refl, sym, ap, subst, ◌∙◌, arith}
use Rattle.x25_handshakes.proofs.{Names.{append_assoc, length-append, append-nil, resolved, Packet, Bool}, StretchRelation.{confs, readied, all_readied}}
use Rattle.x25_handshakes.proofs.StretchRelation.{Numbering, numbering, ack_in, int_in, conf_in, piece_of, pieces, number_at, Numbered, hears, heard, ints}

-- the number stands for itself
pub resolved_is : (a n : ℕ) → a ≤ n → n < a + 8 → resolved a (n % 8) ≡ n
resolved_is a n low high = omega arith

pub hears_least : (a : ℕ) (r : Option ℕ) → a ≤ hears a r
hears_least a None = omega arith
hears_least a (Some r) = omega arith

-- what a line acknowledges is never less than what is acknowledged
pub heard_least : (a : ℕ) (v : List Packet) → a ≤ heard a v
heard_least a [] = omega arith
heard_least a (p ∷ v) = omega (arith, hears_least a (ack_in p), heard_least (hears a (ack_in p)) v)

-- one more packet at the back is heard last
pub heard_push : (a : ℕ) (v : List Packet) (p : Packet) → heard a (v ++ p ∷ []) ≡ hears (heard a v) (ack_in p)
heard_push a [] p = refl
heard_push a (q ∷ v) p = heard_push (hears a (ack_in q)) v p

-- whether the other end is ready, too
pub readied_push : (b : Bool) (v : List Packet) (p : Packet) → all_readied b (v ++ p ∷ []) ≡ readied (all_readied b v) p
readied_push b [] p = refl
readied_push b (q ∷ v) p = readied_push (readied b q) v p

pub pieces_push : (u : List Packet) (p : Packet) → pieces (u ++ p ∷ []) ≡ pieces u ++ piece_of (numbering p)
pieces_push [] p = append-nil (piece_of (numbering p))
pieces_push (q ∷ u) p = ap (λ l. piece_of (numbering q) ++ l) (pieces_push u p)
    ∙ sym (append_assoc (piece_of (numbering q)) (pieces u) (piece_of (numbering p)))

pub ints_push : (u : List Packet) (p : Packet) → ints (u ++ p ∷ []) ≡ ints u ++ int_in p
ints_push [] p = append-nil (int_in p)
ints_push (q ∷ u) p = ap (λ l. int_in q ++ l) (ints_push u p) ∙ sym (append_assoc (int_in q) (ints u) (int_in p))

pub confs_push : (u : List Packet) (p : Packet) → confs (u ++ p ∷ []) ≡ confs u + conf_in p
confs_push [] p = omega arith
confs_push (q ∷ u) p = omega (arith, confs_push u p)

number_map : (n : ℕ) (c : Option Numbering) (P Q : ℕ → Type 0) → ((m : ℕ) → m ≡ n + length (piece_of c) → P m → Q m) → number_at n c P → number_at n c Q
number_map n None P Q f h = f n (omega arith) h
number_map n (Some c) P Q f h = (h.0, f (n + 1) (omega arith) h.1)

pub Numbered_push : (n : ℕ) (u : List Packet) (p : Packet) → Numbered n u → number_at (n + length (pieces u)) (numbering p) (λ m. Unit {0})
    → Numbered n (u ++ p ∷ [])
Numbered_push n [] p h is = rw (sym (let e : n + 0 ≡ n = omega arith in e)) is
Numbered_push n (q ∷ u) p h is =
    number_map n (numbering q) (λ m. Numbered m u) (λ m. Numbered m (u ++ p ∷ []))
    (λ m e k. Numbered_push m u p k (subst (λ k. number_at k (numbering p) (λ m. Unit {0}))
    (let l = length-append (piece_of (numbering q)) (pieces u) in omega arith) is))
    h
