-- How messages are cut and joined.
use Rattle.x25_circuit.proofs.Names.{◌≡◌, ℕ, zero, suc, ◌+◌, ◌≤◌, ◌<◌, List, [], ◌∷◌, ◌++◌, length, take, drop, Bool, true, false, nat_le, if◌then◌else◌, refl}
use Rattle.x25_circuit.proofs.Names.{sym, ap, ◌∙◌, arith, add_assoc, append_assoc, append-nil, le-leb, leb-false, length-drop, Marks, with_q, first_cut}
use Rattle.x25_circuit.proofs.Names.{Message, Piece, More, Last, Partial, joined, joining, cut, cut_from, cut_all, ends_of, wholes, first_left}

pub wholes_append : (ps rs : List Piece) → wholes (ps ++ rs) ≡ wholes ps + wholes rs
wholes_append [] rs = omega arith
wholes_append (p ∷ ps) rs = ap (λ (n : ℕ). ends_of p + n) (wholes_append ps rs) ∙ sym (add_assoc (ends_of p) (wholes ps) (wholes rs))

by_fits : (b : Bool) (ps rs : List Piece) → wholes ps ≡ 1 → wholes rs ≡ 1 → wholes (if b then ps else rs) ≡ 1
by_fits true ps rs e f = e
by_fits false ps rs e f = f

pub wholes_cut : (n size : ℕ) (marks : Marks) (user : List ℕ) → wholes (cut_from n size marks user) ≡ 1
wholes_cut zero size marks user = refl
wholes_cut (suc n) size marks user =
    by_fits (nat_le (length user) size) (Last marks user ∷ []) (More (with_q marks.q) (take size user) ∷ cut_from n size marks (drop size user)) refl
    (let h = wholes_cut n size marks (drop size user) in omega (arith, h))

pub wholes_all : (size : ℕ) (ms : List Message) → wholes (cut_all size ms) ≡ length ms
wholes_all size [] = refl
wholes_all size (m ∷ ms) =
    wholes_append (cut size m.marks m.user) (cut_all size ms)
    ∙ (let h = wholes_cut (length m.user) size m.marks m.user in let k = wholes_all size ms in omega (arith, h, k))

pub cut_all_push : (size : ℕ) (ms : List Message) (m : Message) → cut_all size (ms ++ m ∷ []) ≡ cut_all size ms ++ cut size m.marks m.user
cut_all_push size [] m = append-nil (cut size m.marks m.user)
cut_all_push size (n ∷ ms) m = ap (λ (ps : List Piece). cut size n.marks n.user ++ ps) (cut_all_push size ms m)
    ∙ sym (append_assoc (cut size n.marks n.user) (cut_all size ms) (cut size m.marks m.user))

pub joining_push : (j : Partial) (ps : List Piece) (p : Piece) → joining j (ps ++ p ∷ []) ≡ joined (joining j ps) p
joining_push j [] p = refl
joining_push j (o ∷ ps) p = joining_push (joined j o) ps p

-- ---- the next packet

length_dropped : (n size : ℕ) (user : List ℕ) → length user ≤ suc n → 1 ≤ size → length (drop size user) ≤ n
length_dropped n size user short some = let e = length-drop size user in omega (arith, e)

fuel : (n m size : ℕ) (marks : Marks) (user : List ℕ) → length user ≤ n → length user ≤ m → 1 ≤ size → cut_from n size marks user ≡ cut_from m size marks user
fuel zero zero size marks user a b some = refl
fuel zero (suc m) size marks user a b some = rw (le-leb (length user) size (omega (arith, a, some))) refl
fuel (suc n) zero size marks user a b some = rw (le-leb (length user) size (omega (arith, b, some))) refl
fuel (suc n) (suc m) size marks user a b some =
    ap (λ (rest : List Piece). if nat_le (length user) size then Last marks user ∷ [] else More (with_q marks.q) (take size user) ∷ rest)
    (fuel n m size marks (drop size user) (length_dropped n size user a some) (length_dropped m size user b some) some)

cut_short : (n size : ℕ) (marks : Marks) (user : List ℕ) → nat_le (length user) size ≡ true → cut_from n size marks user ≡ Last marks user ∷ []
cut_short zero size marks user e = refl
cut_short (suc n) size marks user e = rw e refl

cut_long : (n size : ℕ) (marks : Marks) (user : List ℕ) → length user ≤ n → 1 ≤ size → nat_le (length user) size ≡ false
    → cut_from n size marks user ≡ More (with_q marks.q) (take size user) ∷ cut size marks (drop size user)
cut_long zero size marks user a some e = absurd (let h = leb-false _ _ e in omega (arith, h, a))
cut_long (suc n) size marks user a some e =
    rw e (ap (λ (rest : List Piece). More (with_q marks.q) (take size user) ∷ rest)
    (fuel n (length (drop size user)) size marks (drop size user) (length_dropped n size user a some) (omega arith) some))

cut_by : (b : Bool) (size : ℕ) (m : Message) (ms : List Message) → 1 ≤ size → nat_le (length m.user) size ≡ b
    → cut_all size (m ∷ ms) ≡ first_cut size (m ∷ ms) ∷ cut_all size (first_left size (m ∷ ms))
cut_by true size m ms some e = rw e (ap (λ (ps : List Piece). ps ++ cut_all size ms) (cut_short (length m.user) size m.marks m.user e))
cut_by false size m ms some e = rw e (ap (λ (ps : List Piece). ps ++ cut_all size ms) (cut_long (length m.user) size m.marks m.user (omega arith) some e))

-- the packets of messages are the next one and those of what is left
pub next_piece : (size : ℕ) (ms : List Message) → 1 ≤ size → 0 < length ms → cut_all size ms ≡ first_cut size ms ∷ cut_all size (first_left size ms)
next_piece size [] some h = absurd (omega (arith, h))
next_piece size (m ∷ ms) some h = cut_by (nat_le (length m.user) size) size m ms some refl
