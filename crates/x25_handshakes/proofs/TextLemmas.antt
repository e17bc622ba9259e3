-- Laws of packets and messages.
use Rattle.x25_handshakes.proofs.Names.{◌≡◌, ℕ, suc, ◌+◌, ◌<◌, ◌≤◌, List, [], ◌∷◌, ◌++◌, length, Some, None, Bool, true, false, nat_le, refl, sym, ap, ◌∙◌, none-some, wholes}
use Rattle.x25_handshakes.proofs.Names.{arith, append_assoc, length-append, cond_both, Marks, Piece, Last, no_part, joining, carried_from, AreSound}
use Rattle.std.proofs.{Common.{zero, take, drop}, lemmas.Bool.{le-leb}, lemmas.Bool.Decides.{nat_tests}, lemmas.Grind.{common_steps}}
use Rattle.std.proofs.lemmas.List.{take-append-drop}
use Rattle.x25_circuit.specs.Message.{More, Partial, joined, completed, same_q, may_have_q, ground_of, cut_from}
use Rattle.x25_packet.specs.Marks.{with_q}

-- pieces are joined in two goes
pub joining-append : (j : Partial) (a b : List Piece) → joining j (a ++ b) ≡ joining (joining j a) b
joining-append j [] b = refl
joining-append j (p ∷ a) b = joining-append (joined j p) a b

-- messages of pieces are read in two goes
pub carried-append : (j : Partial) (a b : List Piece) → carried_from j (a ++ b) ≡ carried_from j a ++ carried_from (joining j a) b
carried-append j [] b = refl
carried-append j (p ∷ a) b =
    ap (λ l. completed j p ++ l) (carried-append (joined j p) a b)
    ∙ sym (append_assoc (completed j p) (carried_from (joined j p) a) (carried_from (joining (joined j p) a) b))

-- the later pieces are sound behind the first
pub AreSound-back : (longest size : ℕ) (j : Partial) (a b : List Piece) → AreSound longest size j (a ++ b) → AreSound longest size (joining j a) b
AreSound-back longest size j [] b h = h
AreSound-back longest size j (p ∷ a) b h = AreSound-back longest size (joined j p) a b h.1

-- sound pieces behind sound pieces
pub AreSound-append : (longest size : ℕ) (j : Partial) (a b : List Piece) → AreSound longest size j a → AreSound longest size (joining j a) b
    → AreSound longest size j (a ++ b)
AreSound-append longest size j [] b h g = g
AreSound-append longest size j (p ∷ a) b h g = (h.0, AreSound-append longest size (joined j p) a b h.1 g)

ground_none : (longest size : ℕ) (j : Partial) (n : ℕ) (q : Bool) → n ≤ size → length j.user + n ≤ longest → may_have_q j.begun q ≡ true
    → ground_of longest size j n q ≡ None
ground_none longest size j n q small room same = rw (le-leb n size small) (rw (le-leb (length j.user + n) longest room) (rw same refl))

same_q-refl : (q : Bool) → same_q q q ≡ true
same_q-refl true = refl
same_q-refl false = refl

pub AreSound-cut : (n longest size : ℕ) (q : Marks) (xs : List ℕ) (j : Partial) → 1 ≤ size → length xs ≤ size + n → length j.user + length xs ≤ longest
    → may_have_q j.begun q.q ≡ true
    → AreSound longest size j (cut_from n size q xs)
AreSound-cut zero longest size q xs j one far room same = (ground_none longest size j (length xs) q.q (omega arith) room same, tt)
AreSound-cut (suc n) longest size q xs j one far room same =
    cond_both (nat_le (length xs) size) (Last q xs ∷ []) (More (with_q q.q) (take size xs) ∷ cut_from n size q (drop size xs))
    (λ ps. AreSound longest size j ps)
    (λ small. (ground_none longest size j (length xs) q.q (grind (arith, nat_tests)) room same, tt))
    (λ large.
    let over : size < length xs = grind (arith, nat_tests) in
    let t : length (take size xs) ≡ size = grind (arith, common_steps) in
    let d : length (drop size xs) + size ≡ length xs = grind (arith, common_steps) in
    let a : length (j.user ++ take size xs) ≡ length j.user + length (take size xs) = length-append j.user (take size xs) in (
      ground_none longest size j (length (take size xs)) q.q (omega arith) (omega arith) same,
      AreSound-cut n longest size q (drop size xs) (record { begun = Some q.q; user = j.user ++ take size xs }) one (omega arith) (omega arith)
          (same_q-refl q.q),
    ))

pub joining-cut : (n size : ℕ) (q : Marks) (xs : List ℕ) (j : Partial) → joining j (cut_from n size q xs) ≡ no_part
joining-cut zero size q xs j = refl
joining-cut (suc n) size q xs j =
    cond_both (nat_le (length xs) size) (Last q xs ∷ []) (More (with_q q.q) (take size xs) ∷ cut_from n size q (drop size xs)) (λ ps. joining j ps ≡ no_part)
    (λ _. refl)
    (λ _. joining-cut n size q (drop size xs) (record { begun = Some q.q; user = j.user ++ take size xs }))

pub carried-cut : (n size : ℕ) (q : Marks) (xs : List ℕ) (j : Partial) → carried_from j (cut_from n size q xs) ≡ record { marks = q; user = j.user ++ xs } ∷ []
carried-cut zero size q xs j = refl
carried-cut (suc n) size q xs j =
    cond_both (nat_le (length xs) size) (Last q xs ∷ []) (More (with_q q.q) (take size xs) ∷ cut_from n size q (drop size xs))
    (λ ps. carried_from j ps ≡ record { marks = q; user = j.user ++ xs } ∷ [])
    (λ _. refl)
    (λ _. carried-cut n size q (drop size xs) (record { begun = Some q.q; user = j.user ++ take size xs })
    ∙ ap (λ l. record { marks = q; user = l } ∷ []) (append_assoc j.user (take size xs) (drop size xs) ∙ ap (λ l. j.user ++ l) (take-append-drop size xs)))

-- packets of which none ends a message leave it begun
still_begun : (j : Partial) (ps : List Piece) (q : Bool) → j.begun ≡ Some q → wholes ps ≡ 0 → (r : Bool) × ((joining j ps).begun ≡ Some r)
still_begun j [] q is none = (q, is)
still_begun j (More q₂ user ∷ ps) q is none = still_begun (joined j (More q₂ user)) ps q₂.q refl (let e : wholes ps ≡ 0 = omega (arith, none) in e)
still_begun j (Last q₂ user ∷ ps) q is none = absurd (omega (arith, none))

whole_rest : (j : Partial) (ps : List Piece) → joining j ps ≡ no_part → wholes ps ≡ 0 → ps ≡ []
whole_rest j [] whole none = refl
whole_rest j (More q user ∷ ps) whole none =
    let begun = still_begun (joined j (More q user)) ps q.q refl (let e : wholes ps ≡ 0 = omega (arith, none) in e) in
    absurd (none-some begun.0 (sym (ap (λ k. k.begun) whole) ∙ begun.1))
whole_rest j (Last q user ∷ ps) whole none = absurd (omega (arith, none))

-- where no message waits, nothing is left of one, since what was sent and what is left are whole messages
pub nothing_waits : (sent rest : List Piece) → joining no_part (sent ++ rest) ≡ no_part → wholes rest ≡ 0 → rest ≡ []
nothing_waits sent rest whole none = whole_rest (joining no_part sent) rest (sym (joining-append no_part sent rest) ∙ whole) none
