-- The packets of a message carry it.
use Rattle.x25_circuit.proofs.Names.{◌≡◌, ℕ, zero, suc, ◌+◌, ◌≤◌, List, [], ◌∷◌, ◌++◌, length, take, drop, None, Bool, true, false, nat_le, if◌then◌else◌, refl}
use Rattle.x25_circuit.proofs.Names.{sym, ap, ◌∙◌, arith, append_assoc, append-nil, le-leb, leb-true, leb-false, length-drop, Marks, with_q, Message, Piece}
use Rattle.x25_circuit.proofs.Names.{More, Last, Partial, no_part, joined, joining, ground_of, cut, cut_from, length-append, completed}
use Rattle.std.proofs.lemmas.List.{length-take-le, take-append-drop}
use Rattle.x25_circuit.specs.Message.{carried_from, carried, same_q, may_have_q, AreSound}
use Rattle.x25_circuit.specs.laws.MessageLaws.{CutCarries, CutIsSound, SendAdds, SendStaysWhole, TakeAdds}

joining_append : (j : Partial) (ps rs : List Piece) → joining j (ps ++ rs) ≡ joining (joining j ps) rs
joining_append j [] rs = refl
joining_append j (p ∷ ps) rs = joining_append (joined j p) ps rs

carried_append : (j : Partial) (ps rs : List Piece) → carried_from j (ps ++ rs) ≡ carried_from j ps ++ carried_from (joining j ps) rs
carried_append j [] rs = refl
carried_append j (p ∷ ps) rs =
    ap (λ (ms : List Message). completed j p ++ ms) (carried_append (joined j p) ps rs)
    ∙ sym (append_assoc (completed j p) (carried_from (joined j p) ps) (carried_from (joining (joined j p) ps) rs))

joining_by : (b : Bool) (j : Partial) (marks : Marks) (user : List ℕ) (p : Piece) (ps : List Piece) → joining (joined j p) ps ≡ no_part
    → joining j (if b then Last marks user ∷ [] else p ∷ ps) ≡ no_part
joining_by true j marks user p ps e = refl
joining_by false j marks user p ps e = e

cut_whole : (n size : ℕ) (marks : Marks) (user : List ℕ) (j : Partial) → joining j (cut_from n size marks user) ≡ no_part
cut_whole zero size marks user j = refl
cut_whole (suc n) size marks user j =
    joining_by (nat_le (length user) size) j marks user (More (with_q marks.q) (take size user)) (cut_from n size marks (drop size user))
    (cut_whole n size marks (drop size user) (joined j (More (with_q marks.q) (take size user))))

carried_by : (b : Bool) (j : Partial) (marks : Marks) (user part : List ℕ) (ps : List Piece)
    → carried_from (joined j (More (with_q marks.q) part)) ps ≡ record { marks = marks; user = j.user ++ user } ∷ []
    → carried_from j (if b then Last marks user ∷ [] else More (with_q marks.q) part ∷ ps) ≡ record { marks = marks; user = j.user ++ user } ∷ []
carried_by true j marks user part ps e = refl
carried_by false j marks user part ps e = e

cut_carried : (n size : ℕ) (marks : Marks) (user : List ℕ) (j : Partial) → carried_from j (cut_from n size marks user)
    ≡ record { marks = marks; user = j.user ++ user } ∷ []
cut_carried zero size marks user j = refl
cut_carried (suc n) size marks user j =
    carried_by (nat_le (length user) size) j marks user (take size user) (cut_from n size marks (drop size user))
    (cut_carried n size marks (drop size user) (joined j (More (with_q marks.q) (take size user)))
    ∙ ap (λ (xs : List ℕ). record { marks = marks; user = xs } ∷ [])
    (append_assoc j.user (take size user) (drop size user) ∙ ap (λ (xs : List ℕ). j.user ++ xs) (take-append-drop size user)))

pub cut_carries : CutCarries
cut_carries size marks user = cut_carried (length user) size marks user no_part

pub take_adds : TakeAdds
take_adds taken piece = carried_append no_part taken (piece ∷ [])
    ∙ ap (λ (ms : List Message). carried taken ++ ms) (append-nil (completed (joining no_part taken) piece))

pub send_adds : SendAdds
send_adds size marks user sent rest whole =
    ap carried (sym (append_assoc sent rest (cut size marks user)))
    ∙ carried_append no_part (sent ++ rest) (cut size marks user)
    ∙ ap (λ (j : Partial). carried (sent ++ rest) ++ carried_from j (cut size marks user)) whole
    ∙ ap (λ (ms : List Message). carried (sent ++ rest) ++ ms) (cut_carries size marks user)

pub send_stays_whole : SendStaysWhole
send_stays_whole size marks user sent rest whole =
    ap (joining no_part) (sym (append_assoc sent rest (cut size marks user)))
    ∙ joining_append no_part (sent ++ rest) (cut size marks user)
    ∙ cut_whole (length user) size marks user (joining no_part (sent ++ rest))

-- ---- none of them is refused

same_as_itself : (q : Bool) → same_q q q ≡ true
same_as_itself true = refl
same_as_itself false = refl

sound_ground : (longest size : ℕ) (j : Partial) (n : ℕ) (q : Bool) → n ≤ size → length j.user + n ≤ longest → may_have_q j.begun q ≡ true
    → ground_of longest size j n q ≡ None
sound_ground longest size j n q a b e = rw (le-leb _ _ a, le-leb _ _ b, e) refl

sound_by : (b : Bool) (longest size : ℕ) (j : Partial) (marks : Marks) (user : List ℕ) (ps : List Piece) → nat_le (length user) size ≡ b
    → length j.user + length user ≤ longest → may_have_q j.begun marks.q ≡ true
    → (nat_le (length user) size ≡ false → AreSound longest size (joined j (More (with_q marks.q) (take size user))) ps)
    → AreSound longest size j (if b then Last marks user ∷ [] else More (with_q marks.q) (take size user) ∷ ps)
sound_by true longest size j marks user ps e short same rest = (sound_ground longest size j (length user) marks.q (leb-true _ _ e) short same, tt)
sound_by false longest size j marks user ps e short same rest =
    let more = leb-false _ _ e in
    let taken = length-take-le size user (omega (arith, more)) in
    (sound_ground longest size j (length (take size user)) marks.q (omega (arith, taken)) (omega (arith, taken, more, short)) same, rest e)

cut_sound : (n longest size : ℕ) (marks : Marks) (user : List ℕ) (j : Partial) → length user ≤ n → 1 ≤ size → length j.user + length user ≤ longest
    → may_have_q j.begun marks.q ≡ true
    → AreSound longest size j (cut_from n size marks user)
cut_sound zero longest size marks user j few some short same = (sound_ground longest size j (length user) marks.q (omega (arith, few, some)) short same, tt)
cut_sound (suc n) longest size marks user j few some short same =
    sound_by (nat_le (length user) size) longest size j marks user (cut_from n size marks (drop size user)) refl short same
    (λ e.
    let more = leb-false _ _ e in
    let taken = length-take-le size user (omega (arith, more)) in
    let dropped = length-drop size user in
    let joined_length = length-append j.user (take size user) in
    cut_sound n longest size marks (drop size user) (joined j (More (with_q marks.q) (take size user))) (omega (arith, few, some, dropped)) some
    (omega (arith, short, taken, dropped, joined_length, more)) (same_as_itself marks.q))

pub cut_is_sound : CutIsSound
cut_is_sound longest size marks user some short = cut_sound (length user) longest size marks user no_part (omega (arith)) some (omega (arith, short)) refl
