-- Packets that are sent on in another size.
use Rattle.std.proofs.Common.{◌≡◌, ℕ, zero, suc, ◌≤◌, List, [], ◌∷◌, ◌++◌, length, take, drop, Bool, true, false, nat_le, if◌then◌else◌, refl}
use Rattle.std.proofs.Common.{sym, ap, ◌∙◌, arith, append_assoc}
use Rattle.std.proofs.lemmas.{Bool.{leb-true, leb-false}, List.{length-drop, length-take-le, take-append-drop}}
use Rattle.x25_packet.specs.declared.marks.Marks.{Marks}
use Rattle.x25_packet.specs.Marks.{with_q}
use Rattle.x25_circuit.specs.Message.{Piece, More, Last, Message, Partial, no_part, joined, joining, completed, carried_from, cut_from, cut}
use Rattle.x25_relay.specs.laws.Recut.{fulls_from, kept_from, goes, keeps, recut_from, left_from}
use Rattle.x25_relay.specs.laws.RecutLaw.{RecutCarries, AreOfSize, RecutIsOfSize, FewAreKept}

joining_append : (j : Partial) (ps rs : List Piece) → joining j (ps ++ rs) ≡ joining (joining j ps) rs
joining_append j [] rs = refl
joining_append j (p ∷ ps) rs = joining_append (joined j p) ps rs

carried_append : (j : Partial) (ps rs : List Piece) → carried_from j (ps ++ rs) ≡ carried_from j ps ++ carried_from (joining j ps) rs
carried_append j [] rs = refl
carried_append j (p ∷ ps) rs =
    ap (λ (ms : List Message). completed j p ++ ms) (carried_append (joined j p) ps rs)
    ∙ sym (append_assoc (completed j p) (carried_from (joined j p) ps) (carried_from (joining (joined j p) ps) rs))

-- ---- full packets carry no message yet, and begin what is kept

none_by : (b : Bool) (j : Partial) (q : Bool) (part : List ℕ) (ps : List Piece) → carried_from (joined j (More (with_q q) part)) ps ≡ []
    → carried_from j (if b then [] else More (with_q q) part ∷ ps) ≡ []
none_by true j q part ps e = refl
none_by false j q part ps e = e

fulls_carry_none : (n size : ℕ) (q : Bool) (octets : List ℕ) (j : Partial) → carried_from j (fulls_from n size q octets) ≡ []
fulls_carry_none zero size q octets j = refl
fulls_carry_none (suc n) size q octets j =
    none_by (nat_le (length octets) size) j q (take size octets) (fulls_from n size q (drop size octets))
    (fulls_carry_none n size q (drop size octets) (joined j (More (with_q q) (take size octets))))

user_by : (b : Bool) (j : Partial) (q : Bool) (part octets kept : List ℕ) (ps : List Piece)
    → (joining (joined j (More (with_q q) part)) ps).user ++ kept ≡ j.user ++ octets
    → (joining j (if b then [] else More (with_q q) part ∷ ps)).user ++ (if b then octets else kept) ≡ j.user ++ octets
user_by true j q part octets kept ps e = refl
user_by false j q part octets kept ps e = e

fulls_user : (n size : ℕ) (q : Bool) (octets : List ℕ) (j : Partial)
    → (joining j (fulls_from n size q octets)).user ++ kept_from n size octets ≡ j.user ++ octets
fulls_user zero size q octets j = refl
fulls_user (suc n) size q octets j =
    user_by (nat_le (length octets) size) j q (take size octets) octets (kept_from n size (drop size octets)) (fulls_from n size q (drop size octets))
    (fulls_user n size q (drop size octets) (joined j (More (with_q q) (take size octets)))
    ∙ append_assoc j.user (take size octets) (drop size octets)
    ∙ ap (λ (xs : List ℕ). j.user ++ xs) (take-append-drop size octets))

-- ---- a message that is cut

joining_by : (b : Bool) (j : Partial) (marks : Marks) (user : List ℕ) (p : Piece) (ps : List Piece) → joining (joined j p) ps ≡ no_part
    → joining j (if b then Last marks user ∷ [] else p ∷ ps) ≡ no_part
joining_by true j marks user p ps e = refl
joining_by false j marks user p ps e = e

cut_whole : (n size : ℕ) (marks : Marks) (user : List ℕ) (j : Partial) → joining j (cut_from n size marks user) ≡ no_part
cut_whole zero size marks user j = refl
cut_whole (suc n) size marks user j =
    joining_by (nat_le (length user) size) j marks user (More (with_q marks.q) (take size user)) (cut_from n size marks (drop size user))
    (cut_whole n size marks (drop size user) (joined j (More (with_q marks.q) (take size user))))

carried_by : (b : Bool) (j : Partial) (marks : Marks) (user part : List ℕ) (ps : List Piece)
    → carried_from (joined j (More (with_q marks.q) part)) ps ≡ record { marks = marks; user = j.user ++ user } ∷ []
    → carried_from j (if b then Last marks user ∷ [] else More (with_q marks.q) part ∷ ps) ≡ record { marks = marks; user = j.user ++ user } ∷ []
carried_by true j marks user part ps e = refl
carried_by false j marks user part ps e = e

cut_carried : (n size : ℕ) (marks : Marks) (user : List ℕ) (j : Partial) → carried_from j (cut_from n size marks user)
    ≡ record { marks = marks; user = j.user ++ user } ∷ []
cut_carried zero size marks user j = refl
cut_carried (suc n) size marks user j =
    carried_by (nat_le (length user) size) j marks user (take size user) (cut_from n size marks (drop size user))
    (cut_carried n size marks (drop size user) (joined j (More (with_q marks.q) (take size user)))
    ∙ ap (λ (xs : List ℕ). record { marks = marks; user = xs } ∷ [])
    (append_assoc j.user (take size user) (drop size user) ∙ ap (λ (xs : List ℕ). j.user ++ xs) (take-append-drop size user)))

-- ---- what goes carries what came

carries_from : (size : ℕ) (kept : List ℕ) (i j : Partial) (ps : List Piece) → j.user ++ kept ≡ i.user
    → carried_from j (recut_from size kept ps) ≡ carried_from i ps
carries_from size kept i j [] e = refl
carries_from size kept i j (More marks user ∷ ps) e =
    carried_append j (goes size kept (More marks user)) (recut_from size (keeps size kept (More marks user)) ps)
    ∙ ap (λ (ms : List Message). ms ++ carried_from (joining j (goes size kept (More marks user))) (recut_from size (keeps size kept (More marks user)) ps))
    (fulls_carry_none (length (kept ++ user)) size marks.q (kept ++ user) j)
    ∙ carries_from size (keeps size kept (More marks user)) (joined i (More marks user)) (joining j (goes size kept (More marks user))) ps
    (fulls_user (length (kept ++ user)) size marks.q (kept ++ user) j
    ∙ sym (append_assoc j.user kept user)
    ∙ ap (λ (xs : List ℕ). xs ++ user) e)
carries_from size kept i j (Last marks user ∷ ps) e =
    carried_append j (cut size marks (kept ++ user)) (recut_from size [] ps)
    ∙ ap (λ (k : Partial). carried_from j (cut size marks (kept ++ user)) ++ carried_from k (recut_from size [] ps))
    (cut_whole (length (kept ++ user)) size marks (kept ++ user) j)
    ∙ ap (λ (ms : List Message). carried_from j (cut size marks (kept ++ user)) ++ ms) (carries_from size [] no_part no_part ps refl)
    ∙ ap (λ (ms : List Message). ms ++ carried_from no_part ps)
    (cut_carried (length (kept ++ user)) size marks (kept ++ user) j
    ∙ ap (λ (xs : List ℕ). record { marks = marks; user = xs } ∷ []) (sym (append_assoc j.user kept user) ∙ ap (λ (xs : List ℕ). xs ++ user) e))

pub recut_carries : RecutCarries
recut_carries size ps = carries_from size [] no_part no_part ps refl

-- ---- each is of the size, and few octets are kept

short_append : (size : ℕ) (ps rs : List Piece) → AreOfSize size ps → AreOfSize size rs → AreOfSize size (ps ++ rs)
short_append size [] rs a b = b
short_append size (p ∷ ps) rs a b = (a.0, short_append size ps rs a.1 b)

fulls_short_by : (b : Bool) (size : ℕ) (q : Bool) (octets : List ℕ) (ps : List Piece) → nat_le (length octets) size ≡ b → AreOfSize size ps
    → AreOfSize size (if b then [] else More (with_q q) (take size octets) ∷ ps)
fulls_short_by true size q octets ps e a = tt
fulls_short_by false size q octets ps e a =
    let more = leb-false _ _ e in let taken = length-take-le size octets (omega (arith, more)) in (taken, a)

fulls_short : (n size : ℕ) (q : Bool) (octets : List ℕ) → AreOfSize size (fulls_from n size q octets)
fulls_short zero size q octets = tt
fulls_short (suc n) size q octets =
    fulls_short_by (nat_le (length octets) size) size q octets (fulls_from n size q (drop size octets)) refl (fulls_short n size q (drop size octets))

cut_short_by : (b : Bool) (size : ℕ) (marks : Marks) (user : List ℕ) (ps : List Piece) → nat_le (length user) size ≡ b
    → (nat_le (length user) size ≡ false → AreOfSize size ps)
    → AreOfSize size (if b then Last marks user ∷ [] else More (with_q marks.q) (take size user) ∷ ps)
cut_short_by true size marks user ps e a = (leb-true _ _ e, tt)
cut_short_by false size marks user ps e a =
    let more = leb-false _ _ e in let taken = length-take-le size user (omega (arith, more)) in (taken, a e)

cut_short : (n size : ℕ) (marks : Marks) (user : List ℕ) → length user ≤ n → 1 ≤ size → AreOfSize size (cut_from n size marks user)
cut_short zero size marks user few some = (omega (arith, few), tt)
cut_short (suc n) size marks user few some =
    cut_short_by (nat_le (length user) size) size marks user (cut_from n size marks (drop size user)) refl
    (λ e. let more = leb-false _ _ e in let dropped = length-drop size user in
    cut_short n size marks (drop size user) (omega (arith, few, some, dropped, more)) some)

goes_short : (size : ℕ) (kept : List ℕ) (p : Piece) → 1 ≤ size → AreOfSize size (goes size kept p)
goes_short size kept (More marks user) some = fulls_short (length (kept ++ user)) size marks.q (kept ++ user)
goes_short size kept (Last marks user) some = cut_short (length (kept ++ user)) size marks (kept ++ user) (omega arith) some

short_from : (size : ℕ) (kept : List ℕ) (ps : List Piece) → 1 ≤ size → AreOfSize size (recut_from size kept ps)
short_from size kept [] some = tt
short_from size kept (p ∷ ps) some =
    short_append size (goes size kept p) (recut_from size (keeps size kept p) ps) (goes_short size kept p some) (short_from size (keeps size kept p) ps some)

pub recut_is_of_size : RecutIsOfSize
recut_is_of_size size ps some = short_from size [] ps some

few_by : (b : Bool) (size : ℕ) (octets kept : List ℕ) → nat_le (length octets) size ≡ b → (nat_le (length octets) size ≡ false → length kept ≤ size)
    → length (if b then octets else kept) ≤ size
few_by true size octets kept e a = leb-true _ _ e
few_by false size octets kept e a = a e

kept_few : (n size : ℕ) (octets : List ℕ) → length octets ≤ n → 1 ≤ size → length (kept_from n size octets) ≤ size
kept_few zero size octets few some = omega (arith, few)
kept_few (suc n) size octets few some =
    few_by (nat_le (length octets) size) size octets (kept_from n size (drop size octets)) refl
    (λ e. let more = leb-false _ _ e in let dropped = length-drop size octets in
    kept_few n size (drop size octets) (omega (arith, few, some, dropped, more)) some)

keeps_few : (size : ℕ) (kept : List ℕ) (p : Piece) → 1 ≤ size → length (keeps size kept p) ≤ size
keeps_few size kept (More marks user) some = kept_few (length (kept ++ user)) size (kept ++ user) (omega arith) some
keeps_few size kept (Last marks user) some = omega arith

left_few : (size : ℕ) (kept : List ℕ) (ps : List Piece) → 1 ≤ size → length kept ≤ size → length (left_from size kept ps) ≤ size
left_few size kept [] some few = few
left_few size kept (p ∷ ps) some few = left_few size (keeps size kept p) ps some (keeps_few size kept p some)

pub few_are_kept : FewAreKept
few_are_kept size ps some = left_few size [] ps some (omega arith)
