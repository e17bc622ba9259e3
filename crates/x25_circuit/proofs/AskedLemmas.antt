-- How many messages ask for confirmation, of what was sent and what waits.
use Rattle.x25_circuit.proofs.Names.{◌≡◌, ℕ, zero, suc, ◌+◌, ◌≤◌, List, [], ◌∷◌, ◌++◌, length, take, drop, map, slice_get, Some, Bool, true, false, nat_le}
use Rattle.x25_circuit.proofs.Names.{if◌then◌else◌, refl, sym, ap, subst, ◌∙◌, arith, from_bool, bit, Marks, with_q, first_cut, Message, Piece, More, Last}
use Rattle.x25_circuit.proofs.Names.{piece_of, asks, asked_in, wholes, ends_of, cut_from}
use Rattle.std.proofs.lemmas.List.{drop-drop, drop-map}

pub asked_append : (ps rs : List Piece) → asked_in (ps ++ rs) ≡ asked_in ps + asked_in rs
asked_append [] rs = omega arith
asked_append (p ∷ ps) rs = let h = asked_append ps rs in omega (arith, h)

-- behind an acknowledged packet, of those sent
pub drop_sent : (n : ℕ) (sent rest : List Piece) → n ≤ length sent → asked_in (drop n (sent ++ rest)) ≡ asked_in (drop n sent) + asked_in rest
drop_sent zero sent rest low = asked_append sent rest
drop_sent (suc n) [] rest low = absurd (omega (arith, low))
drop_sent (suc n) (p ∷ sent) rest low = drop_sent n sent rest (omega (arith, low))

-- a message asks in its last packet alone
asked_if : (b : Bool) (marks : Marks) (user part : List ℕ) (rest : List Piece) → asked_in rest ≡ bit marks.d
    → asked_in (if b then Last marks user ∷ [] else More (with_q marks.q) part ∷ rest) ≡ bit marks.d
asked_if true marks user part rest h = omega arith
asked_if false marks user part rest h = omega (arith, h)

pub asked_cut : (n size : ℕ) (marks : Marks) (user : List ℕ) → asked_in (cut_from n size marks user) ≡ bit marks.d
asked_cut zero size marks user = omega arith
asked_cut (suc n) size marks user = asked_if (nat_le (length user) size) marks user (take size user) (cut_from n size marks (drop size user))
    (asked_cut n size marks (drop size user))

pub bit_few : (b : Bool) → bit b ≤ 1
bit_few true = omega arith
bit_few false = omega arith

pub byte_is_bit : (b : Bool) → from_bool b ≡ bit b
byte_is_bit true = refl
byte_is_bit false = refl

-- no more than messages that end in them
asked_end : (p : Piece) → bit (asks p) ≤ ends_of p
asked_end (More marks user) = omega arith
asked_end (Last marks user) = bit_few marks.d

pub asked_few : (ps : List Piece) → asked_in ps ≤ wholes ps
asked_few [] = omega arith
asked_few (p ∷ ps) = let h = asked_end p in let k = asked_few ps in omega (arith, h, k)

-- no more than packets
pub asked_short : (ps : List Piece) → asked_in ps ≤ length ps
asked_short [] = omega arith
asked_short (p ∷ ps) = let h = bit_few (asks p) in let k = asked_short ps in omega (arith, h, k)

-- ---- packets that are acknowledged

first_asks : (ps : List Piece) (b : Bool) → slice_get (map asks ps) 0 ≡ Some b → bit b + asked_in (drop 1 ps) ≡ asked_in ps
first_asks [] b e = absurd (cc)
first_asks (p ∷ ps) b e = let same : asks p ≡ b = cc in ap (λ (a : Bool). bit a + asked_in ps) (sym same)

-- one more, of which the sender kept whether it asks
pub asked_next : (n : ℕ) (sent : List Piece) (b : Bool) → slice_get (drop n (map asks sent)) 0 ≡ Some b → bit b + asked_in (drop (n + 1) sent)
    ≡ asked_in (drop n sent)
asked_next n sent b e =
    subst (λ (ps : List Piece). bit b + asked_in ps ≡ asked_in (drop n sent)) (drop-drop 1 n sent)
    (first_asks (drop n sent) b (ap (λ (bs : List Bool). slice_get bs 0) (sym (drop-map asks n sent)) ∙ e))

asked_left : (count : ℕ) (ps : List Piece) → asked_in (drop count ps) ≤ asked_in ps
asked_left zero ps = omega arith
asked_left (suc n) [] = omega arith
asked_left (suc n) (p ∷ ps) = let h = asked_left n ps in omega (arith, h)

-- no more ask of those that are left
pub asked_fewer : (n count : ℕ) (ps : List Piece) → asked_in (drop (n + count) ps) ≤ asked_in (drop n ps)
asked_fewer n count ps = subst (λ (rs : List Piece). asked_in rs ≤ asked_in (drop n ps)) (drop-drop count n ps) (asked_left count (drop n ps))

-- ---- the packet cut next: where it has D a message ends with it

abbrev d_of : Piece → Bool
d_of (More marks user) = marks.d
d_of (Last marks user) = marks.d

d_of_piece : (marks : Marks) (m : Bool) (user : List ℕ) → d_of (piece_of marks m user) ≡ marks.d
d_of_piece marks true user = refl
d_of_piece marks false user = refl

asks_by : (b : Bool) (marks : Marks) (user part : List ℕ) → asks (if b then Last marks user else More (with_q marks.q) part)
    ≡ d_of (if b then Last marks user else More (with_q marks.q) part)
asks_by true marks user part = refl
asks_by false marks user part = refl

asks_by_d : (size : ℕ) (ms : List Message) → asks (first_cut size ms) ≡ d_of (first_cut size ms)
asks_by_d size [] = refl
asks_by_d size (m ∷ ms) = asks_by (nat_le (length m.user) size) m.marks m.user (take size m.user)

pub asks_as_marked : (size : ℕ) (ms : List Message) (marks : Marks) (m : Bool) (user : List ℕ) → piece_of marks m user ≡ first_cut size ms
    → asks (piece_of marks m user) ≡ marks.d
asks_as_marked size ms marks m user e = ap asks e ∙ asks_by_d size ms ∙ sym (ap d_of e) ∙ d_of_piece marks m user
