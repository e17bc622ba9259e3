-- Data packets, and the messages that they carry, whoever cut them. ITU-T X.25 (10/96), sections 4.3.2 and 4.3.4 to
-- 4.3.6.
use Rattle.std.specs.Prelude.{◌≡◌, ℕ, zero, suc, ◌+◌, List, [], ◌∷◌, ◌++◌, length, take, drop, Option, Some, None, Bool}
use Rattle.std.specs.Prelude.{true, false, nat_le, if◌then◌else◌}
use Rattle.x25_bits.specs.Bits.{bit}
use Rattle.x25_packet.specs.declared.marks.Marks.{Marks}
use Rattle.x25_packet.specs.Marks.{with_q}

-- the user data of a data packet with its marks: the more data mark is 1 or 0, Q is the qualifier, and D asks for
-- confirmation of delivery
pub data Piece : Type 0 where
  More : (marks : Marks) → (user : List ℕ) → Piece
  Last : (marks : Marks) → (user : List ℕ) → Piece

abbrev pub piece_of : Marks → Bool → List ℕ → Piece
piece_of marks true user = More marks user
piece_of marks false user = Last marks user

abbrev pub q_of : Piece → Bool
q_of (More marks user) = marks.q
q_of (Last marks user) = marks.q

abbrev pub user_of : Piece → List ℕ
user_of (More marks user) = user
user_of (Last marks user) = user

-- a message, whole: its qualifier, and whether confirmation of its delivery is asked; 0 to 65,535 octets
pub record Message : Type 0 where
  pub marks : Marks
  pub user : List ℕ

-- a message of which some packets have come: Q, where one has, and the octets so far
pub record Partial : Type 0 where
  pub begun : Option Bool
  pub user : List ℕ

abbrev pub no_part : Partial
no_part = record { begun = None; user = [] }

abbrev pub joined : Partial → Piece → Partial
joined j (More marks user) = record { begun = Some marks.q; user = j.user ++ user }
joined j (Last marks user) = no_part

-- what is begun, and not ended, behind these packets
abbrev pub joining : Partial → List Piece → Partial
joining j [] = j
joining j (p ∷ ps) = joining (joined j p) ps

-- the message that ends with this packet, where one does
abbrev pub completed : Partial → Piece → List Message
completed j (More marks user) = []
completed j (Last marks user) = record { marks = marks; user = j.user ++ user } ∷ []

abbrev pub carried_from : Partial → List Piece → List Message
carried_from j [] = []
carried_from j (p ∷ ps) = completed j p ++ carried_from (joined j p) ps

-- the messages that these packets carry: one ends with each packet whose more data mark is 0
abbrev pub carried : List Piece → List Message
carried ps = carried_from no_part ps

-- ---- which packets may follow

abbrev pub same_q : Bool → Bool → Bool
same_q true q = q
same_q false true = false
same_q false false = true

abbrev pub may_have_q : Option Bool → Bool → Bool
may_have_q None q = true
may_have_q (Some r) q = same_q r q

-- The first ground on which so many octets with this qualifier are refused behind what has begun: 39 where they are
-- more than a packet holds, or the message gets more than the longest; 83 where the qualifier isn't that of the packets
-- before. The diagnostics are of the profile.
abbrev pub ground_of : ℕ → ℕ → Partial → ℕ → Bool → Option ℕ
ground_of longest size j n q =
    if nat_le n size
    then (if nat_le (length j.user + n) longest then (if may_have_q j.begun q then None else Some 83) else Some 39)
    else Some 39

abbrev pub piece_ground : ℕ → ℕ → Partial → Piece → Option ℕ
piece_ground longest size j p = ground_of longest size j (length (user_of p)) (q_of p)

-- none of these is refused: one qualifier in a message, no more octets than the longest has, and each packet of at most
-- the size
abbrev pub AreSound : ℕ → ℕ → Partial → List Piece → Type 0
AreSound longest size j [] = Unit {0}
AreSound longest size j (p ∷ ps) = (piece_ground longest size j p ≡ None) × AreSound longest size (joined j p) ps

-- ---- how a message is cut: all packets but the last are full, have M = 1, and D = 0, so that a network may join them
-- (section 4.3.4); an empty message is one empty packet

-- the first number is at least how many are cut off
abbrev pub cut_from : ℕ → ℕ → Marks → List ℕ → List Piece
cut_from zero size marks user = Last marks user ∷ []
cut_from (suc n) size marks user =
    if nat_le (length user) size
    then Last marks user ∷ []
    else More (with_q marks.q) (take size user) ∷ cut_from n size marks (drop size user)

abbrev pub cut : ℕ → Marks → List ℕ → List Piece
cut size marks user = cut_from (length user) size marks user

-- the packets of messages, one message after another
abbrev pub cut_all : ℕ → List Message → List Piece
cut_all size [] = []
cut_all size (m ∷ ms) = cut size m.marks m.user ++ cut_all size ms

-- how many messages end in these
abbrev pub ends_of : Piece → ℕ
ends_of (More marks user) = 0
ends_of (Last marks user) = 1

abbrev pub wholes : List Piece → ℕ
wholes [] = 0
wholes (p ∷ ps) = ends_of p + wholes ps

-- ---- confirmation of delivery

-- whether a message ends with it of which confirmation was asked
abbrev pub asks : Piece → Bool
asks (More marks user) = false
asks (Last marks user) = marks.d

-- how many such are in these
abbrev pub asked_in : List Piece → ℕ
asked_in [] = 0
asked_in (p ∷ ps) = bit (asks p) + asked_in ps
