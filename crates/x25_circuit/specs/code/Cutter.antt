-- What contracts see of a message while it is cut.
use Rattle.std.specs.Prelude.{ℕ, Bool, false, nat_le, if◌then◌else◌, List, [], ◌∷◌, length, take, drop}
use Rattle.x25_packet.specs.declared.marks.Marks.{Marks}
use Rattle.x25_packet.specs.Marks.{with_q}
use Rattle.x25_circuit.specs.Message.{Message, Piece, More, Last, piece_of}

-- what is left of it, where something is, and the user data of the packet that was cut off last
pub record ShownCutter : Type 0 where
  pub left : List Message
  pub lent : List ℕ

-- the next packet of these messages, of at most this size
abbrev pub first_cut : ℕ → List Message → Piece
first_cut size [] = Last (with_q false) []
first_cut size (m ∷ ms) = if nat_le (length m.user) size then Last m.marks m.user
    else More (with_q m.marks.q) (take size m.user)

-- what is left of them then
abbrev pub first_left : ℕ → List Message → List Message
first_left size [] = []
first_left size (m ∷ ms) = if nat_le (length m.user) size then ms
    else record { marks = m.marks; user = drop size m.user } ∷ ms

abbrev pub marked : Marks → Bool → List ℕ → Piece
marked marks m user = piece_of marks m user
