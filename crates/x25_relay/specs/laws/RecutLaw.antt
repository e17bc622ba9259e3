-- What holds of packets that are sent on in another size.
use Rattle.std.specs.Prelude.{◌≡◌, ℕ, ◌≤◌, List, [], ◌∷◌, length}
use Rattle.x25_circuit.specs.Message.{Piece, More, Last, carried}
use Rattle.x25_relay.specs.laws.Recut.{recut, left}

-- the same messages, whole, with their marks, in order
abbrev pub RecutCarries : Type 0
RecutCarries = (size : ℕ) (ps : List Piece) → carried (recut size ps) ≡ carried ps

-- a packet with M = 1 is full, and the last one of a message has at most `size` octets
abbrev pub IsOfSize : ℕ → Piece → Type 0
IsOfSize size (More marks user) = length user ≡ size
IsOfSize size (Last marks user) = length user ≤ size

abbrev pub AreOfSize : ℕ → List Piece → Type 0
AreOfSize size [] = Unit {0}
AreOfSize size (p ∷ ps) = IsOfSize size p × AreOfSize size ps

abbrev pub RecutIsOfSize : Type 0
RecutIsOfSize = (size : ℕ) (ps : List Piece) → 1 ≤ size → AreOfSize size (recut size ps)

-- no more is kept than one packet holds
abbrev pub FewAreKept : Type 0
FewAreKept = (size : ℕ) (ps : List Piece) → 1 ≤ size → length (left size ps) ≤ size
