-- Messages are carried by their packets, whoever cut them. ITU-T X.25 (10/96), sections 4.3.4 to 4.3.6.
use Rattle.std.specs.Prelude.{◌≡◌, ℕ, ◌≤◌, List, [], ◌∷◌, ◌++◌, length}
use Rattle.x25_packet.specs.declared.marks.Marks.{Marks}
use Rattle.x25_circuit.specs.Message.{Piece, no_part, joining, completed, carried, AreSound, cut}

-- no message has begun and not ended behind these packets
abbrev pub IsWhole : List Piece → Type 0
IsWhole ps = joining no_part ps ≡ no_part

-- the packets of a message carry it alone
abbrev pub CutCarries : Type 0
CutCarries = (size : ℕ) (marks : Marks) (user : List ℕ)
    → carried (cut size marks user) ≡ record { marks = marks; user = user } ∷ []

-- the other end refuses none of them: each is within the size, with one qualifier
abbrev pub CutIsSound : Type 0
CutIsSound = (longest size : ℕ) (marks : Marks) (user : List ℕ) → 1 ≤ size → length user ≤ longest
    → AreSound longest size no_part (cut size marks user)

-- a message that is sent is carried behind all others, by the packets sent and those that wait
abbrev pub SendAdds : Type 0
SendAdds = (size : ℕ) (marks : Marks) (user : List ℕ) (sent rest : List Piece) → IsWhole (sent ++ rest)
    → carried (sent ++ (rest ++ cut size marks user))
    ≡ carried (sent ++ rest) ++ record { marks = marks; user = user } ∷ []

abbrev pub SendStaysWhole : Type 0
SendStaysWhole = (size : ℕ) (marks : Marks) (user : List ℕ) (sent rest : List Piece) → IsWhole (sent ++ rest)
    → IsWhole (sent ++ (rest ++ cut size marks user))

-- what a packet that is taken completes is what the packets taken carry more
abbrev pub TakeAdds : Type 0
TakeAdds = (taken : List Piece) (piece : Piece) → carried (taken ++ piece ∷ []) ≡ carried taken
    ++ completed (joining no_part taken) piece
