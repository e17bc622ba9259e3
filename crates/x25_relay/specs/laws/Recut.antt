-- Packets that are sent on in another size, as they come: what fills no packet yet is kept, at most one packet of it.
-- ITU-T X.25 (10/96), section 4.3.4: packets with M = 1 that are full may be joined and divided.
use Rattle.std.specs.Prelude.{ℕ, zero, suc, List, [], ◌∷◌, ◌++◌, length, take, drop, Bool, nat_le, if◌then◌else◌}
use Rattle.x25_packet.specs.Marks.{with_q}
use Rattle.x25_circuit.specs.Message.{Piece, More, Last, cut}

-- the full packets that go before more of the message comes; the first number is at least how many there are
abbrev pub fulls_from : ℕ → ℕ → Bool → List ℕ → List Piece
fulls_from zero size q octets = []
fulls_from (suc n) size q octets =
    if nat_le (length octets) size
    then []
    else More (with_q q) (take size octets) ∷ fulls_from n size q (drop size octets)

-- and the octets that are kept
abbrev pub kept_from : ℕ → ℕ → List ℕ → List ℕ
kept_from zero size octets = octets
kept_from (suc n) size octets = if nat_le (length octets) size then octets else kept_from n size (drop size octets)

-- what goes where these octets are kept and a packet comes
abbrev pub goes : ℕ → List ℕ → Piece → List Piece
goes size kept (More marks user) = fulls_from (length (kept ++ user)) size marks.q (kept ++ user)
goes size kept (Last marks user) = cut size marks (kept ++ user)

abbrev pub keeps : ℕ → List ℕ → Piece → List ℕ
keeps size kept (More marks user) = kept_from (length (kept ++ user)) size (kept ++ user)
keeps size kept (Last marks user) = []

abbrev pub recut_from : ℕ → List ℕ → List Piece → List Piece
recut_from size kept [] = []
recut_from size kept (p ∷ ps) = goes size kept p ++ recut_from size (keeps size kept p) ps

-- the packets that go, where these came
abbrev pub recut : ℕ → List Piece → List Piece
recut size ps = recut_from size [] ps

abbrev pub left_from : ℕ → List ℕ → List Piece → List ℕ
left_from size kept [] = kept
left_from size kept (p ∷ ps) = left_from size (keeps size kept p) ps

-- the octets that are kept then
abbrev pub left : ℕ → List Piece → List ℕ
left size ps = left_from size [] ps
