-- Worked rows of two link stations over sessions: from nothing, and set up again with a packet on the line.
use Rattle.std.specs.Prelude.{◌≡◌, ℕ, List, [], ◌∷◌}
use Rattle.x25_line.specs.laws.Stations.{Put, Deliver, T1, Connect, Abandon, Lose, LinkEvent, Near, Far}
use Rattle.x25_line.specs.rows.StationRows.{dte, dce}
use Rattle.x25_line.specs.laws.Sessions.{Meeting, Sessions, run, from_nothing, from_set_up, AreTimely}

abbrev pub meeting : ℕ → ℕ → Meeting
meeting near far = record { near = near; far = far }

-- The SABM is lost, and T1 sends another. It is answered by UA, and a packet is handed up, each end in its first
-- session.
abbrev pub setting_up : List LinkEvent
setting_up = Near Connect ∷ Far (Lose 0) ∷ Near T1 ∷ Far Deliver ∷ Near Deliver ∷ Near (Put (5 ∷ [])) ∷ Far Deliver ∷ []

abbrev pub IsFirst : Sessions → Type 0
IsFirst w = (w.near.begun ≡ 1) × (w.far.begun ≡ 1) × (w.far.up 1 ≡ (5 ∷ []) ∷ []) × (w.met ≡ meeting 1 1 ∷ [])

abbrev pub SetsUpFromNothing : Type 0
SetsUpFromNothing = AreTimely dte dce setting_up from_nothing × IsFirst (run dte dce setting_up from_nothing)

-- The near end leaves and asks for set-up while its packet is on the line. That comes in the first session, and the
-- acknowledgement of it while UA is awaited. The next packet is one of the second sessions.
abbrev pub setting_up_again : List LinkEvent
setting_up_again = Near
    (Put (5 ∷ [])) ∷ Near Abandon ∷ Near Connect ∷ Far Deliver ∷ Far Deliver ∷ Near Deliver ∷ Near Deliver ∷ Near
    (Put (7 ∷ [])) ∷ Far Deliver ∷ []

abbrev pub IsSecond : Sessions → Type 0
IsSecond w = (w.near.begun ≡ 2) × (w.far.begun ≡ 2) × (w.far.up 1 ≡ (5 ∷ []) ∷ []) × (w.far.up 2 ≡ (7 ∷ []) ∷ [])
    × (w.met ≡ meeting 2 2 ∷ meeting 1 1 ∷ [])

abbrev pub SetsUpAgain : Type 0
SetsUpAgain = AreTimely dte dce setting_up_again from_set_up × IsSecond (run dte dce setting_up_again from_set_up)
