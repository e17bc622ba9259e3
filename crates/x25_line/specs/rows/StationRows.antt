-- Worked rows of two link stations over a line: packets move, frames are lost and damaged, and ends leave and ask for
-- set-up.
use Rattle.std.specs.Prelude.{◌≡◌, true, false, [], ◌∷◌}
use Rattle.x25_bits.specs.declared.role.Role.TheVariants.{Dte, Dce}
use Rattle.x25_link.specs.declared.phase.Phase.TheVariants.{Down, Waiting, Closed}
use Rattle.x25_link.specs.{declared.phase.Reason.TheVariants.{Reset, Counts, Disc}, Station.{LinkSettings, fresh}}
use Rattle.x25_link.specs.Link.{is_idle}
use Rattle.x25_line.specs.laws.Stations.{Stations, Put, Deliver, T1, Connect, Disconnect, Abandon, Lose, Damage, Near}
use Rattle.x25_line.specs.laws.Stations.{Far, run, start}

-- the DTE is the near end
abbrev pub dte : LinkSettings
dte = record { role = Dte; window = 7; longest = 128; retries = 20; disc_again = false }

abbrev pub dce : LinkSettings
dce = record { role = Dce; window = 7; longest = 128; retries = 20; disc_again = false }

-- the packet of one octet, 5, was handed up at the far end and is acknowledged
abbrev pub IsAcrossFive : Stations → Type 0
IsAcrossFive w = (w.far.up ≡ (5 ∷ []) ∷ []) × (is_idle w.near.station ≡ true)

-- a packet goes, is handed up, and is acknowledged
abbrev pub PacketGoes : Type 0
PacketGoes = IsAcrossFive (run dte dce (Near (Put (5 ∷ [])) ∷ Far Deliver ∷ Near Deliver ∷ []) start)

-- the packets of one octet, 5 from the near end and 7 from the far end, go at once
abbrev pub PacketsCross : Type 0
PacketsCross =
    let w = run dte dce (Near (Put (5 ∷ [])) ∷ Far
    (Put (7 ∷ [])) ∷ Far Deliver ∷ Near Deliver ∷ Near Deliver ∷ Far Deliver ∷ []) start in
    (w.far.up ≡ (5 ∷ []) ∷ []) × (w.near.up ≡ (7 ∷ []) ∷ []) × (is_idle w.near.station ≡ true)
    × (is_idle w.far.station ≡ true)

-- Its frame is lost. Timer T1 runs out and the far end is polled. It answers, the frame goes again, is handed up, and
-- is acknowledged.
abbrev pub lost : Stations
lost = run dte dce (Near (Put (5 ∷ [])) ∷ Far (Lose 0) ∷ []) start

abbrev pub LostComesAgain : Type 0
LostComesAgain = (lost.out ≡ [])
    × IsAcrossFive (run dte dce (Near T1 ∷ Far Deliver ∷ Near Deliver ∷ Far Deliver ∷ Near Deliver ∷ []) lost)

-- It is damaged, which comes first and is passed over.
abbrev pub damaged : Stations
damaged = run dte dce (Near (Put (5 ∷ [])) ∷ Far (Damage 0 (1 ∷ 2 ∷ [])) ∷ []) start

abbrev pub DamagedComesAgain : Type 0
DamagedComesAgain =
    (damaged.out ≡ (1 ∷ 2 ∷ []) ∷ [])
    × IsAcrossFive (run dte dce
    (Near T1 ∷ Far Deliver ∷ Far Deliver ∷ Near Deliver ∷ Far Deliver ∷ Near Deliver ∷ []) damaged)

-- `disconnect` sends DISC behind the packet, and the far end goes down
abbrev pub DisconnectEnds : Type 0
DisconnectEnds =
    let w = run dte dce (Near (Put (5 ∷ [])) ∷ Near Disconnect ∷ Far Deliver ∷ Far Deliver ∷ []) start in
    (w.near.station.phase ≡ Closed) × (w.far.up ≡ (5 ∷ []) ∷ []) × (w.far.station.phase ≡ Down)

-- `abandon` sends nothing, and no packet is accepted after it
abbrev pub AbandonEnds : Type 0
AbandonEnds =
    let w = run dte dce (Near Abandon ∷ Near (Put (5 ∷ [])) ∷ []) start in
    (w.near.station.phase ≡ Down) × (w.out ≡ []) × (w.near.down ≡ [])

-- An end that left asks for set-up again. The other, still Up, answers UA, and the link begins afresh at both.
abbrev pub ConnectSetsUp : Type 0
ConnectSetsUp =
    let w = run dte dce (Near Abandon ∷ Near Connect ∷ Far Deliver ∷ Near Deliver ∷ []) start in
    (w.far.station ≡ fresh) × (w.far.reasons ≡ Reset ∷ []) × (w.far.came_up ≡ true) × (w.near.station ≡ fresh)
    × (w.near.reasons ≡ Counts ∷ []) × (w.near.came_up ≡ true)

-- an end that disconnected declines, and the one that asks goes on waiting
abbrev pub ConnectIsDeclined : Type 0
ConnectIsDeclined =
    let w = run dte dce (Far Disconnect ∷ Near Deliver ∷ Far Deliver ∷ Near Connect ∷ Far Deliver ∷ Near Deliver
    ∷ []) start in
    (w.far.station.phase ≡ Closed) × (w.near.station.phase ≡ Waiting) × (w.near.reasons ≡ Disc ∷ [])
    × (w.near.came_up ≡ false) × (w.back ≡ [])
