-- Worked moments of healing with one busy end: its window is one frame, 255 packets wait, and its I frame was lost.
use Rattle.std.specs.Prelude.{◌≡◌, ℕ, true, List, [], ◌∷◌, ◌++◌, replicate}
use Rattle.x25_link.specs.{Station.{is_up, is_busy}, declared.phase.Phase.{Phase}}
use Rattle.x25_link.specs.declared.phase.Phase.TheVariants.{Down, Waiting, Up}
use Rattle.x25_line.specs.laws.Stations.{Stations, Put, T1, Connect, Abandon, Lose, LinkEvent, Near, Far, run, start}
use Rattle.x25_line.specs.{laws.StationClaims.{IsSetUpOnce}, rows.StationRows.{dte, dce}}

abbrev pub after_many : List LinkEvent → Stations
after_many more =
    let events = replicate 256 (Near (Put (5 ∷ []))) ++ Far (Lose 0) ∷ more in
    run (record dte { window = 1; retries = 1 }) dce events start

-- nothing is on the line, the near end is Up and busy, with so many tries made, and the far end is in this phase
pub record IsBusyBeside (phase : Phase) (tries : ℕ) (w : Stations) : Type 0 where
  pub once : IsSetUpOnce w
  pub drained : (w.out ≡ []) × (w.back ≡ [])
  pub up : is_up w.near.station.phase ≡ true
  pub busy : is_busy w.near.station ≡ true
  pub made : w.near.station.tries ≡ tries
  pub far : w.far.station.phase ≡ phase

-- the far end has left Up; or asks for set-up, and its SABM was lost; or is Up, and the busy end has made its only try
abbrev pub OneBusyIsReached : Type 0
OneBusyIsReached = IsBusyBeside Down 0 (after_many (Far Abandon ∷ []))
    × IsBusyBeside Waiting 0 (after_many (Far Abandon ∷ Far Connect ∷ Near (Lose 0) ∷ []))
    × IsBusyBeside Up 1 (after_many (Near T1 ∷ Far (Lose 0) ∷ []))
