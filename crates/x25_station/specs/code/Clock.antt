-- What becomes of timer T1 at a call.
use Rattle.std.specs.Prelude.{◌≡◌, ℕ, Bool, List, Result, Ok, Err}
use Rattle.x25_station.specs.declared.error.StationError.{StationError}
use Rattle.x25_station.specs.declared.station.Station as code
use Rattle.x25_station.specs.declared.timer.Timer.{Timer}
use Rattle.x25_station.specs.Config.{Settings}
use Rattle.x25_station.specs.Station.{Station}
use Rattle.x25_station.specs.Step.{Outcome, receives}
use Rattle.x25_station.specs.Timer.{is_acknowledged, standing, timer_at}
use Rattle.x25_station.specs.code.FitsStation.{FitsStation}

-- at an accepted call T1 becomes what the definition says, and at a refused one it is as it was
abbrev pub IsTimer : Station → Bool → Timer → Result Unit StationError → Outcome → Type 0
IsTimer s has_fired timer (Ok u) o = timer ≡ timer_at s has_fired o
IsTimer s has_fired timer (Err e) o = timer ≡ standing s

abbrev pub TellsTimer : code.Station → Timer → Result Unit StationError → Bool → (Settings → Station → Outcome) → Type 0
TellsTimer old timer result has_fired said =
    (c : Settings) (s : Station) → FitsStation c old s → IsTimer s has_fired timer result (said c s)

-- it says whether frames are acknowledged by octets that come
abbrev pub SaysAcknowledged : code.Station → List ℕ → Bool → Type 0
SaysAcknowledged old octets said =
    (c : Settings) (s : Station) → FitsStation c old s → said ≡ is_acknowledged s.link (receives c s octets).near.link
