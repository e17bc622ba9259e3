-- That the end of a disconnect is told (profile): where DISC is sent again its answer is awaited from an accepted
-- disconnect on. Then what comes and each firing of T1 leave that so, or end it, which is told once.
use Rattle.std.specs.Prelude.{◌≡◌, ℕ, ◌+◌, ◌≤◌, true, List, [], ◌∷◌}
use Rattle.x25_link.specs.Station.{awaits_end}
use Rattle.x25_link.specs.declared.phase.Closing.TheVariants.{Ended}
use Rattle.x25_link.specs.declared.phase.Ending.{Ending}
use Rattle.x25_link.specs.declared.phase.Phase.TheVariants.{Closed}
use Rattle.x25_station.specs.Config.{Settings}
use Rattle.x25_station.specs.Entry.{disconnected}
use Rattle.x25_station.specs.Station.{Station}
use Rattle.x25_station.specs.Step.{Step, Did, disconnects, fires, receives}

-- the answer to its DISC is awaited
abbrev pub IsClosing : Station → Type 0
IsClosing s = awaits_end s.link.phase s.link.closing ≡ true

-- whatever the link was
abbrev pub DisconnectIsAwaited : Type 0
DisconnectIsAwaited = (c : Settings) (s : Station) (step : Step) → c.wide ≡ true → disconnects c s ≡ Did step
    → IsClosing step.near × (step.near.link.tries ≡ 0)

-- It is awaited still, so many tries are taken more, of N2, and nothing is told; or it ended, which alone is told.
pub data Closes (c : Settings) (s : Station) (count : ℕ) (step : Step) : Type 0 where
  awaits : IsClosing step.near → step.near.link.tries ≡ s.link.tries + count
      → (count ≡ 1 → step.near.link.tries ≤ c.retries) → step.entries ≡ [] → Closes c s count step
  ends : (ending : Ending) → step.near.link.phase ≡ Closed → step.near.link.closing ≡ Ended ending
      → step.entries ≡ disconnected ending ∷ [] → Closes c s count step

-- octets take no try, and a firing takes one
abbrev pub HearingCloses : Type 0
HearingCloses = (c : Settings) (s : Station) (octets : List ℕ) → IsClosing s → Closes c s 0 (receives c s octets)

abbrev pub FiringCloses : Type 0
FiringCloses = (c : Settings) (s : Station) (step : Step) → IsClosing s → fires c s ≡ Did step → Closes c s 1 step

-- and T1 runs until then
abbrev pub FiringIsAccepted : Type 0
FiringIsAccepted = (c : Settings) (s : Station) → IsClosing s → (step : Step) × (fires c s ≡ Did step)
