-- Healing: once the line is good for a moment, everything arrives. Nothing is on the line; timer T1 runs out once at
-- each end where it runs; and then all that is on the line comes, in any order of the two directions, while nothing is
-- lost.
use Rattle.std.specs.Prelude.{◌≡◌, ℕ, ◌<◌, ◌≤◌, ◌⊎◌, false, true, List, [], ◌∷◌, length}
use Rattle.x25_link.specs.{Station.{LinkSettings, LinkStation, is_up, is_busy}, Link.{timer_runs}}
use Rattle.x25_link.specs.laws.RestLaw.{IsAtRest}
use Rattle.x25_line.specs.{laws.Stations.{Act, Deliver, T1, LinkEvent, Near, Far}, laws.StationClaims.{AreJoined}}
use Rattle.x25_line.specs.laws.Sessions.{Sessions, Meeting, IsStart, happens, run}
use Rattle.x25_line.specs.laws.SessionClaims.{Each, SomeMet, Throughout}

-- ---- deliveries

abbrev pub IsDeliver : Act → Type 0
IsDeliver Deliver = Unit {0}
IsDeliver act = ⊥

-- the front octets come at either end
abbrev pub IsDelivery : LinkEvent → Type 0
IsDelivery (Near act) = IsDeliver act
IsDelivery (Far act) = IsDeliver act

-- ---- what rest shows

-- An end that is Up and whose timer T1 doesn't run is at rest. Where the other end is Up too or met its session, all
-- that was handed down in this session was handed up in the latest session of the other.
pub record EachRestShows (c d : LinkSettings) (w : Sessions) : Type 0 where
  pub near : is_up w.near.station.phase ≡ true → timer_runs w.near.station.phase w.near.station ≡ false
      → IsAtRest w.near.station × ((is_up w.far.station.phase ≡ true)
      ⊎ SomeMet (λ (m : Meeting). m.near ≡ w.near.begun) w.met → w.far.up w.far.begun ≡ w.near.down w.near.begun)
  pub far : is_up w.far.station.phase ≡ true → timer_runs w.far.station.phase w.far.station ≡ false
      → IsAtRest w.far.station × ((is_up w.near.station.phase ≡ true)
      ⊎ SomeMet (λ (m : Meeting). m.far ≡ w.far.begun) w.met → w.near.up w.near.begun ≡ w.far.down w.far.begun)

-- ---- both fire, and all comes

abbrev pub OneIsFree : LinkStation → LinkStation → Type 0
OneIsFree s t = (is_busy s ≡ false) ⊎ (is_busy t ≡ false)

-- an end is Up; where its timer T1 runs, it has tries left
pub record HasTries (retries : ℕ) (s : LinkStation) : Type 0 where
  pub up : is_up s.phase ≡ true
  pub tries : timer_runs s.phase s ≡ true → s.tries < retries

abbrev pub IsAtRestOrOut : LinkStation → Type 0
IsAtRestOrOut s = IsAtRest s ⊎ (is_up s.phase ≡ false)

-- Both ends are at rest, in the same sessions as before, and all that was handed down in these has been handed up at
-- the other end.
pub record SessionsAreHealed (w v : Sessions) : Type 0 where
  pub near_rest : IsAtRest v.near.station
  pub far_rest : IsAtRest v.far.station
  pub near_session : v.near.begun ≡ w.near.begun
  pub far_session : v.far.begun ≡ w.far.begun
  pub there : v.far.up w.far.begun ≡ w.near.down w.near.begun
  pub back : v.near.up w.near.begun ≡ w.far.down w.far.begun

-- Each end is at rest or not Up; and if both were Up, with tries left where T1 ran, both are at rest in their sessions,
-- and everything has arrived.
pub record EachSessionHeals (c d : LinkSettings) (w v : Sessions) : Type 0 where
  pub near : IsAtRestOrOut v.near.station
  pub far : IsAtRestOrOut v.far.station
  pub healed : HasTries c.retries w.near.station → HasTries d.retries w.far.station → SessionsAreHealed w v

-- whatever the ends are, but for two that are both busy
abbrev pub SessionsHealUnlessBothBusy : Type 0
SessionsHealUnlessBothBusy = Throughout (λ (c d : LinkSettings) (w : Sessions).
    w.out ≡ [] → w.back ≡ [] → OneIsFree w.near.station w.far.station
    → (deliveries : List LinkEvent) → Each IsDelivery deliveries
    → (let v = run c d (Near T1 ∷ Far T1 ∷ deliveries) w in v.out ≡ [] → v.back ≡ [] → EachSessionHeals c d w v))

-- ---- each line drains, whenever timer T1 runs out

-- octets are there for each delivery
abbrev pub FindsIn : LinkEvent → Sessions → Type 0
FindsIn (Near act) w = w.back ≡ [] → ⊥
FindsIn (Far act) w = w.out ≡ [] → ⊥

abbrev pub EachFindsIn : LinkSettings → LinkSettings → List LinkEvent → Sessions → Type 0
EachFindsIn c d [] w = Unit {0}
EachFindsIn c d (e ∷ es) w = FindsIn e w × EachFindsIn c d es (happens c d e w)

-- each world that events lead to bounds how many deliveries find octets, in whichever order
abbrev pub SessionsDrainEnd : Type 0
SessionsDrainEnd =
    (c d : LinkSettings) → AreJoined c d → (begin : Sessions) → IsStart begin
    → (events : List LinkEvent)
    → (let w = run c d events begin in (most : ℕ)
    × ((deliveries : List LinkEvent) → Each IsDelivery deliveries → EachFindsIn c d deliveries w
    → length deliveries ≤ most))

-- so there are deliveries that drain its line
abbrev pub SomeSessionsDrain : Type 0
SomeSessionsDrain =
    (c d : LinkSettings) → AreJoined c d → (begin : Sessions) → IsStart begin
    → (events : List LinkEvent)
    → (deliveries : List LinkEvent) × Each IsDelivery deliveries
    × (let v = run c d deliveries (run c d events begin) in (v.out ≡ []) × (v.back ≡ []))
