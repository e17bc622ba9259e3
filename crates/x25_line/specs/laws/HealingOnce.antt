-- Healing of a link that is set up once, where timer T1 may run out at any moment.
use Rattle.std.specs.Prelude.{◌≡◌, false, true, List, [], ◌∷◌, length}
use Rattle.x25_link.specs.{Station.{LinkSettings, is_up}, Link.{timer_runs}, laws.RestLaw.{IsAtRest}}
use Rattle.x25_line.specs.{laws.Stations.{StationEnd, Stations, T1, LinkEvent, Near, Far, happens, run}}
use Rattle.x25_line.specs.laws.StationClaims.{Each}
use Rattle.x25_line.specs.Healing.{IsDelivery, OneIsFree, HasTries, IsAtRestOrOut}
use Rattle.x25_line.specs.laws.HealingPuts.{IsDeliveryOrPut, AreFree, FreeAt, LinkMayHeal}

-- The giver is at rest. All that was handed down to it was handed up at the other end, and both count alike.
pub record IsHealed (giver taker : StationEnd) : Type 0 where
  pub rest : IsAtRest giver.station
  pub handed_up : taker.up ≡ giver.down
  pub acked : giver.station.outgoing.acked ≡ length giver.down
  pub sent : giver.station.outgoing.sent ≡ length giver.down

-- an end that is Up and whose timer T1 doesn't run is at rest, and everything of it has arrived
abbrev pub ShowsRest : StationEnd → StationEnd → Type 0
ShowsRest giver taker = is_up giver.station.phase ≡ true → timer_runs giver.station.phase giver.station ≡ false
    → IsHealed giver taker

-- whatever is on the line
abbrev pub RestShows : LinkSettings → LinkSettings → Stations → Type 0
RestShows c d w = ShowsRest w.near w.far × ShowsRest w.far w.near

-- Each end is at rest or not Up; and if both were Up, with tries left where T1 ran, everything has arrived.
pub record EachHeals (c d : LinkSettings) (w v : Stations) : Type 0 where
  pub near : IsAtRestOrOut v.near.station
  pub far : IsAtRestOrOut v.far.station
  pub healed : HasTries c.retries w.near.station → HasTries d.retries w.far.station
      → IsHealed v.near v.far × IsHealed v.far v.near

-- whatever the ends are, but for two that are both busy
abbrev pub HealsUnlessBothBusy : LinkSettings → LinkSettings → Stations → Type 0
HealsUnlessBothBusy c d w = w.out ≡ [] → w.back ≡ [] → OneIsFree w.near.station w.far.station
    → (deliveries : List LinkEvent) → Each IsDelivery deliveries
    → (let v = run c d (Near T1 ∷ Far T1 ∷ deliveries) w in v.out ≡ [] → v.back ≡ [] → EachHeals c d w v)

-- neither end is busy at each delivery of a run, and at its end
abbrev pub FreeThroughout : LinkSettings → LinkSettings → List LinkEvent → Stations → Type 0
FreeThroughout c d [] w = AreFree w.near.station w.far.station
FreeThroughout c d (e ∷ es) w = FreeAt e w.near.station w.far.station × FreeThroughout c d es (happens c d e w)

-- while packets are put: all that was ever handed down at either end, these packets too, has been handed up
abbrev pub PutsHeal : LinkSettings → LinkSettings → Stations → Type 0
PutsHeal c d w = w.out ≡ [] → w.back ≡ [] → LinkMayHeal c.retries w.near.station → LinkMayHeal d.retries w.far.station
    → (more : List LinkEvent) → Each IsDeliveryOrPut more
    → (let fired = run c d (Near T1 ∷ Far T1 ∷ []) w in FreeThroughout c d more fired
    → (let v = run c d more fired in v.out ≡ [] → v.back ≡ [] → IsHealed v.near v.far × IsHealed v.far v.near))
