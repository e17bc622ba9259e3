-- Healing while packets are handed down: both ends fire, and then what is on the line comes and packets are put, in any
-- order, while nothing is lost.
use Rattle.std.specs.Prelude.{◌≡◌, ◌<◌, ℕ, true, false, List, [], ◌∷◌}
use Rattle.x25_link.specs.{Station.{LinkSettings, LinkStation, is_up, is_busy}, Link.{timer_runs}}
use Rattle.x25_link.specs.laws.RestLaw.{IsAtRest}
use Rattle.x25_line.specs.laws.Stations.{Act, Put, Deliver, T1, LinkEvent, Near, Far}
use Rattle.x25_line.specs.{laws.Sessions.{Sessions, happens, run}, laws.SessionClaims.{Each, Throughout}}

-- ---- deliveries and puts

abbrev pub IsDeliverOrPut : Act → Type 0
IsDeliverOrPut Deliver = Unit {0}
IsDeliverOrPut (Put packet) = Unit {0}
IsDeliverOrPut act = ⊥

-- the front octets come at either end, or a packet is handed down there
abbrev pub IsDeliveryOrPut : LinkEvent → Type 0
IsDeliveryOrPut (Near act) = IsDeliverOrPut act
IsDeliveryOrPut (Far act) = IsDeliverOrPut act

-- ---- neither end is busy

abbrev pub AreFree : LinkStation → LinkStation → Type 0
AreFree s t = (is_busy s ≡ false) × (is_busy t ≡ false)

-- as octets come
abbrev pub FreeAsItComes : Act → LinkStation → LinkStation → Type 0
FreeAsItComes Deliver s t = AreFree s t
FreeAsItComes act s t = Unit {0}

abbrev pub FreeAt : LinkEvent → LinkStation → LinkStation → Type 0
FreeAt (Near act) s t = FreeAsItComes act s t
FreeAt (Far act) s t = FreeAsItComes act s t

abbrev pub SessionsFreeThroughout : LinkSettings → LinkSettings → List LinkEvent → Sessions → Type 0
SessionsFreeThroughout c d [] w = AreFree w.near.station w.far.station
SessionsFreeThroughout c d (e ∷ es) w = FreeAt e w.near.station w.far.station
    × SessionsFreeThroughout c d es (happens c d e w)

-- ---- healing

-- An end is Up, and isn't busy. Where its timer T1 runs, it has tries left.
pub record LinkMayHeal (retries : ℕ) (s : LinkStation) : Type 0 where
  pub up : is_up s.phase ≡ true
  pub free : is_busy s ≡ false
  pub tries : timer_runs s.phase s ≡ true → s.tries < retries

-- Both ends are at rest, in the same sessions as before, and all that was handed down in these, then and since, has
-- been handed up at the other end.
pub record SessionsHaveArrived (w v : Sessions) : Type 0 where
  pub near_rest : IsAtRest v.near.station
  pub far_rest : IsAtRest v.far.station
  pub near_session : v.near.begun ≡ w.near.begun
  pub far_session : v.far.begun ≡ w.far.begun
  pub there : v.far.up w.far.begun ≡ v.near.down w.near.begun
  pub back : v.near.up w.near.begun ≡ v.far.down w.far.begun

-- Both ends are Up and neither is busy, with tries left where T1 runs, and nothing is on the line. Both fire, and then
-- all that is on the line comes, while packets are put at either end, until nothing is on the line.
abbrev pub PutsHealSessions : Type 0
PutsHealSessions = Throughout (λ (c d : LinkSettings) (w : Sessions).
    w.out ≡ [] → w.back ≡ [] → LinkMayHeal c.retries w.near.station → LinkMayHeal d.retries w.far.station
    → (more : List LinkEvent) → Each IsDeliveryOrPut more
    → (let fired = run c d (Near T1 ∷ Far T1 ∷ []) w in SessionsFreeThroughout c d more fired
    → (let v = run c d more fired in v.out ≡ [] → v.back ≡ [] → SessionsHaveArrived w v)))
