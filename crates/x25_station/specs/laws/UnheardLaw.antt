-- What a station asks while nothing is heard of the other end (profile): no octets come, or UA is awaited, and neither
-- LinkUp nor LinkDown is told. T1 goes on then, and each firing of it and each poll takes a try.
use Rattle.std.specs.Prelude.{◌≡◌, ℕ, ◌+◌, ◌≤◌, true, false}
use Rattle.x25_link.specs.declared.phase.Phase.{Phase}
use Rattle.x25_link.specs.declared.phase.Phase.TheVariants.{Down, Waiting, Up, Closed}
use Rattle.x25_station.specs.Command.{Command, Requests, RequestsWith, Connects, Disconnects, Probes, Relinks}
use Rattle.x25_station.specs.Config.{Settings}
use Rattle.x25_station.specs.Station.{Station}
use Rattle.x25_station.specs.Step.{Outcome, Did, Refused}
use Rattle.x25_station.specs.Timer.{runs, tells_link}
use Rattle.x25_station.specs.laws.TimerLaw as timer
use Rattle.x25_station.specs.laws.TimerLaw.{Comes, Asks, Fires}

-- UA is awaited, or the link is up
abbrev pub MayAsk : Phase → Type 0
MayAsk Down = ⊥
MayAsk Waiting = Unit {0}
MayAsk Up = Unit {0}
MayAsk Closed = ⊥

-- octets come while UA is awaited alone
abbrev pub IsUnheard : Station → timer.StationEvent → Type 0
IsUnheard s (Comes octets) = s.link.phase ≡ Waiting
IsUnheard s (Asks command) = Unit {0}
IsUnheard s Fires = Unit {0}

-- a firing and a poll take one try
abbrev pub tries_for : Command → ℕ
tries_for (Requests request) = 0
tries_for (RequestsWith given request) = 0
tries_for Connects = 0
tries_for Disconnects = 0
tries_for Probes = 1
tries_for Relinks = 0

abbrev pub takes : timer.StationEvent → ℕ
takes (Comes octets) = 0
takes (Asks command) = tries_for command
takes Fires = 1

-- T1 runs on, and runs behind a firing and a poll; no more is acknowledged; and so many tries are taken, of N2
pub record TakesTries (c : Settings) (s next : Station) (count : ℕ) : Type 0 where
  pub goes_on : runs s ≡ true → runs next ≡ true
  pub asked : count ≡ 1 → runs next ≡ true
  pub acked : next.link.outgoing.acked ≡ s.link.outgoing.acked
  pub tries : s.link.tries + count ≤ next.link.tries
  pub few : count ≡ 1 → next.link.tries ≤ c.retries

abbrev pub AsksOn : Settings → Station → ℕ → Outcome → Type 0
AsksOn c s count (Did step) = tells_link step.entries ≡ false → step.near.link.phase ≡ s.link.phase
    → TakesTries c s step.near count
AsksOn c s count (Refused e) = Unit {0}

abbrev pub UnheardAsksOn : Type 0
UnheardAsksOn = (c : Settings) (s : Station) (event : timer.StationEvent) → MayAsk s.link.phase → IsUnheard s event
    → AsksOn c s (takes event) (timer.outcome c s event)
