-- A station whose link is up asks, or its link is at rest (profile): whatever comes and whatever is asked, from a new
-- station on.
use Rattle.std.specs.Prelude.{◌≡◌, ℕ, ◌≤◌, [], true, ◌||◌}
use Rattle.x25_link.specs.Station.{is_up}
use Rattle.x25_link.specs.laws.RestLaw.{HasSaidAll}
use Rattle.x25_link.specs.laws.WindowLaw.{IsSound}
use Rattle.x25_layer.specs.code.FitsLayer.{awaited_at}
use Rattle.x25_station.specs.Config.{Settings, layer_settings}
use Rattle.x25_station.specs.Station.{Station, new_station}
use Rattle.x25_station.specs.Station.Told.{is_at_rest}
use Rattle.x25_station.specs.Pulling.{pulled}
use Rattle.x25_station.specs.Step.{Step, Outcome, Did, Refused}
use Rattle.x25_station.specs.Timer.{runs}
use Rattle.x25_station.specs.laws.TimerLaw as timer

-- nothing is left that its link may send, and its window is sound
pub record IsSettled (c : Settings) (s : Station) : Type 0 where
  pub said : HasSaidAll c.window s.link
  pub sound : is_up s.link.phase ≡ true → IsSound c.window s.link.outgoing

-- a refusal changes nothing
abbrev pub SettledBy : Settings → Outcome → Type 0
SettledBy c (Did step) = IsSettled c step.near
SettledBy c (Refused e) = Unit {0}

abbrev pub NewIsSettled : Type 0
NewIsSettled = (c : Settings) → IsSettled c new_station

abbrev pub StaysSettled : Type 0
StaysSettled = (c : Settings) (s : Station) (event : timer.StationEvent) → c.window ≤ 7 → IsSettled c s
    → SettledBy c (timer.outcome c s event)

abbrev pub SettledAsks : Type 0
SettledAsks = (c : Settings) (s : Station) → 1 ≤ c.window → IsSettled c s → is_up s.link.phase ≡ true
    → (runs s || is_at_rest s) ≡ true

-- What is pulled tells nothing and acknowledges nothing, leaves all that is awaited, and brings no link to rest.
pub record GoesOn (c : Settings) (s : Station) (pulls : Step) : Type 0 where
  pub told : pulls.entries ≡ []
  pub restarting : pulls.near.layer.restarting ≡ s.layer.restarting
  pub awaits : (h : ℕ) → awaited_at (layer_settings c) pulls.near.layer h ≡ awaited_at (layer_settings c) s.layer h
  pub acked : pulls.near.link.outgoing.acked ≡ s.link.outgoing.acked
  pub rests : is_at_rest pulls.near ≡ true → is_at_rest s ≡ true

abbrev pub PullsGoOn : Type 0
PullsGoOn = (c : Settings) (s : Station) → IsSettled c s → GoesOn c s (pulled c s)
