-- What a station that has a clock holds in the midst of an input.
use Rattle.std.specs.Prelude.{◌≡◌, ℕ, Bool, ◌||◌, List, ◌++◌, Option, Result, MatchResult}
use Rattle.x25_clock.specs.declared.times.Times.{Times}
use Rattle.x25_clock.specs.Clock.{plain}
use Rattle.x25_io.specs.code.Written.{AppendsPrefix}
use Rattle.x25_io.specs.declared.fault.Fault.{Fault}
use Rattle.x25_station.specs.Config.{Settings}
use Rattle.x25_pipe.specs.Timed.{Timed, TimedTurn}
use Rattle.x25_pipe.specs.code.Stands.{Stands}
use Rattle.x25_pipe.specs.declared.timed.TimedPipe.{TimedPipe}

-- The writer held `old` at first and holds `now`.
pub record StandsTimed (c : Settings) (times : Times) (old now : Option (List ℕ)) (p : TimedPipe) (w : Timed)
    (told : List ℕ) (refused : Bool) : Type 0 where
  pub pipe : Stands c old now p.pipe w.station told refused
  pub deadlines : plain p.clock ≡ w.deadlines
  pub timers : p.clock.times ≡ times
  pub channels : p.clock.channels ≡ c.channels.count
  pub time : p.now ≡ w.now

-- how it stands, by the turn that led there
abbrev pub StandsTimedAt : Settings → Times → Option (List ℕ) → Option (List ℕ) → TimedPipe → List ℕ → Bool
    → TimedTurn → Type 0
StandsTimedAt c times old now p told refused t =
    StandsTimed c times old now p t.next (told ++ t.text) (refused || t.is_refused)

-- of a turn: it is told, or at a fault a beginning is written
abbrev pub StoodTimed : Settings → Times → Option (List ℕ) → Option (List ℕ) → TimedPipe → List ℕ → Bool
    → Result Unit Fault → TimedTurn → Type 0
StoodTimed c times old now p told refused result t =
    MatchResult result (λ _. StandsTimedAt c times old now p told refused t)
    (λ _. AppendsPrefix old now (told ++ t.text))

-- from each station and clock that it stands for, the turn is made
abbrev pub TurnsTimed : Settings → Times → Option (List ℕ) → Option (List ℕ) → Option (List ℕ) → TimedPipe
    → TimedPipe → Result Unit Fault → (Timed → TimedTurn) → Type 0
TurnsTimed c times old now next p q result turn = (w : Timed) (told : List ℕ) (refused : Bool)
    → StandsTimed c times old now p w told refused
    → StoodTimed c times old next q told refused result (turn w)
