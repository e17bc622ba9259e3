-- What a call leaves in the place where C holds a station, and the number that it answers (profile).
use Rattle.std.specs.Prelude.{true, false, ◌≡◌, ◌⊎◌, ℕ, List, Option, Some, None, IsSomeAnd, Result, Ok, Err}
use Rattle.x25_bits.specs.declared.role.Role.{Role}
use Rattle.x25_clock.specs.declared.times.Times.{Times}
use Rattle.x25_clock.specs.Times.{standard}
use Rattle.x25_script.specs.ScriptLine.{PlainCommand}
use Rattle.x25_station.specs.declared.error.StationError.{StationError}
use Rattle.x25_station.specs.declared.error.StationError.TheVariants.{BadConfig}
use Rattle.x25_station.specs.declared.config.Cfg.{Cfg}
use Rattle.x25_station.specs.declared.timer.Timer.{Timer}
use Rattle.x25_station.specs.declared.timer.Timer.TheVariants.{Off, Begins, GoesOn}
use Rattle.x25_station.specs.Error.{number_of}
use Rattle.x25_station.specs.laws.TimerLaw.{StationEvent}
use Rattle.x25_c.specs.declared.held.Held.{Held}
use Rattle.x25_c.specs.declared.times.Times as c
use Rattle.x25_c.specs.Clocked.{is_before, times_told}
use Rattle.x25_c.specs.Held.{IsAlone}
use Rattle.x25_c.specs.Making.{role_of, making_refusal}
use Rattle.x25_c.specs.code.Happens.{DoesCommand, HappensTo, IsNew}
use Rattle.x25_c.specs.code.Clocks.{Passes, Sets}
use Rattle.x25_c.specs.code.Receives.{ReceivesAll}

-- the number of a result: 0, or that of its error
abbrev pub number_in : Result Unit StationError → ℕ
number_in (Ok u) = 0
number_in (Err e) = number_of e

-- the number of what becomes of T1
abbrev pub number_of_timer : Timer → ℕ
number_of_timer Off = 0
number_of_timer Begins = 1
number_of_timer GoesOn = 2

-- a call of a station that is held does what the definition says of it, and answers the number of how it ended
abbrev pub AnswersOne : Held → Held → ℕ → StationEvent → Type 0
AnswersOne old new number event =
    (r : Result Unit StationError) × (number ≡ number_in r) × HappensTo old new r event × IsAlone new
    × (new.passed ≡ None)

-- where none is held, a call answers 16 and holds none behind it
abbrev pub Answers : Option Held → Option Held → ℕ → StationEvent → Type 0
Answers None None number event = number ≡ 16
Answers None (Some new) number event = ⊥
Answers (Some old) None number event = ⊥
Answers (Some old) (Some new) number event = AnswersOne old new number event

-- so does a command that is spelled; where none is, 60 is the answer, and the station is as before
abbrev pub CommandsOne : Held → Held → ℕ → Option PlainCommand → Type 0
CommandsOne old new number None = (number ≡ 60) × (new ≡ old)
CommandsOne old new number (Some asked) = (r : Result Unit StationError) × (number ≡ number_in r)
    × DoesCommand old new r asked

abbrev pub Commands : Option Held → Option Held → ℕ → Option PlainCommand → Type 0
Commands None None number asked = number ≡ 16
Commands None (Some new) number asked = ⊥
Commands (Some old) None number asked = ⊥
Commands (Some old) (Some new) number asked = CommandsOne old new number asked

abbrev pub RefusesNumber : ℕ → Option StationError → Type 0
RefusesNumber number None = number ≡ 70
RefusesNumber number (Some e) = number ≡ number_of e

-- why no station is made, but for want of memory: a setting that isn't known, or one out of its range
abbrev pub refusal_in : ℕ → Option Cfg → Option StationError
refusal_in end None = Some BadConfig
refusal_in end (Some cfg) = making_refusal end cfg

-- A station is made where none was held, or the number says why not: 17 where one was held, else that of a bad setting,
-- and else 70 alone.
abbrev pub Makes : Option Held → Option Held → ℕ → ℕ → Option Cfg → Type 0
Makes (Some old) new number end cfg = (number ≡ 17) × (new ≡ Some old)
Makes None None number end cfg = RefusesNumber number (refusal_in end cfg)
Makes None (Some new) number end cfg = (number ≡ 0)
    × IsSomeAnd cfg (λ known. IsSomeAnd (role_of end) (λ role. IsNew role known new))

-- frames that came one behind another: each is received, up to one that is refused; the number says why
abbrev pub AnswersAll : List ℕ → List ℕ → Option Held → Option Held → ℕ → ℕ → Type 0
AnswersAll octets counts None None taken number = number ≡ 16
AnswersAll octets counts None (Some new) taken number = ⊥
AnswersAll octets counts (Some old) None taken number = ⊥
AnswersAll octets counts (Some old) (Some new) taken number = ReceivesAll octets counts old new taken number

-- ---- a clock

-- a station is given a clock, or memory is refused and all is as before
abbrev pub AnswersSet : Option Held → Option Held → ℕ → Times → Type 0
AnswersSet None None number times = number ≡ 16
AnswersSet None (Some new) number times = ⊥
AnswersSet (Some old) None number times = ⊥
AnswersSet (Some old) (Some new) number times = ((number ≡ 70) × (new ≡ old)) ⊎ ((number ≡ 0) × Sets old new times)

-- a time before the one that was said last is refused, and all is as before
abbrev pub TimesOne : Held → Held → ℕ → ℕ → Type 0
TimesOne old new number now = ((is_before now old.time ≡ true) × (number ≡ 34) × (new ≡ old))
    ⊎ ((is_before now old.time ≡ false)
    × ((r : Result Unit StationError) × (number ≡ number_in r) × Passes old new r now))

abbrev pub AnswersTime : Option Held → Option Held → ℕ → ℕ → Type 0
AnswersTime None None number now = number ≡ 16
AnswersTime None (Some new) number now = ⊥
AnswersTime (Some old) None number now = ⊥
AnswersTime (Some old) (Some new) number now = TimesOne old new number now

-- the times of Annex D for an end, where the number is that of one
abbrev pub Standard : Option Role → ℕ → c.Times → c.Times → Type 0
Standard None number old new = (number ≡ 14) × (new ≡ old)
Standard (Some end) number old new = (number ≡ 0) × (new ≡ times_told (standard end))
