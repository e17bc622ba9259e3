-- Frames that come one behind another in one call (profile).
use Rattle.std.specs.Prelude.{◌≡◌, ◌⊎◌, ℕ, zero, suc, ◌<◌, List, None, take, drop, length, get_or, sum, Ok}
use Rattle.x25_station.specs.code.FitsStation.{FitsStill}
use Rattle.x25_station.specs.laws.TimerLaw.{Comes}
use Rattle.x25_c.specs.declared.held.Held.{Held}
use Rattle.x25_c.specs.Held.{Whole, whole_of, part_of, and_then, no_answer}
use Rattle.x25_c.specs.code.Happens.{HappensTo}

-- the octets of the frame in a place, of octets of which each frame has so many
abbrev pub frame_at : List ℕ → List ℕ → ℕ → List ℕ
frame_at octets counts place = take (get_or counts place 0) (drop (sum (take place counts)) octets)

-- the clock and its time are as before
pub record IsClocked (old new : Held) : Type 0 where
  pub clock : new.clock ≡ old.clock
  pub time : new.time ≡ old.time

-- so many frames from the first on, each as if it came alone, and what was answered to all of them
abbrev pub Received : List ℕ → List ℕ → ℕ → Held → Held → Whole → Type 0
Received octets counts zero old new whole =
    FitsStill old.station new.station × (new.end ≡ old.end) × (whole ≡ no_answer) × IsClocked old new
Received octets counts (suc place) old new whole = (mid : Held) × (before : Whole)
    × Received octets counts place old mid before × HappensTo mid new (Ok tt) (Comes (frame_at octets counts place))
    × (whole ≡ and_then before (part_of new.step))

-- why it ended there: all came; the octets of the next aren't there; or memory is refused for what was answered before
abbrev pub EndsFor : List ℕ → List ℕ → ℕ → ℕ → Type 0
EndsFor octets counts taken number =
    ((taken ≡ length counts) × (number ≡ 0))
    ⊎ ((taken < length counts) × (((number ≡ 34) × (length octets < sum (take (suc taken) counts))) ⊎ (number ≡ 70)))

-- The frames that were taken leave the station, and their answers are all that is answered.
unfoldable pub ReceivesAll : List ℕ → List ℕ → Held → Held → ℕ → ℕ → Type 0
ReceivesAll octets counts old new taken number =
    (mid : Held) × Received octets counts taken old mid (whole_of new) × FitsStill mid.station new.station
    × (new.end ≡ mid.end) × EndsFor octets counts taken number × IsClocked mid new × (new.passed ≡ None)
