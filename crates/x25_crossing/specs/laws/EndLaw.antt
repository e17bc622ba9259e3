-- A call ends at both of its legs.
use Rattle.std.specs.Prelude.{◌≡◌, ℕ, Bool, true, false, List, Some}
use Rattle.x25_bits.specs.declared.role.Role.{Role}
use Rattle.x25_crossing.specs.Cause.{clear_goes_on}
use Rattle.x25_crossing.specs.Crossing.{Two}
use Rattle.x25_crossing.specs.Told.{PlainTold, told_two}
use Rattle.x25_crossing.specs.Asking.{asks_of, asked_two}
use Rattle.x25_crossing.specs.declared.ask.Ask.TheVariants as ask
use Rattle.x25_crossing.specs.declared.stage.Stage.{Stage}
use Rattle.x25_crossing.specs.declared.stage.Stage.TheVariants.{Clears, Gone}
use Rattle.x25_crossing.specs.laws.HandingLaw.{Event, after}

-- it is gone, or is to be cleared
abbrev pub has_ended : Stage → Bool
has_ended (Clears cause diagnostic) = true
has_ended Gone = true
has_ended stage = false

-- where one leg has ended, so has the other, whatever happened before
abbrev pub BothEnd : Type 0
BothEnd = (most : ℕ) (es : List Event)
    → has_ended (after most es).call.near.stage ≡ has_ended (after most es).call.far.stage

-- a leg that is gone stays so, and its end tells the other one nothing
abbrev pub GoneIsStill : Type 0
GoneIsStill = (two : Two) (told : PlainTold) → two.this.stage ≡ Gone → told_two told two ≡ two

-- one that is to be cleared is asked to be once what waits for it has lingered, and is gone then
abbrev pub LingeringEnds : Type 0
LingeringEnds = (role : Role) (two : Two) (cause diagnostic : ℕ) → two.this.stage ≡ Clears cause diagnostic
    → (asks_of role (told_two PlainTold.lingered two) ≡ Some (ask.Clear (clear_goes_on role cause) diagnostic))
    × ((asked_two (told_two PlainTold.lingered two)).this.stage ≡ Gone)
