-- The calls of a switch, as values alone, and to which of them what a station tells is told.
use Rattle.std.specs.Prelude.{◌≡◌, ℕ, zero, suc, ◌+◌, ◌≤◌, ◌==◌, Bool, true, false, ◌&&◌, ◌||◌, if◌then◌else◌, List, []}
use Rattle.std.specs.Prelude.{◌∷◌, ◌++◌, Option, Some, None}
use Rattle.x25_crossing.specs.Crossing.{PlainCrossing, leg_at}
use Rattle.x25_crossing.specs.Asking.{asked_at, is_over}
use Rattle.x25_crossing.specs.Told.{PlainTold, ended, lingered, told_at, lacks_at}
use Rattle.x25_crossing.specs.declared.side.Side.{Side}
use Rattle.x25_crossing.specs.declared.side.Side.TheVariants.{Near, Far}
use Rattle.x25_crossing.specs.declared.stage.Stage.{Stage}
use Rattle.x25_crossing.specs.declared.stage.Stage.TheVariants.{Calls, Clears, Gone}
use Rattle.x25_switch.specs.declared.call.End.{End}

-- where its legs are, on which channel of which line; how it stands; and whether what waits for a leg that is to be
-- cleared is dropped next
pub record PlainCall : Type 0 where
  pub near : End
  pub far : End
  pub crossing : PlainCrossing
  pub lingers : Bool

abbrev pub end_of : Side → PlainCall → End
end_of Near c = c.near
end_of Far c = c.far

-- a leg that is to be called, or is gone, has no channel
abbrev pub stands : Stage → Bool
stands Calls = false
stands Gone = false
stands stage = true

abbrev pub is_leg : ℕ → ℕ → Side → PlainCall → Bool
is_leg line channel side c = stands (leg_at side c.crossing).stage
    && ((end_of side c).line == line && (end_of side c).channel == channel)

abbrev pub leg_of : ℕ → ℕ → PlainCall → Option Side
leg_of line channel c = if is_leg line channel Near c then Some Near
    else if is_leg line channel Far c then Some Far else None

abbrev pub with_crossing : PlainCrossing → PlainCall → PlainCall
with_crossing x c = record { near = c.near; far = c.far; crossing = x; lingers = c.lingers }

-- the first call that has a leg on this channel of this line, and which leg
abbrev pub further : Option (ℕ × Side) → Option (ℕ × Side)
further None = None
further (Some found) = Some (suc found.0, found.1)

abbrev pub place_by : Option Side → Option (ℕ × Side) → Option (ℕ × Side)
place_by (Some side) rest = Some (0, side)
place_by None rest = further rest

abbrev pub place_of : ℕ → ℕ → List PlainCall → Option (ℕ × Side)
place_of line channel [] = None
place_of line channel (c ∷ cs) = place_by (leg_of line channel c) (place_of line channel cs)

-- it is changed there, and no other is
abbrev pub changed_nth : (Side → PlainCrossing → PlainCrossing) → Side → ℕ → List PlainCall → List PlainCall
changed_nth change side n [] = []
changed_nth change side zero (c ∷ cs) = with_crossing (change side c.crossing) c ∷ cs
changed_nth change side (suc n) (c ∷ cs) = c ∷ changed_nth change side n cs

abbrev pub changed_at : (Side → PlainCrossing → PlainCrossing) → Option (ℕ × Side) → List PlainCall → List PlainCall
changed_at change None cs = cs
changed_at change (Some found) cs = changed_nth change found.1 found.0 cs

-- what is told there, and where memory is refused for it
abbrev pub told_in : ℕ → ℕ → PlainTold → List PlainCall → List PlainCall
told_in line channel told cs = changed_at (λ side x. told_at side told x) (place_of line channel cs) cs

abbrev pub lacks_in : ℕ → ℕ → List PlainCall → List PlainCall
lacks_in line channel cs = changed_at (λ side x. lacks_at side x) (place_of line channel cs) cs

-- at each leg on a line
abbrev pub is_on : ℕ → Side → PlainCall → Bool
is_on line side c = stands (leg_at side c.crossing).stage && (end_of side c).line == line

abbrev pub lost_leg : PlainTold → ℕ → Side → PlainCall → PlainCall
lost_leg told line side c = if is_on line side c then with_crossing (told_at side told c.crossing) c else c

abbrev pub lost_call : PlainTold → ℕ → PlainCall → PlainCall
lost_call told line c = lost_leg told line Far (lost_leg told line Near c)

-- ---- a leg is lost where its station tells of another call on its channel, or has made one there: so no two stand on
-- one channel

abbrev pub vacated : ℕ → ℕ → List PlainCall → List PlainCall
vacated line channel cs = told_in line channel (ended 9 0) cs

abbrev pub bit : Bool → ℕ
bit true = 1
bit false = 0

abbrev pub legs_of : ℕ → ℕ → PlainCall → ℕ
legs_of line channel c = bit (is_leg line channel Near c) + bit (is_leg line channel Far c)

-- how many legs stand on this channel of this line
abbrev pub legs_in : ℕ → ℕ → List PlainCall → ℕ
legs_in line channel [] = 0
legs_in line channel (c ∷ cs) = legs_of line channel c + legs_in line channel cs

abbrev pub AreApart : List PlainCall → Type 0
AreApart cs = (line channel : ℕ) → legs_in line channel cs ≤ 1

-- ---- the far leg is called, on this channel of a line

abbrev pub called_on : ℕ → ℕ → PlainCall → PlainCall
called_on line channel c = record {
  near = c.near;
  far = record { line = line; channel = channel };
  crossing = asked_at Far c.crossing;
  lingers = c.lingers;
}

-- ---- time passes: what waits for a leg that is to be cleared is dropped, where it did so at the last time

abbrev pub is_cleared_next : Stage → Bool
is_cleared_next (Clears cause diagnostic) = true
is_cleared_next stage = false

abbrev pub dropped : PlainCall → PlainCall
dropped c = if c.lingers then with_crossing (told_at Far lingered (told_at Near lingered c.crossing)) c else c

abbrev pub marked : PlainCall → PlainCall
marked c = record {
  near = c.near;
  far = c.far;
  crossing = c.crossing;
  lingers = is_cleared_next c.crossing.near.stage || is_cleared_next c.crossing.far.stage;
}

abbrev pub lingered_call : PlainCall → PlainCall
lingered_call c = marked (dropped c)

-- ---- one that is over is let go, or none

pub data Sweeps (old new : List PlainCall) : Type 0 where
  None_is : new ≡ old → Sweeps old new
  One_is : (front back : List PlainCall) (c : PlainCall) → is_over c.crossing ≡ true → old ≡ front ++ c ∷ back
      → new ≡ front ++ back → Sweeps old new

-- ---- what is known of a call at a place

abbrev pub Holds : (PlainCall → Type 0) → Option PlainCall → Type 0
Holds Known None = ⊥
Holds Known (Some c) = Known c
