-- What a switch asks of the station of a line, and what its calls are then.
use Rattle.std.specs.Prelude.{◌≡◌, ◌⊎◌, ℕ, List, [], ◌∷◌, Some, Result, Ok, Err, Bool, true, false, ◌==◌}
use Rattle.std.specs.Prelude.{◌||◌, if◌then◌else◌, slice_get, slice_set}
use Rattle.x25_bits.specs.declared.role.Role.{Role}
use Rattle.x25_circuit.specs.Calling.{Clears}
use Rattle.x25_circuit.specs.Params.{Proposal}
use Rattle.x25_crossing.specs.Crossing.{two_of}
use Rattle.x25_crossing.specs.Told.{refused, told_at}
use Rattle.x25_crossing.specs.declared.side.Side.{Side}
use Rattle.x25_crossing.specs.declared.side.Side.TheVariants.{Far}
use Rattle.x25_layer.specs.Calls.{Asks, Dials}
use Rattle.x25_layer.specs.laws.Transcript.{Said, Asked, Told}
use Rattle.x25_station.specs.Command.{Command, Requests}
use Rattle.x25_station.specs.Entry.{StationEntry, of_channel}
use Rattle.x25_station.specs.Error.{number_of}
use Rattle.x25_station.specs.declared.error.StationError.{StationError}
use Rattle.x25_station.specs.declared.station.Station.{Station}
use Rattle.x25_station.specs.declared.step.Step.{Step}
use Rattle.x25_switch.specs.Calls.{PlainCall, end_of, is_on, with_crossing, vacated, called_on, Sweeps}
use Rattle.x25_switch.specs.Leg.{wanted, accepted}
use Rattle.x25_switch.specs.code.Legs.{Commanded}
use Rattle.x25_switch.specs.declared.leg.Kind.{Kind}
use Rattle.x25_switch.specs.declared.leg.Kind.TheVariants as kind

-- a call that isn't taken is cleared; no leg stands on its channel
pub record IsCleared (line : ℕ) (calls left : List PlainCall) (old new : Station) (out : Step)
    (answer : Result Unit StationError)
    : Type 0 where
  pub channel : ℕ
  pub cause : ℕ
  pub diagnostic : ℕ
  pub done : Commanded old new out answer (Requests (Asks channel (Clears cause diagnostic)))
  pub vacates : left ≡ vacated line channel calls

-- ---- a call is made

-- the channel of the call that was asked for, as the transcript has it
abbrev pub channel_said : ℕ → Said → ℕ
channel_said channel (Asked request) = channel
channel_said channel (Told notice) = 0

abbrev pub channel_of : StationEntry → ℕ
channel_of (of_channel e) = channel_said e.channel e.said
channel_of entry = 0

abbrev pub channel_asked : List StationEntry → ℕ
channel_asked [] = 0
channel_asked (e ∷ es) = channel_of e

-- the cause and the diagnostic of the clear of a call that no line takes, by the number of the last refusal: network
-- congestion, not obtainable, number busy, and out of order
abbrev pub refused_for : ℕ → ℕ × ℕ
refused_for number = if number == 10 || number == 70 then (5, 0) else if number == 34 then (13, 0)
    else if number == 41 then (1, 71) else (9, 0)

-- where the station refuses, the call is as it was, if a line is left, and else is to be cleared
abbrev pub NotMade : ℕ → PlainCall → PlainCall → Type 0
NotMade number old new = (new ≡ old)
    ⊎ (new ≡ with_crossing (told_at Far (refused (refused_for number).0 (refused_for number).1) old.crossing) old)

abbrev pub Makes : ℕ → ℕ → Result Unit StationError → Step → List PlainCall → List PlainCall → Type 0
Makes line n (Ok u) out calls next =
    (call : PlainCall) × (slice_get (vacated line (channel_asked out.entries.items) calls) n ≡ Some call)
    × (next ≡ slice_set (vacated line (channel_asked out.entries.items) calls) n
    (called_on line (channel_asked out.entries.items) call))
Makes line n (Err e) out calls next =
    (call left : PlainCall) × (slice_get calls n ≡ Some call) × NotMade (number_of e) call left
    × (next ≡ slice_set calls n left)

pub record IsMade (line : ℕ) (calls left : List PlainCall) (old new : Station) (out : Step)
    (answer : Result Unit StationError)
    : Type 0 where
  pub called : List ℕ
  pub calling : List ℕ
  pub user : List ℕ
  pub proposal : Proposal
  pub done : Commanded old new out answer (Requests (Dials called calling user proposal))
  pub place : ℕ
  pub made : Makes line place answer out calls left

-- ---- what a call wants at one of its legs, on the channel of that

-- a message that the line can't take ends the call: it is too long there, or D is asked for and may not be
abbrev pub is_too_much : Kind → ℕ → Bool
is_too_much kind.Message number = number == 32 || number == 34
is_too_much what number = false

abbrev pub LeadsTo : Kind → Side → Result Unit StationError → PlainCall → PlainCall → Type 0
LeadsTo what side (Ok u) old new = new ≡ with_crossing (accepted what side old.crossing) old
LeadsTo what side (Err e) old new =
    new ≡ (if is_too_much what (number_of e) then with_crossing (told_at side (refused 17 39) old.crossing) old
    else old)

pub record IsWantedOf (role : Role) (side : Side) (kind : Kind) (call : PlainCall) (old new : Station) (out : Step)
    (answer : Result Unit StationError)
    : Type 0 where
  pub command : Command
  pub is : wanted kind role (end_of side call).channel (two_of side call.crossing) ≡ Some command
  pub done : Commanded old new out answer command

pub record IsWanted (line : ℕ) (role : Role) (calls left : List PlainCall) (old new : Station) (out : Step)
    (answer : Result Unit StationError)
    : Type 0 where
  pub place : ℕ
  pub call : PlainCall
  pub at : slice_get calls place ≡ Some call
  pub side : Side
  pub kind : Kind
  pub on : is_on line side call ≡ true
  pub wanted : IsWantedOf role side kind call old new out answer
  pub after : PlainCall
  pub leads : LeadsTo kind side answer call after
  pub sweeps : Sweeps (slice_set calls place after) left

-- of these calls, which are those then
pub data IsAsked (line : ℕ) (role : Role) (calls left : List PlainCall) (old new : Station) (out : Step)
    (answer : Result Unit StationError)
    : Type 0 where
  Cleared : IsCleared line calls left old new out answer → IsAsked line role calls left old new out answer
  Made : IsMade line calls left old new out answer → IsAsked line role calls left old new out answer
  Wanted : IsWanted line role calls left old new out answer → IsAsked line role calls left old new out answer
