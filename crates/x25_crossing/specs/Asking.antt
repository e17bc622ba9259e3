-- What is to be asked of the station of a leg, by how the call stands, and what becomes of the call where the station
-- accepts it.
use Rattle.std.specs.Prelude.{List, [], ◌∷◌, drop, Option, Some, None, Bool, true, false, not, ◌&&◌}
use Rattle.std.specs.Prelude.{if◌then◌else◌, slice_get}
use Rattle.x25_bits.specs.declared.role.Role.{Role}
use Rattle.x25_circuit.specs.Message.{Message}
use Rattle.x25_relay.specs.Relay.{is_slow}
use Rattle.x25_crossing.specs.Cause.{clear_goes_on, reset_goes_on}
use Rattle.x25_crossing.specs.Crossing.{PlainLeg, Two, PlainCrossing, two_of, of_two}
use Rattle.x25_crossing.specs.Told.{at_stage}
use Rattle.x25_crossing.specs.declared.ask.Ask.{Ask}
use Rattle.x25_crossing.specs.declared.ask.Ask.TheVariants as ask
use Rattle.x25_crossing.specs.declared.ask.Flow.{Flow}
use Rattle.x25_crossing.specs.declared.ask.Flow.TheVariants.{Ready, NotReady}
use Rattle.x25_crossing.specs.declared.side.Side.{Side}
use Rattle.x25_crossing.specs.declared.stage.Stage.{Stage}
use Rattle.x25_crossing.specs.declared.stage.Stage.TheVariants.{Calls, Called, Answers, Open, Resets, Resetting}
use Rattle.x25_crossing.specs.declared.stage.Stage.TheVariants.{Clears, Gone}

abbrev pub none_wait : {T : Type 0} → List T → Bool
none_wait [] = true
none_wait (m ∷ ms) = false

-- nothing that came by a leg waits
abbrev pub is_done : PlainLeg → Bool
is_done x = none_wait x.messages && none_wait x.interrupts

-- ---- a call, an acceptance, a reset, and once what waits for it has gone out a clear

abbrev pub asks_in : Role → Stage → PlainLeg → Option Ask
asks_in role Calls other = Some ask.Call
asks_in role Answers other = Some ask.Accept
asks_in role (Resets cause diagnostic) other = Some (ask.Reset (reset_goes_on role cause) diagnostic)
asks_in role (Clears cause diagnostic) other =
    if is_done other then Some (ask.Clear (clear_goes_on role cause) diagnostic) else None
asks_in role stage other = None

abbrev pub asks_of : Role → Two → Option Ask
asks_of role two = asks_in role two.this.stage two.other

abbrev pub stage_asked : Stage → Stage
stage_asked Calls = Called
stage_asked Answers = Open
stage_asked (Resets cause diagnostic) = Resetting
stage_asked (Clears cause diagnostic) = Gone
stage_asked stage = stage

abbrev pub asked_two : Two → Two
asked_two two = record { this = at_stage (stage_asked two.this.stage) two.this; other = two.other }

-- ---- the first of what came by the other leg

abbrev pub goes_out : Stage → Bool
goes_out Open = true
goes_out (Clears cause diagnostic) = true
goes_out stage = false

abbrev pub first_of : Stage → List Message → Option Message
first_of stage ms = if goes_out stage then slice_get ms 0 else None

abbrev pub passed_on : Stage → List Message → List Message
passed_on stage ms = if goes_out stage then drop 1 ms else ms

abbrev pub message_of : Two → Option Message
message_of two = first_of two.this.stage two.other.messages

abbrev pub interrupt_of : Two → Option Message
interrupt_of two = first_of two.this.stage two.other.interrupts

abbrev pub sent_two : Two → Two
sent_two two = record {
  this = two.this;
  other = record {
    stage = two.other.stage;
    messages = passed_on two.this.stage two.other.messages;
    interrupts = two.other.interrupts;
    slowed = two.other.slowed;
    most = two.other.most;
  };
}

abbrev pub interrupt_sent_two : Two → Two
interrupt_sent_two two = record {
  this = two.this;
  other = record {
    stage = two.other.stage;
    messages = two.other.messages;
    interrupts = passed_on two.this.stage two.other.interrupts;
    slowed = two.other.slowed;
    most = two.other.most;
  };
}

-- ---- that the end of an open leg is to wait, while half or more waits of what there is room for; that it may send,
-- once nothing waits

abbrev pub flow_in : Stage → PlainLeg → Option Flow
flow_in Open x = if x.slowed then (if none_wait x.messages then Some Ready else None)
    else if is_slow x.most x.messages then Some NotReady else None
flow_in stage x = None

abbrev pub flow_of : PlainLeg → Option Flow
flow_of x = flow_in x.stage x

abbrev pub flowed_leg : Option Flow → PlainLeg → PlainLeg
flowed_leg None x = x
flowed_leg (Some flow) x = record {
  stage = x.stage;
  messages = x.messages;
  interrupts = x.interrupts;
  slowed = not x.slowed;
  most = x.most;
}

abbrev pub flowed_two : Two → Two
flowed_two two = record { this = flowed_leg (flow_of two.this) two.this; other = two.other }

-- ---- of a leg of a call

abbrev pub asked_at : Side → PlainCrossing → PlainCrossing
asked_at side x = of_two side (asked_two (two_of side x))

abbrev pub sent_at : Side → PlainCrossing → PlainCrossing
sent_at side x = of_two side (sent_two (two_of side x))

abbrev pub interrupt_sent_at : Side → PlainCrossing → PlainCrossing
interrupt_sent_at side x = of_two side (interrupt_sent_two (two_of side x))

abbrev pub flowed_at : Side → PlainCrossing → PlainCrossing
flowed_at side x = of_two side (flowed_two (two_of side x))

-- neither leg stands
abbrev pub gone_both : Stage → Stage → Bool
gone_both Gone Gone = true
gone_both a b = false

abbrev pub is_over : PlainCrossing → Bool
is_over x = gone_both x.near.stage x.far.stage
