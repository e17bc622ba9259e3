-- What a call asks of the station of a leg, as that station's command; what becomes of the call where it is accepted;
-- and what it is told of what the station tells (profile).
use Rattle.std.specs.Prelude.{ℕ, Option, Some, None, Bool, true, false}
use Rattle.x25_bits.specs.declared.role.Role.{Role}
use Rattle.x25_circuit.specs.Message.{Message}
use Rattle.x25_circuit.specs.Calling.{Accepts, Clears, Sends, Interrupts, Resets, SaysReady, SaysNotReady}
use Rattle.x25_circuit.specs.Notice.{PlainNotice, incoming, connected, collided, cleared, clear_done, was_reset}
use Rattle.x25_circuit.specs.Notice.{reset_done, delivered, interrupted, interrupt_done, fault}
use Rattle.x25_layer.specs.Calls.{Asks}
use Rattle.x25_station.specs.Command.{Command, Requests}
use Rattle.x25_crossing.specs.Asking.{asks_of, interrupt_of, message_of, flow_of, asked_at, interrupt_sent_at, sent_at}
use Rattle.x25_crossing.specs.Asking.{flowed_at}
use Rattle.x25_crossing.specs.Crossing.{Two, PlainCrossing}
use Rattle.x25_crossing.specs.Told.{PlainTold, unmarked}
use Rattle.x25_crossing.specs.declared.ask.Ask.{Ask}
use Rattle.x25_crossing.specs.declared.ask.Ask.TheVariants as ask
use Rattle.x25_crossing.specs.declared.ask.Flow.{Flow}
use Rattle.x25_crossing.specs.declared.ask.Flow.TheVariants.{Ready, NotReady}
use Rattle.x25_crossing.specs.declared.side.Side.{Side}
use Rattle.x25_switch.specs.declared.leg.Kind.{Kind}
use Rattle.x25_switch.specs.declared.leg.Kind.TheVariants as kind

-- ---- what is asked on a channel; a call is made on a line of its route, not here

abbrev pub control_on : ℕ → Option Ask → Option Command
control_on h None = None
control_on h (Some ask.Call) = None
control_on h (Some ask.Accept) = Some (Requests (Asks h (Accepts None)))
control_on h (Some (ask.Reset cause diagnostic)) = Some (Requests (Asks h (Resets cause diagnostic)))
control_on h (Some (ask.Clear cause diagnostic)) = Some (Requests (Asks h (Clears cause diagnostic)))

abbrev pub interrupt_on : ℕ → Option Message → Option Command
interrupt_on h None = None
interrupt_on h (Some m) = Some (Requests (Asks h (Interrupts m.user)))

abbrev pub message_on : ℕ → Option Message → Option Command
message_on h None = None
message_on h (Some m) = Some (Requests (Asks h (Sends m.marks m.user)))

abbrev pub flow_on : ℕ → Option Flow → Option Command
flow_on h None = None
flow_on h (Some Ready) = Some (Requests (Asks h SaysReady))
flow_on h (Some NotReady) = Some (Requests (Asks h SaysNotReady))

abbrev pub wanted : Kind → Role → ℕ → Two → Option Command
wanted kind.Control role h two = control_on h (asks_of role two)
wanted kind.Interrupt role h two = interrupt_on h (interrupt_of two)
wanted kind.Message role h two = message_on h (message_of two)
wanted kind.Flow role h two = flow_on h (flow_of two.this)

-- where it is accepted
abbrev pub accepted : Kind → Side → PlainCrossing → PlainCrossing
accepted kind.Control side x = asked_at side x
accepted kind.Interrupt side x = interrupt_sent_at side x
accepted kind.Message side x = sent_at side x
accepted kind.Flow side x = flowed_at side x

-- ---- what it is told: of an error of procedure by whether the station clears the call for it

abbrev pub told_of : Bool → PlainNotice → Option PlainTold
told_of clears (incoming request) = None
told_of clears (connected params) = Some PlainTold.connected
told_of clears collided = Some PlainTold.collided
told_of clears (cleared cause diagnostic) = Some (PlainTold.ended cause diagnostic)
told_of clears clear_done = Some (PlainTold.ended 19 49)
told_of clears (was_reset cause diagnostic) = Some (PlainTold.was_reset cause diagnostic)
told_of clears reset_done = Some (PlainTold.was_reset 5 0)
told_of clears (delivered m) = Some (PlainTold.delivered m)
told_of clears (interrupted user) = Some (PlainTold.interrupted (unmarked user))
told_of clears interrupt_done = None
told_of true (fault diagnostic) = Some (PlainTold.ended 19 diagnostic)
told_of false (fault diagnostic) = Some (PlainTold.resets_itself diagnostic)
