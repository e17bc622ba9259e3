-- What is told at a leg of a call, and what that does: the table, a function for each kind, by cases on the stage of
-- the leg. A pair that has no row does nothing.
use Rattle.std.specs.Prelude.{ℕ, List, [], ◌∷◌, ◌++◌, length, Option, Some, None, Bool, true, false}
use Rattle.x25_circuit.specs.Message.{Message}
use Rattle.x25_relay.specs.Relay.{refusal}
use Rattle.x25_relay.specs.declared.error.RelayError.{RelayError}
use Rattle.x25_crossing.specs.Cause.{restart_goes_on}
use Rattle.x25_crossing.specs.Crossing.{PlainLeg, Two, PlainCrossing, fresh, two_of, of_two}
use Rattle.x25_crossing.specs.declared.side.Side.{Side}
use Rattle.x25_crossing.specs.declared.stage.Stage.{Stage}
use Rattle.x25_crossing.specs.declared.stage.Stage.TheVariants.{Calls, Called, Came, Answers, Open, Resets, Resetting}
use Rattle.x25_crossing.specs.declared.stage.Stage.TheVariants.{Clears, Gone}
use Rattle.x25_crossing.specs.declared.told.Told as declared
use Rattle.x25_crossing.specs.declared.told.Told.TheVariants as code

-- causes go before diagnostics; an interrupt is a message without marks
pub data PlainTold : Type 0 where
  connected : PlainTold
  collided : PlainTold
  ended : (cause : ℕ) → (diagnostic : ℕ) → PlainTold
  was_reset : (cause : ℕ) → (diagnostic : ℕ) → PlainTold
  resets_itself : (diagnostic : ℕ) → PlainTold
  delivered : (message : Message) → PlainTold
  interrupted : (message : Message) → PlainTold
  refused : (cause : ℕ) → (diagnostic : ℕ) → PlainTold
  lingered : PlainTold

abbrev pub unmarked : List ℕ → Message
unmarked user = record { marks = record { q = false; d = false }; user = user }

-- No answer in time is a local procedure error (19) with diagnostic 49, and a line that is lost is out of order (9).
abbrev pub plain_told : declared.Told → PlainTold
plain_told code.Connected = connected
plain_told code.Collided = collided
plain_told (code.Cleared cause diagnostic) = ended cause diagnostic
plain_told code.ClearDone = ended 19 49
plain_told (code.ClearFault diagnostic) = ended 19 diagnostic
plain_told (code.Restarted cause diagnostic) = ended (restart_goes_on cause) diagnostic
plain_told code.Lost = ended 9 0
plain_told (code.WasReset cause diagnostic) = was_reset cause diagnostic
plain_told code.ResetDone = was_reset 5 0
plain_told (code.ResetFault diagnostic) = resets_itself diagnostic
plain_told (code.Delivered marks user) = delivered (record { marks = marks; user = user.now })
plain_told (code.Interrupted user) = interrupted (unmarked user.now)
plain_told (code.Refused cause diagnostic) = refused cause diagnostic
plain_told code.Lingered = lingered

abbrev pub at_stage : Stage → PlainLeg → PlainLeg
at_stage stage x = record {
  stage = stage;
  messages = x.messages;
  interrupts = x.interrupts;
  slowed = x.slowed;
  most = x.most;
}

-- ---- the call is accepted, or is to be made again

abbrev pub answers : Stage → Stage
answers Came = Answers
answers stage = stage

abbrev pub row_connected : Stage → Two → Two
row_connected Called two = record {
  this = at_stage Open two.this;
  other = at_stage (answers two.other.stage) two.other;
}
row_connected stage two = two

abbrev pub row_collided : Stage → Two → Two
row_collided Called two = record { this = at_stage Calls two.this; other = two.other }
row_collided stage two = two

-- ---- the call ends at this leg: so it does at the other

-- the leg that is left: it is to be cleared, where it stands
abbrev pub left_with : ℕ → ℕ → Stage → Stage
left_with cause diagnostic Calls = Gone
left_with cause diagnostic (Clears c d) = Clears c d
left_with cause diagnostic Gone = Gone
left_with cause diagnostic stage = Clears cause diagnostic

-- what came by the leg that is gone goes out first, where the other one is open
abbrev pub gone_beside : Stage → PlainLeg → PlainLeg
gone_beside Open x = record {
  stage = Gone;
  messages = x.messages;
  interrupts = x.interrupts;
  slowed = false;
  most = x.most;
}
gone_beside stage x = fresh Gone x

abbrev pub row_ended : ℕ → ℕ → Stage → Two → Two
row_ended cause diagnostic Calls two = two
row_ended cause diagnostic Gone two = two
row_ended cause diagnostic stage two = record {
  this = gone_beside two.other.stage two.this;
  other = fresh (left_with cause diagnostic two.other.stage) two.other;
}

-- both are to be cleared, and nothing goes out before
abbrev pub row_refused : ℕ → ℕ → Stage → Two → Two
row_refused cause diagnostic Gone two = two
row_refused cause diagnostic stage two = record {
  this = fresh (left_with cause diagnostic stage) two.this;
  other = fresh (left_with cause diagnostic two.other.stage) two.other;
}

-- what waits for a leg that is to be cleared is dropped
abbrev pub row_lingered : Stage → Two → Two
row_lingered (Clears c d) two = record { this = two.this; other = fresh two.other.stage two.other }
row_lingered stage two = two

-- ---- a stretch ends at this leg: nothing of it goes on, and the other one is to be reset

abbrev pub reset_with : ℕ → ℕ → Stage → Stage
reset_with cause diagnostic Open = Resets cause diagnostic
reset_with cause diagnostic stage = stage

abbrev pub both_reset : Stage → ℕ → ℕ → Two → Two
both_reset stage cause diagnostic two = record {
  this = fresh stage two.this;
  other = fresh (reset_with cause diagnostic two.other.stage) two.other;
}

abbrev pub row_was_reset : ℕ → ℕ → Stage → Two → Two
row_was_reset cause diagnostic Open two = both_reset Open cause diagnostic two
row_was_reset cause diagnostic (Resets c d) two = record { this = at_stage Open two.this; other = two.other }
row_was_reset cause diagnostic Resetting two = record { this = at_stage Open two.this; other = two.other }
row_was_reset cause diagnostic stage two = two

abbrev pub row_resets_itself : ℕ → Stage → Two → Two
row_resets_itself diagnostic Open two = both_reset Resetting 5 diagnostic two
row_resets_itself diagnostic (Resets c d) two = record { this = at_stage Resetting two.this; other = two.other }
row_resets_itself diagnostic stage two = two

-- ---- what comes waits, or where it is too much, both are to be reset: 7, network congestion

abbrev pub congested : Two → Two
congested two = both_reset (Resets 7 0) 7 0 two

abbrev pub with_message : Message → PlainLeg → PlainLeg
with_message m x = record {
  stage = x.stage;
  messages = x.messages ++ m ∷ [];
  interrupts = x.interrupts;
  slowed = x.slowed;
  most = x.most;
}

abbrev pub with_interrupt : Message → PlainLeg → PlainLeg
with_interrupt m x = record {
  stage = x.stage;
  messages = x.messages;
  interrupts = x.interrupts ++ m ∷ [];
  slowed = x.slowed;
  most = x.most;
}

abbrev pub where_room : Option RelayError → PlainLeg → Two → Two
where_room None x two = record { this = x; other = two.other }
where_room (Some e) x two = congested two

abbrev pub row_delivered : Message → Stage → Two → Two
row_delivered m Open two =
    where_room (refusal two.this.most two.this.messages (length m.user)) (with_message m two.this) two
row_delivered m stage two = two

-- sixteen of 32 octets
abbrev pub row_interrupted : Message → Stage → Two → Two
row_interrupted m Open two =
    where_room (refusal 512 two.this.interrupts (length m.user)) (with_interrupt m two.this) two
row_interrupted m stage two = two

-- ---- the table

abbrev pub told_two : PlainTold → Two → Two
told_two connected two = row_connected two.this.stage two
told_two collided two = row_collided two.this.stage two
told_two (ended cause diagnostic) two = row_ended cause diagnostic two.this.stage two
told_two (was_reset cause diagnostic) two = row_was_reset cause diagnostic two.this.stage two
told_two (resets_itself diagnostic) two = row_resets_itself diagnostic two.this.stage two
told_two (delivered m) two = row_delivered m two.this.stage two
told_two (interrupted m) two = row_interrupted m two.this.stage two
told_two (refused cause diagnostic) two = row_refused cause diagnostic two.this.stage two
told_two lingered two = row_lingered two.this.stage two

-- ---- where memory is refused for a message or an interrupt it is too much

abbrev pub may_lack : PlainTold → Bool
may_lack (delivered m) = true
may_lack (interrupted m) = true
may_lack told = false

abbrev pub row_lacks : Stage → Two → Two
row_lacks Open two = congested two
row_lacks stage two = two

abbrev pub lacks_at : Side → PlainCrossing → PlainCrossing
lacks_at side x = of_two side (row_lacks (two_of side x).this.stage (two_of side x))

-- ---- at a leg of a call

abbrev pub told_at : Side → PlainTold → PlainCrossing → PlainCrossing
told_at side told x = of_two side (told_two told (two_of side x))
