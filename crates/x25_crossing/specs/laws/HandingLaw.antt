-- What goes out by a leg in a stretch is what was told at the other one in its stretch, in order: whatever happens to a
-- call. A stretch of a leg begins where it comes to be open, and with each reset.
use Rattle.std.specs.Prelude.{◌≡◌, ℕ, List, [], ◌∷◌, ◌++◌, Option, Some, None, Bool, true, false, if◌then◌else◌}
use Rattle.x25_circuit.specs.Message.{Message}
use Rattle.x25_crossing.specs.Crossing.{PlainCrossing, new_crossing, two_of}
use Rattle.x25_crossing.specs.Told.{PlainTold, connected, was_reset, delivered, interrupted, told_at, lacks_at}
use Rattle.x25_crossing.specs.Asking.{asked_at, sent_at, interrupt_sent_at, flowed_at, message_of, interrupt_of}
use Rattle.x25_crossing.specs.declared.side.Side.{Side}
use Rattle.x25_crossing.specs.declared.side.Side.TheVariants.{Near, Far}
use Rattle.x25_crossing.specs.declared.stage.Stage.{Stage}
use Rattle.x25_crossing.specs.declared.stage.Stage.TheVariants.{Called, Answers, Open, Resets, Resetting}

-- something is told at a leg; so, and memory is refused; the station of a leg accepts what is to be asked, a message,
-- an interrupt, or whether messages are to come
pub data Event : Type 0 where
  Tells : (side : Side) → (told : PlainTold) → Event
  Lacks : (side : Side) → (told : PlainTold) → Event
  Asked : (side : Side) → Event
  Sent : (side : Side) → Event
  InterruptSent : (side : Side) → Event
  Flowed : (side : Side) → Event

-- the messages and the interrupts that were told at a leg, and that went out by it, in its present stretch
pub record Book : Type 0 where
  pub up : List Message
  pub down : List Message
  pub int_up : List Message
  pub int_down : List Message

abbrev pub no_book : Book
no_book = record { up = []; down = []; int_up = []; int_down = [] }

abbrev pub begins : PlainTold → Stage → Bool
begins connected Called = true
begins (was_reset cause diagnostic) Open = true
begins (was_reset cause diagnostic) (Resets c d) = true
begins (was_reset cause diagnostic) Resetting = true
begins told stage = false

abbrev pub with_up : Message → Book → Book
with_up m b = record { up = b.up ++ m ∷ []; down = b.down; int_up = b.int_up; int_down = b.int_down }

abbrev pub with_int_up : Message → Book → Book
with_int_up m b = record { up = b.up; down = b.down; int_up = b.int_up ++ m ∷ []; int_down = b.int_down }

-- messages come in a stretch: where the leg is open, or is to be reset
abbrev pub noted : PlainTold → Stage → Book → Book
noted (delivered m) Open b = with_up m b
noted (delivered m) (Resets c d) b = with_up m b
noted (interrupted m) Open b = with_int_up m b
noted (interrupted m) (Resets c d) b = with_int_up m b
noted told stage b = b

abbrev pub book_told : PlainTold → Stage → Book → Book
book_told told stage b = if begins told stage then no_book else noted told stage b

abbrev pub book_asked : Stage → Book → Book
book_asked Answers b = no_book
book_asked stage b = b

abbrev pub book_sent : Option Message → Book → Book
book_sent None b = b
book_sent (Some m) b = record { up = b.up; down = b.down ++ m ∷ []; int_up = b.int_up; int_down = b.int_down }

abbrev pub book_interrupt_sent : Option Message → Book → Book
book_interrupt_sent None b = b
book_interrupt_sent (Some m) b = record {
  up = b.up;
  down = b.down;
  int_up = b.int_up;
  int_down = b.int_down ++ m ∷ [];
}

-- a call, and the books of its legs
pub record Run : Type 0 where
  pub call : PlainCrossing
  pub near : Book
  pub far : Book

abbrev pub with_book : Side → PlainCrossing → (Book → Book) → Run → Run
with_book Near call change r = record { call = call; near = change r.near; far = r.far }
with_book Far call change r = record { call = call; near = r.near; far = change r.far }

abbrev pub stage_at : Side → PlainCrossing → Stage
stage_at side x = (two_of side x).this.stage

abbrev pub goes_on : Event → Run → Run
goes_on (Tells side told) r = with_book side (told_at side told r.call) (book_told told (stage_at side r.call)) r
goes_on (Lacks side told) r = with_book side (lacks_at side r.call) (noted told (stage_at side r.call)) r
goes_on (Asked side) r = with_book side (asked_at side r.call) (book_asked (stage_at side r.call)) r
goes_on (Sent side) r = with_book side (sent_at side r.call) (book_sent (message_of (two_of side r.call))) r
goes_on (InterruptSent side) r =
    with_book side (interrupt_sent_at side r.call) (book_interrupt_sent (interrupt_of (two_of side r.call))) r
goes_on (Flowed side) r = with_book side (flowed_at side r.call) (λ b. b) r

-- after these events, the last one first
abbrev pub after : ℕ → List Event → Run
after most [] = record { call = new_crossing most; near = no_book; far = no_book }
after most (e ∷ es) = goes_on e (after most es)

abbrev pub book_at : Side → Run → Book
book_at Near r = r.near
book_at Far r = r.far

abbrev pub book_beside : Side → Run → Book
book_beside Near r = r.far
book_beside Far r = r.near

-- what goes out next is the next of what was told, after those that went out
abbrev pub NextGoesOut : Type 0
NextGoesOut = (most : ℕ) (es : List Event) (side : Side) (m : Message)
    → message_of (two_of side (after most es).call) ≡ Some m
    → (rest : List Message) × ((book_at side (after most es)).down ++ m ∷ rest ≡ (book_beside side (after most es)).up)

abbrev pub NextInterruptGoesOut : Type 0
NextInterruptGoesOut = (most : ℕ) (es : List Event) (side : Side) (m : Message)
    → interrupt_of (two_of side (after most es).call) ≡ Some m
    → (rest : List Message)
    × ((book_at side (after most es)).int_down ++ m ∷ rest ≡ (book_beside side (after most es)).int_up)
