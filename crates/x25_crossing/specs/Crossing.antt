-- A call through a switch, as values alone: its two legs. Of each how it stands, and what came by it and waits to go
-- out by the other.
use Rattle.std.specs.Prelude.{ℕ, Bool, false, List, []}
use Rattle.x25_circuit.specs.Message.{Message}
use Rattle.x25_crossing.specs.declared.side.Side.{Side}
use Rattle.x25_crossing.specs.declared.side.Side.TheVariants.{Near, Far}
use Rattle.x25_crossing.specs.declared.stage.Stage.{Stage}
use Rattle.x25_crossing.specs.declared.stage.Stage.TheVariants.{Came, Calls}

-- the messages and the interrupts that wait, each as a message; whether the end of the leg was told to wait; and how
-- many octets of messages there is room for
pub record PlainLeg : Type 0 where
  pub stage : Stage
  pub messages : List Message
  pub interrupts : List Message
  pub slowed : Bool
  pub most : ℕ

-- a leg, and the other one
pub record Two : Type 0 where
  pub this : PlainLeg
  pub other : PlainLeg

pub record PlainCrossing : Type 0 where
  pub near : PlainLeg
  pub far : PlainLeg

-- nothing waits, and its end wasn't told to wait
abbrev pub fresh : Stage → PlainLeg → PlainLeg
fresh stage x = record { stage = stage; messages = []; interrupts = []; slowed = false; most = x.most }

abbrev pub empty : ℕ → Stage → PlainLeg
empty most stage = record { stage = stage; messages = []; interrupts = []; slowed = false; most = most }

-- a call that came, and is to be made
abbrev pub new_crossing : ℕ → PlainCrossing
new_crossing most = record { near = empty most Came; far = empty most Calls }

abbrev pub two_of : Side → PlainCrossing → Two
two_of Near x = record { this = x.near; other = x.far }
two_of Far x = record { this = x.far; other = x.near }

abbrev pub of_two : Side → Two → PlainCrossing
of_two Near two = record { near = two.this; far = two.other }
of_two Far two = record { near = two.other; far = two.this }

abbrev pub leg_at : Side → PlainCrossing → PlainLeg
leg_at side x = (two_of side x).this
