-- What contracts see of the message of which some packets were taken.
use Rattle.std.specs.Prelude.{ℕ, List, [], ◌∷◌, Bool, true, false}
use Rattle.x25_packet.specs.declared.marks.Marks.{Marks}
use Rattle.x25_circuit.specs.Message.{Message, Partial}

-- what has begun, whether its memory is made, and the most octets of a message
pub record ShownPartial : Type 0 where
  pub part : Partial
  pub made : Bool
  pub longest : ℕ

-- the message of these octets, where it is one
abbrev pub ended : Marks → List ℕ → Bool → List Message
ended marks user false = []
ended marks user true = record { marks = marks; user = user } ∷ []
