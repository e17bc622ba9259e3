-- What a CALL or an ACCEPT says, by its A bit and the octets behind its type, whatever they are.
use Rattle.std.specs.Prelude.{ℕ, Bool, List}
use Rattle.x25_packet.specs.Block.{block_at}
use Rattle.x25_packet.specs.Narrowing.{called_taken, calling_taken, field_shown, user_taken}

abbrev pub called_of : Bool → List ℕ → List ℕ
called_of a body = called_taken a (block_at a body)

abbrev pub calling_of : Bool → List ℕ → List ℕ
calling_of a body = calling_taken a (block_at a body)

abbrev pub field_of : Bool → List ℕ → List ℕ
field_of a body = let block = block_at a body in field_shown block.fields

abbrev pub user_of : Bool → List ℕ → List ℕ
user_of a body = let block = block_at a body in user_taken block.fields
