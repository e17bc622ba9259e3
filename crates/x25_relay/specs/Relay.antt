-- The messages of one way of a call that wait in a switch: how many octets they have, when one more isn't taken, and
-- when the line that they come by is told to wait (profile).
use Rattle.std.specs.Prelude.{ℕ, ◌+◌, nat_lt, nat_le, List, [], ◌∷◌, length, Option, Some, None, if◌then◌else◌}
use Rattle.std.specs.Prelude.{Bool, ◌||◌}
use Rattle.x25_circuit.specs.Message.{Message}
use Rattle.x25_relay.specs.declared.error.RelayError.{RelayError}
use Rattle.x25_relay.specs.declared.error.RelayError.TheVariants.{TooLong, Full}

abbrev pub octets_of : List Message → ℕ
octets_of [] = 0
octets_of (m ∷ ms) = length m.user + octets_of ms

-- why a message of `n` octets isn't taken where these wait, and there is room for `most` octets
abbrev pub refusal : ℕ → List Message → ℕ → Option RelayError
refusal most ms n =
    if nat_lt 65535 n then Some TooLong
    else if nat_le 16 (length ms) then Some Full
    else if nat_lt most (octets_of ms + n) then Some Full
    else None

-- half of the places or of the room is taken
abbrev pub is_slow : ℕ → List Message → Bool
is_slow most ms = nat_le 8 (length ms) || nat_le most (octets_of ms + octets_of ms)
