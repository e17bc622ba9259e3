-- The number of each refusal of a relay (profile).
use Rattle.std.specs.Prelude.{ℕ}
use Rattle.x25_relay.specs.declared.error.RelayError.{RelayError}
use Rattle.x25_relay.specs.declared.error.RelayError.TheVariants.{Full, TooLong, NoMemory}

abbrev pub number_of : RelayError → ℕ
number_of Full = 31
number_of TooLong = 32
number_of NoMemory = 70
