-- The octets that hexadecimal digits write (profile).
use Rattle.std.specs.Prelude.{ℕ, ◌≡◌, ◌<◌, List, [], Option, unwrap_or, is_some, true, All}
use Rattle.std.specs.Result.{result_ok}
use Rattle.hex.specs.Hex.{decode_of}

-- two digits of either case for each octet, the high one first
abbrev pub octets_of : List ℕ → Option (List ℕ)
octets_of digits = result_ok (decode_of digits)

-- the digits write octets
abbrev pub AreWritten : List ℕ → Type 0
AreWritten digits = is_some (octets_of digits) ≡ true

-- those that they write
abbrev pub octets_written : List ℕ → List ℕ
octets_written digits = unwrap_or (octets_of digits) []

-- each is one of 256
abbrev pub AreOctets : List ℕ → Type 0
AreOctets xs = All (λ octet. octet < 256) xs
