-- Bits of which whole octets were sent (profile).
use Rattle.std.specs.Prelude.{◌≡◌, ◌<◌, ℕ, ◌/◌, ◌*◌, Bool, List, ◌++◌, length, drop, Option, Result, MatchResult}
use Rattle.x25_bits.specs.Found.{octets_of}
use Rattle.x25_bits.specs.Stuffing.{filled}
use Rattle.x25_io.specs.code.Written.{AppendsPrefix, Tells}

-- those that fill no octet
abbrev pub behind_octets : List Bool → List Bool
behind_octets bits = drop (8 * (length bits / 8)) bits

-- The octets that these bits fill were told, and of them `text` waits to be written; the bits behind them are left.
pub record Sends (old now : Option (List ℕ)) (left : List Bool) (text : List ℕ) (bits : List Bool) : Type 0 where
  pub told : List ℕ
  pub tells : Tells old now text told
  pub few : length left < 8
  pub same : (more : List Bool) → told ++ octets_of (filled (left ++ more)) ≡ octets_of (filled (bits ++ more))

-- More bits are sent behind all those before; where that failed, what is written is a beginning of the octets, whatever
-- follows.
abbrev pub SendsLine : {T E : Type 0} → Result T E → Option (List ℕ) → Option (List ℕ) → List Bool → List Bool → List ℕ
    → List ℕ → List Bool → Type 0
SendsLine r was now left stays waited waits more = (old : Option (List ℕ)) (bits : List Bool)
    → Sends old was left waited bits
    → MatchResult r (λ _. Sends old now stays waits (bits ++ more))
    (λ _. (behind : List Bool) → AppendsPrefix old now (octets_of (filled ((bits ++ more) ++ behind))))
