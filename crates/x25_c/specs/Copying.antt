-- Octets that a C program takes (profile).
use Rattle.std.specs.Prelude.{◌≡◌, ℕ, ◌≤◌, ◌<◌, List, ◌++◌, length, drop}

-- they are copied to the front of a room where they fit, and else it is as before
pub record Copies (octets old new : List ℕ) : Type 0 where
  pub fits : length octets ≤ length old → new ≡ octets ++ drop (length octets) old
  pub fails : length old < length octets → new ≡ old
