-- The name of a stretch of a channel at an end: how many restarts, then clears, then resets were done, each counted
-- afresh behind the one before.
use Rattle.std.specs.Prelude.{◌≡◌, ◌⊎◌, ℕ, ◌<◌, Bool, true, false, ◌==◌}

pub record Name : Type 0 where
  pub restarts : ℕ
  pub clears : ℕ
  pub resets : ℕ

abbrev pub both : Bool → Bool → Bool
both true b = b
both false b = false

abbrev pub same_name : Name → Name → Bool
same_name m n = both (m.restarts == n.restarts) (both (m.clears == n.clears) (m.resets == n.resets))

-- an earlier name of one restart
abbrev pub IsEarlierCount : ℕ → ℕ → ℕ → ℕ → Type 0
IsEarlierCount clears resets clears₂ resets₂ = (clears < clears₂) ⊎ ((clears ≡ clears₂) × (resets < resets₂))

abbrev pub IsEarlier : Name → Name → Type 0
IsEarlier m n = (m.restarts < n.restarts) ⊎ ((m.restarts ≡ n.restarts)
    × IsEarlierCount m.clears m.resets n.clears n.resets)
