-- How long a program waits for the clock of a station (profile).
use Rattle.std.specs.Prelude.{ℕ, ◌-◌, Option, Some, None, min}

-- from a moment on until another one, where there is one, and no longer than the most
abbrev pub left_until : ℕ → ℕ → Option ℕ → ℕ
left_until now most None = most
left_until now most (Some at) = min (at - now) most
