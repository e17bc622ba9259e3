-- A number modulo 8, and the whole number that it stands for. ITU-T X.25 (10/96), section 2.3.2.
use Rattle.std.specs.Prelude.{ℕ, ◌+◌, ◌-◌, ◌%◌}

-- the one number from `low` on, below `low + 8`, that equals x modulo 8
abbrev pub resolved : ℕ → ℕ → ℕ
resolved low x = low + (x + 8 - low % 8) % 8
