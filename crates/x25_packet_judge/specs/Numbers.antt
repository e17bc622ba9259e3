-- Numbers of frames and packets, modulo 8. ITU-T X.25 (10/96), sections 2.3.2.1 and 4.4.1.1.
use Rattle.std.specs.Prelude.{ℕ, ◌+◌, ◌-◌, ◌%◌, ◌==◌, if◌then◌else◌}

-- how far one number lies behind another
abbrev pub apart : ℕ → ℕ → ℕ
apart to from = ((8 + to % 8) - from % 8) % 8

-- a count that goes down by one: 255 stands for 255 and more, so it stays
abbrev pub less : ℕ → ℕ
less count = if count == 255 then 255 else count - 1
