-- A bit as a number.
use Rattle.std.specs.Prelude.{ℕ, Bool, if◌then◌else◌}

abbrev pub bit : Bool → ℕ
bit b = if b then 1 else 0
