-- Whatever cause is told at one leg, the station of the other one may give that by which it goes on.
use Rattle.std.specs.Prelude.{◌≡◌, ℕ, ◌<◌, true}
use Rattle.x25_bits.specs.declared.role.Role.{Role}
use Rattle.x25_circuit.specs.Cause.{may_clear_for, may_reset_for}
use Rattle.x25_crossing.specs.Cause.{clear_goes_on, reset_goes_on}

abbrev pub ClearsAreGiven : Type 0
ClearsAreGiven = (role : Role) (cause : ℕ) → cause < 256 → may_clear_for role (clear_goes_on role cause) ≡ true

abbrev pub ResetsAreGiven : Type 0
ResetsAreGiven = (role : Role) (cause : ℕ) → cause < 256 → may_reset_for role (reset_goes_on role cause) ≡ true
