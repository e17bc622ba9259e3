-- Which causes the user of an end may give: at a DTE 0, DTE originated, or a private one, of which bit 8 is 1, and at a
-- DCE any. ITU-T X.25 (10/96), sections 5.2.3.1, 5.4.3.1 and 5.5.1.1. That those are left to the station by which it
-- tells of an error of procedure itself is of the profile.
use Rattle.std.specs.Prelude.{ℕ, Bool, true, nat_le, ◌==◌, ◌&&◌, ◌||◌, not}
use Rattle.x25_bits.specs.declared.role.Role.{Role}
use Rattle.x25_bits.specs.declared.role.Role.TheVariants.{Dte, Dce}

-- invalid facility request, local procedure error, and what a DTE has in their place
abbrev pub is_fault_of_clear : ℕ → Bool
is_fault_of_clear cause = cause == 3 || (cause == 19 || cause == 128)

-- local procedure error, and what a DTE has in its place
abbrev pub is_fault_of_reset : ℕ → Bool
is_fault_of_reset cause = cause == 5 || cause == 128

-- the same
abbrev pub is_fault_of_restart : ℕ → Bool
is_fault_of_restart cause = cause == 1 || cause == 128

abbrev pub is_of_end : Role → ℕ → Bool
is_of_end Dte cause = nat_le 128 cause
is_of_end Dce cause = true

abbrev pub may_give : Bool → Role → ℕ → Bool
may_give is_fault role cause = not is_fault && (cause == 0 || is_of_end role cause)

abbrev pub may_clear_for : Role → ℕ → Bool
may_clear_for role cause = may_give (is_fault_of_clear cause) role cause

abbrev pub may_reset_for : Role → ℕ → Bool
may_reset_for role cause = may_give (is_fault_of_reset cause) role cause

abbrev pub may_restart_for : Role → ℕ → Bool
may_restart_for role cause = may_give (is_fault_of_restart cause) role cause
