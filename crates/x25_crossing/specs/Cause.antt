-- The cause by which what was told at one leg of a call goes on at the other (profile). What is a local error there is
-- a remote one here. 128, by which a DTE's station tells of an error of procedure, goes on as 0.
use Rattle.std.specs.Prelude.{ℕ, ◌+◌, ◌==◌, nat_le, ◌||◌, if◌then◌else◌}
use Rattle.x25_bits.specs.declared.role.Role.{Role}
use Rattle.x25_bits.specs.declared.role.Role.TheVariants.{Dte, Dce}

-- a network's cause, as the station of a leg gives it: a DTE's causes are 0 and those with bit 8
abbrev pub at_leg : Role → ℕ → ℕ
at_leg Dce cause = cause
at_leg Dte cause = if cause == 0 || nat_le 128 cause then cause else 128 + cause

-- 3, invalid facility request, is left to a DCE's station: 13, not obtainable
abbrev pub clear_at : Role → ℕ → ℕ
clear_at Dce cause = if cause == 3 then 13 else cause
clear_at Dte cause = at_leg Dte cause

-- 19, local procedure error, is 17, remote procedure error
abbrev pub clear_goes_on : Role → ℕ → ℕ
clear_goes_on role cause = if cause == 19 then clear_at role 17 else if cause == 128 then 0 else clear_at role cause

-- 5, local procedure error, is 3, remote procedure error
abbrev pub reset_goes_on : Role → ℕ → ℕ
reset_goes_on role cause = if cause == 5 then at_leg role 3 else if cause == 128 then 0 else at_leg role cause

-- the cause of the clear that a restart is for a call, before it goes on: 1 is a local procedure error, 3 network
-- congestion, and another one of the network 9, out of order
abbrev pub restart_goes_on : ℕ → ℕ
restart_goes_on cause = if cause == 0 then 0 else if cause == 1 then 19 else if cause == 3 then 5
    else if nat_le 128 cause then cause else 9
