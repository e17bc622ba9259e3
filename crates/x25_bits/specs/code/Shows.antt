-- What is held, as the code has it. Profile.
use Rattle.std.specs.Prelude.{◌≡◌, Bool, false, List, take}
use Rattle.x25_bits.specs.code.Held.{Held}
use Rattle.x25_bits.specs.declared.scan.Scan.{Scan}

-- the scan and the kept bits say of what is held all that its closing needs
pub record Shows (scan : Scan) (bits : List Bool) (h : Held) : Type 0 where
  pub aborted : scan.is_aborted ≡ h.is_aborted
  pub inserted : h.is_aborted ≡ false → scan.is_inserted ≡ h.is_inserted
  pub kept : h.is_aborted ≡ false → bits ≡ take 32831 h.kept
