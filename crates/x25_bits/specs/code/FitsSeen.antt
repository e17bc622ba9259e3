-- What a deframer holds, bit by bit. Profile.
use Rattle.std.specs.Prelude.{◌≡◌, true, false, take}
use Rattle.x25_bits.specs.code.Held.{Seen}
use Rattle.x25_bits.specs.declared.deframer.Deframer.{Deframer}

-- The run and the flags are those of the bits. The unstuffed bits, 32,831 at most, are held while a flag has come and
-- no seven 1 bits since.
pub record FitsSeen (d : Deframer) (v : Seen) : Type 0 where
  pub is_open : d.scan.is_open ≡ v.is_open
  pub run : d.scan.run ≡ v.held.run
  pub aborted : v.is_open ≡ true → d.scan.is_aborted ≡ v.held.is_aborted
  pub inserted : v.is_open ≡ true → v.held.is_aborted ≡ false → d.scan.is_inserted ≡ v.held.is_inserted
  pub kept : v.is_open ≡ true → v.held.is_aborted ≡ false → d.kept ≡ take 32831 v.held.kept
