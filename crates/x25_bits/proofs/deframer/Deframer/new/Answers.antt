use Rattle.std.proofs.Common.{refl}
use Rattle.x25_bits.specs.code.Fits.{ones_from, behind_last}
use Rattle.x25_bits.specs.Deframer.{places_below}
use Rattle.x25_bits.proofs.deframer.Deframer.new.Goals as goal

pub returns : goal.returns
unfolding ones_from behind_last places_below
returns c = record { run = refl; span = refl }
