-- The two ends of a link, and the directions between them. ITU-T X.25 (10/96), section 1.
use Rattle.x25_bits.specs.declared.role.Role.{Role}
use Rattle.x25_bits.specs.declared.role.Role.TheVariants.{Dte, Dce}
use Rattle.x25_bits.specs.declared.direction.Direction.{Direction}
use Rattle.x25_bits.specs.declared.direction.Direction.TheVariants.{ToDce, ToDte}

abbrev pub other : Role → Role
other Dte = Dce
other Dce = Dte

-- the end that a direction leads to
abbrev pub end_of : Direction → Role
end_of ToDce = Dce
end_of ToDte = Dte
