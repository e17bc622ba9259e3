-- How long answers may take, in milliseconds: ITU-T X.25 (10/96), Annex D, tables D-1 and D-2, of which the first has
-- no time of a DCE for an interrupt; T1 and T3 of the link are of the profile, and T25 is off unless it is set
-- (profile).
use Rattle.x25_bits.specs.declared.role.Role.{Role}
use Rattle.x25_bits.specs.declared.role.Role.TheVariants.{Dte, Dce}
use Rattle.x25_clock.specs.declared.times.Times.{Times}

abbrev pub standard : Role → Times
standard Dte = record {
  t1 = 3000;
  t3 = 60000;
  t20 = 180000;
  t21 = 200000;
  t22 = 180000;
  t23 = 180000;
  t25 = 0;
  t26 = 180000;
}
standard Dce = record { t1 = 3000; t3 = 60000; t20 = 60000; t21 = 180000; t22 = 60000; t23 = 60000; t25 = 0; t26 = 0 }
