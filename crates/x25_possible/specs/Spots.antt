-- Numbers that a state is counted with.
use Rattle.std.specs.Prelude.{◌^◌, ◌<◌}
use Rattle.x25_possible.specs.declared.phase.Phase.{Phase}
use Rattle.x25_possible.specs.declared.phase.Phase.TheVariants.{Talks}
use Rattle.x25_possible.specs.declared.phase.Talk.{Talk}

pub record HasRoom (k : Talk) : Type 0 where
  pub sent : k.sent < 2 ^ 31
  pub acked : k.acked < 2 ^ 31
  pub taken : k.taken < 2 ^ 31
  pub told : k.told < 2 ^ 31
  pub owed : k.owed < 2 ^ 31

abbrev pub IsSmall : Phase → Type 0
IsSmall (Talks k) = HasRoom k
IsSmall s = Unit {0}
