-- What the code tells, as the definition has it.
use Rattle.std.specs.Prelude.{List}
use Rattle.std.specs.List.{flat_map}
use Rattle.x25_world.specs.{World.{AtEnd, entered}, declared.told.Entered.{Entered}}

abbrev pub plain_told : List Entered → List AtEnd
plain_told told = flat_map (λ e. entered e.at e.entries.items) told
