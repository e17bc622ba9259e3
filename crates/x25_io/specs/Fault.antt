-- The numbers of the faults that end a run (profile).
use Rattle.std.specs.Prelude.{ℕ}
use Rattle.x25_io.specs.declared.fault.Fault.{Fault}
use Rattle.x25_io.specs.declared.fault.Fault.TheVariants.{Read, Write, NoMemory}

abbrev pub number_of : Fault → ℕ
number_of Read = 61
number_of Write = 62
number_of NoMemory = 70
