-- What a handle owns: the memory of a box, or nothing.
use base.Fml.{Fml, ftrue}
use base.Stored.{Coded}
use denote.RawPtr.{Ptr}
use Rattle.std.specs.Prelude.{Option}
use Rattle.std.specs.Coded.{coded_option}
use Rattle.std.specs.declared.option.Option.TheVariants.{None, Some}
use Rattle.std.specs.Box.Ownership.{box_owns}
use Rattle.std.specs.Global.{Global}
use Rattle.std_heap.specs.contracts.GlobalAllocator.TheImpl.{ghosts}
use Rattle.x25_c.specs.contracts.held.Held.{the_row}

abbrev pub handle_owns : Global → Ptr → Option the_row.Denot → Fml
handle_owns alloc p None = ftrue
handle_owns alloc p (Some held) = box_owns (ghosts.dealloc_token alloc) the_row p held

abbrev pub held_coded : Coded (Option the_row.Denot)
held_coded = coded_option the_row.coded
