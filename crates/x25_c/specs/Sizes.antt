-- Packet sizes and windows of a call, as C has them (profile): all 0 where none are named.
use Rattle.std.specs.Prelude.{◌==◌, ◌&&◌, if◌then◌else◌, Option, Some, None}
use Rattle.x25_circuit.specs.declared.params.Params.{Params}
use Rattle.x25_c.specs.declared.sizes.Sizes.{Sizes}

abbrev pub no_sizes : Sizes
no_sizes = record { size_called = 0; size_calling = 0; window_called = 0; window_calling = 0 }

abbrev pub sizes_told : Params → Sizes
sizes_told p = record {
  size_called = p.size_called;
  size_calling = p.size_calling;
  window_called = p.win_called;
  window_calling = p.win_calling;
}

abbrev pub params_in : Sizes → Option Params
params_in s =
    if s.size_called == 0 && (s.size_calling == 0 && (s.window_called == 0 && s.window_calling == 0))
    then None
    else Some (record {
      size_called = s.size_called;
      size_calling = s.size_calling;
      win_called = s.window_called;
      win_calling = s.window_calling;
    })
