-- Faults, and the mark of the writer.
use Rattle.std.specs.Prelude.{◌≡◌, true, Result, OnOk, IsErrOf}
use Rattle.x25_io.specs.declared.device.Sink.{Ghosts}
use Rattle.x25_io.specs.declared.fault.Fault.{Fault}
use Rattle.x25_io.specs.declared.fault.Fault.TheVariants as fault

-- What a call that writes does to the writer's mark: a failed write is answered and marked, and nothing else marks. It
-- reads nothing.
pub record MarksFaults {D T : Type 0} (sink : Ghosts D) (old new : D) (result : Result T Fault) : Type 0 where
  pub kept : OnOk result (sink.is_marked new ≡ sink.is_marked old)
  pub write : IsErrOf result fault.Write → sink.is_marked new ≡ true
  pub memory : IsErrOf result fault.NoMemory → sink.is_marked new ≡ sink.is_marked old
  pub read : IsErrOf result fault.Read → ⊥
