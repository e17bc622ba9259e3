-- The receiving half of the window machine: V(R), the number of items taken (ITU-T X.25 (10/96), section 2.3.2).
use Rattle.std.specs.Prelude.{ℕ, ◌≡◌, ◌%◌}
use Rattle.x25_window.specs.declared.receiver.Receiver.{Receiver}

-- the number held is that of the item after those taken
abbrev pub FitsTaken : Receiver → ℕ → Type 0
FitsTaken r taken = r.number ≡ taken % 8
