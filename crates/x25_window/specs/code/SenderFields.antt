-- What the fields of a sender stand for.
use Rattle.std.specs.Prelude.{◌≡◌, ◌≤◌, length}
use Rattle.x25_window.specs.declared.sender.Sender.TheInside.{Inside}
use Rattle.x25_window.specs.code.Held.{Held}

abbrev pub held : {T : Type 0} → Inside T → Held T
held s = record { window = s.window; first = s.first.number; before = s.before; items = s.items.items }

pub record IsSound {T : Type 0} (s : Inside T) : Type 0 where
  pub window_low : 1 ≤ s.window
  pub window_high : s.window ≤ 7
  pub before : s.before ≤ length s.items.items
  pub few : length s.items.items ≤ s.window
  pub room : s.items.capacity ≡ s.window
