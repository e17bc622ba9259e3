-- What a sender holds, and the states of the window machine that it fits.
use Rattle.std.specs.Prelude.{◌≡◌, ℕ, ◌+◌, ◌-◌, ◌%◌, List, [], ◌∷◌, ◌++◌, length, drop, nat_lt, ◌==◌, if◌then◌else◌}
use Rattle.x25_window.specs.Sender.{Sending, IsSending}

-- the window, the number modulo 8 of the first item held, how many items stand before the place to send from,
-- and the items from the first that isn't acknowledged on
pub record Held (T : Type 0) : Type 0 where
  pub window : ℕ
  pub first : ℕ
  pub before : ℕ
  pub items : List T

-- what is held is that state's part
pub record Fits {T : Type 0} (h : Held T) (w : Sending T) : Type 0 where
  pub sound : IsSending w
  pub window : h.window ≡ w.window
  pub first : h.first ≡ w.acked % 8
  pub place : w.acked + h.before ≡ w.place
  pub items : h.items ≡ drop w.acked w.given

-- one item further, where there is one
abbrev pub advanced : {T : Type 0} → Held T → Held T
advanced h = if nat_lt h.before (length h.items) then record h { before = h.before + 1 } else h

-- one item more; the place to send from moves on where nothing is to be sent again
abbrev pub with_item : {T : Type 0} → Held T → T → Held T
with_item h x = record h {
  before = if h.before == length h.items then h.before + 1 else h.before;
  items = h.items ++ x ∷ [];
}

-- without the first items; the first one left has this number
abbrev pub without : {T : Type 0} → Held T → ℕ → ℕ → Held T
without h count number = record h {
  first = number;
  before = h.before - count;
  items = drop count h.items;
}
