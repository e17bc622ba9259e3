-- What holds of two ends and the line between them at each moment: the window.
use Rattle.std.specs.Prelude.{ℕ, ◌≡◌, ◌+◌, ◌%◌, ◌<◌, ◌≤◌, List, [], ◌∷◌, ◌++◌, length, Option, Some, None}
use Rattle.x25_window.specs.laws.Window.{End, Numbered, Frame}
use Rattle.x25_line.specs.laws.Line.{Line}

-- y is x followed by some list
abbrev pub IsPrefix : {T : Type 0} → List T → List T → Type 0
IsPrefix {T} x y = (rest : List T) × (x ++ rest ≡ y)

-- an I frame n that was sent when m stood: m - 7 ≤ n, and n was sent by then
abbrev pub IsSentInWindow : {T : Type 0} → ℕ → Option (Numbered T) → Type 0
IsSentInWindow top None = Unit {0}
IsSentInWindow top (Some c) = (c.number < top) × (top ≤ c.number + 7)

-- where it arrives at r: r - 7 ≤ n ≤ r + 6, so that only n = r can be taken
abbrev pub IsNear : {T : Type 0} → ℕ → Option (Numbered T) → Type 0
IsNear r None = Unit {0}
IsNear r (Some c) = (r ≤ c.number + 7) × (c.number ≤ r + 6) × (c.number % 8 ≡ r % 8 → c.number ≡ r)

-- each frame on the way to the end that has taken r items
abbrev pub AllInWindow : {T : Type 0} → ℕ → List (Frame T) → Type 0
AllInWindow r [] = Unit {0}
AllInWindow r (f ∷ fs) = IsSentInWindow f.top f.carried × (r ≤ f.top) × IsNear r f.carried × AllInWindow r fs

-- the numbers behind the N(R)s never fall from front to back, from `low` on and up to `high`
abbrev pub Rising : {T : Type 0} → ℕ → List (Frame T) → ℕ → Type 0
Rising low [] high = low ≤ high
Rising low (f ∷ fs) high = (low ≤ f.ack) × Rising f.ack fs high

-- one direction: the end that gives, the one that takes, the line there and the line back
pub record WayInWindow {T : Type 0} (giver taker : End T) (there back : List (Frame T)) : Type 0 where
  pub acked : giver.acked ≤ length taker.taken
  pub taken : length taker.taken ≤ giver.sent
  pub room : giver.sent ≤ giver.acked + giver.window
  pub frames : AllInWindow (length taker.taken) there
  pub acks : Rising giver.acked back giver.sent
  pub begins : IsPrefix taker.taken giver.given
  pub all : giver.acked ≡ length giver.given → taker.taken ≡ giver.given

pub record InWindow {T : Type 0} (w : Line T) : Type 0 where
  pub there : WayInWindow w.near w.far w.out w.back
  pub back : WayInWindow w.far w.near w.back w.out
