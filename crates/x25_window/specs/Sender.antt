-- The sending half of the window machine, on the whole list of items and unbounded numbers.
-- ITU-T X.25 (10/96), section 2.3.2: item n of the list goes in the frame with N(S) n modulo 8. The frames from `acked`
-- on aren't acknowledged; at most k of them (section 2.4.8.6) stand at a time.
use Rattle.std.specs.Prelude.{ℕ, ◌≡◌, ◌+◌, ◌%◌, ◌≤◌, List, [], ◌∷◌, ◌++◌, length, max, ◌==◌, if◌then◌else◌}

-- All items that were given a number, whose length is the highest number ever sent plus one. How many of them are
-- acknowledged. V(S), the number of the frame that is sent next, which falls back where frames are sent again. And k.
pub record Sending (T : Type 0) : Type 0 where
  pub given : List T
  pub acked : ℕ
  pub place : ℕ
  pub window : ℕ

pub record IsSending {T : Type 0} (w : Sending T) : Type 0 where
  pub window_low : 1 ≤ w.window
  pub window_high : w.window ≤ 7
  pub place_low : w.acked ≤ w.place
  pub place_high : w.place ≤ length w.given
  pub room : length w.given ≤ w.acked + w.window

abbrev pub fresh : {T : Type 0} → ℕ → Sending T
fresh k = record { given = []; acked = 0; place = 0; window = k }

-- A further item is sent, with the next number (section 2.4.5.1). Where frames are still to be sent again, V(S) stays.
abbrev pub offered : {T : Type 0} → Sending T → T → Sending T
offered w x = record w {
  given = w.given ++ x ∷ [];
  place = if w.place == length w.given then w.place + 1 else w.place;
}

-- the frame at V(S) is sent again
abbrev pub moved_on : {T : Type 0} → Sending T → Sending T
moved_on w = record w { place = w.place + 1 }

-- V(S) falls back to the first frame that isn't acknowledged
abbrev pub from_acked : {T : Type 0} → Sending T → Sending T
from_acked w = record w { place = w.acked }

-- all frames below n are acknowledged
abbrev pub acknowledged : {T : Type 0} → Sending T → ℕ → Sending T
acknowledged w n = record w { acked = n; place = max w.place n }

-- n is a number that an N(R) of x may stand for: from the first that isn't acknowledged to the highest sent plus one
pub record Acknowledges {T : Type 0} (w : Sending T) (x n : ℕ) : Type 0 where
  pub low : w.acked ≤ n
  pub high : n ≤ length w.given
  pub same : n % 8 ≡ x
