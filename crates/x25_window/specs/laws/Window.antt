-- The window machine of one end, on whole lists and unbounded numbers: what the end may do, and what that makes of it.
-- When to send, and whether to take an item that may be taken, is free. A sender and a receiver hold its two halves:
-- `Sending` is what an end has sent, with V(S) beside it, and `FitsTaken` counts what it has taken.
-- ITU-T X.25 (10/96), sections 2.3.2, 2.4.5 and 2.4.8.6.
use Rattle.std.specs.Prelude.{ℕ, ◌≡◌, ◌+◌, ◌%◌, ◌<◌, ◌≤◌, List, [], ◌∷◌, ◌++◌, length, slice_get, max, Option, Some}
use Rattle.std.specs.Prelude.{None}
use Rattle.x25_window.specs.code.Modulo.{resolved}

-- k; all items handed down; how many of these are acknowledged; the highest number ever sent plus one; and all items
-- handed up, whose number is V(R)
pub record End (T : Type 0) : Type 0 where
  pub window : ℕ
  pub given : List T
  pub acked : ℕ
  pub sent : ℕ
  pub taken : List T

abbrev pub fresh_end : {T : Type 0} → ℕ → End T
fresh_end k = record { window = k; given = []; acked = 0; sent = 0; taken = [] }

pub data EndStep (T : Type 0) : Type 0 where
  -- an item is handed down
  HandDown : (item : T) → EndStep T
  -- the I frame of this number is sent, for the first time or again
  Send : (number : ℕ) → EndStep T
  -- a frame without an item is sent
  Tell : EndStep T
  -- an N(R) comes
  Hear : (ack : ℕ) → EndStep T
  -- an item with this N(S) comes, and is taken
  Take : (number : ℕ) → (item : T) → EndStep T

-- The frame of number n may be sent from the first that isn't acknowledged to the first that was never sent, fewer than
-- k at a time. An N(R) is valid where it stands for a number from the first that isn't acknowledged to the highest sent
-- plus one. Only the item whose N(S) is V(R) modulo 8 may be taken.
abbrev pub Allows : {T : Type 0} → End T → EndStep T → Type 0
Allows e (HandDown item) = Unit {0}
Allows e (Send n) = (e.acked ≤ n) × (n ≤ e.sent) × (n < e.acked + e.window) × (n < length e.given)
Allows e Tell = Unit {0}
Allows e (Hear ack) = resolved e.acked ack ≤ e.sent
Allows e (Take number item) = number ≡ length e.taken % 8

abbrev pub after : {T : Type 0} → End T → EndStep T → End T
after e (HandDown item) = record {
  window = e.window;
  given = e.given
      ++ item ∷ [];
  acked = e.acked;
  sent = e.sent;
  taken = e.taken;
}
after e (Send n) = record {
  window = e.window;
  given = e.given;
  acked = e.acked;
  sent = max e.sent
      (n + 1);
  taken = e.taken;
}
after e Tell = e
after e (Hear ack) = record {
  window = e.window;
  given = e.given;
  acked = resolved e.acked ack;
  sent = e.sent;
  taken = e.taken;
}
after e (Take number item) = record {
  window = e.window;
  given = e.given;
  acked = e.acked;
  sent = e.sent;
  taken = e.taken ++ item ∷ [];
}

-- an item with its number
pub record Numbered (T : Type 0) : Type 0 where
  pub number : ℕ
  pub item : T

-- A frame that has an N(R), and perhaps an item, by its whole numbers: what goes over the line is these modulo 8.
-- `top` is the highest number ever sent plus one of its sender as it was sent: no step reads it.
pub record Frame (T : Type 0) : Type 0 where
  pub carried : Option (Numbered T)
  pub ack : ℕ
  pub top : ℕ

abbrev pub numbered : {T : Type 0} → ℕ → Option T → Option (Numbered T)
numbered n (Some item) = Some (record { number = n; item = item })
numbered n None = None

abbrev pub frame_of : {T : Type 0} → End T → Option (Numbered T) → Frame T
frame_of e carried = record { carried = carried; ack = length e.taken; top = e.sent }

-- the frames that a step sends
abbrev pub frames_of : {T : Type 0} → End T → EndStep T → List (Frame T)
frames_of e (HandDown item) = []
frames_of e (Send n) = frame_of (after e (Send n)) (numbered n (slice_get e.given n)) ∷ []
frames_of e Tell = frame_of e None ∷ []
frames_of e (Hear ack) = []
frames_of e (Take number item) = []
