-- Two ends over a line that keeps order and may lose any frame, as moves of the window machine (profile: the line).
-- Each move is of the near end, or of the line to it. The far end's moves are those of the two ends swapped.
use Rattle.std.specs.Prelude.{ℕ, ◌≡◌, ◌%◌, List, [], ◌∷◌, ◌++◌, length, Option, Some, None, Bool, true, false}
use Rattle.x25_window.specs.laws.Window.{End, EndStep, Numbered, Frame, Allows, after, frames_of}
use Rattle.x25_window.specs.laws.Window.EndStep.{HandDown, Send, Tell, Hear, Take}
use Rattle.x25_line.specs.laws.Loss.{remove}

-- the frames on the line from the near end, and on the line to it, front first
pub record Line (T : Type 0) : Type 0 where
  pub near : End T
  pub far : End T
  pub out : List (Frame T)
  pub back : List (Frame T)

abbrev pub line_swapped : {T : Type 0} → Line T → Line T
line_swapped w = record { near = w.far; far = w.near; out = w.back; back = w.out }

pub data Move (T : Type 0) : Type 0 where
  -- an item is handed down
  HandsDown : (item : T) → Move T
  -- the I frame of this number goes on the line
  Sends : (number : ℕ) → Move T
  -- a frame without an item goes on the line
  Tells : Move T
  -- the front frame arrives: its N(R) is heard, and its item is taken or not
  Arrives : (takes : Bool) → Move T
  -- the frame at this place is lost
  Loses : (place : ℕ) → Move T

-- what is taken is the item that is awaited
abbrev pub MayTake : {T : Type 0} → Bool → ℕ → Option (Numbered T) → Type 0
MayTake true taken (Some c) = c.number % 8 ≡ taken % 8
MayTake true taken None = Unit {0}
MayTake false taken c = Unit {0}

abbrev pub FrontMayBeTaken : {T : Type 0} → Bool → ℕ → List (Frame T) → Type 0
FrontMayBeTaken takes taken [] = Unit {0}
FrontMayBeTaken takes taken (f ∷ fs) = MayTake takes taken f.carried

-- what the window machine allows. That an N(R) that arrives is valid is no premise: it follows.
abbrev pub AllowsMove : {T : Type 0} → Line T → Move T → Type 0
AllowsMove w (HandsDown item) = Unit {0}
AllowsMove w (Sends n) = Allows w.near (Send n)
AllowsMove w Tells = Unit {0}
AllowsMove w (Arrives takes) = FrontMayBeTaken takes (length w.near.taken) w.back
AllowsMove w (Loses place) = Unit {0}

-- a step of the near end, whose frames go on the line
abbrev pub steps : {T : Type 0} → Line T → EndStep T → Line T
steps w s = record { near = after w.near s; far = w.far; out = w.out ++ frames_of w.near s; back = w.back }

abbrev pub takes_item : {T : Type 0} → Bool → Option (Numbered T) → End T → End T
takes_item true (Some c) e = after e (Take (c.number % 8) c.item)
takes_item true None e = e
takes_item false c e = e

-- the end once the frame has arrived
abbrev pub arrived : {T : Type 0} → Bool → Frame T → End T → End T
arrived takes f e = takes_item takes f.carried (after e (Hear (f.ack % 8)))

abbrev pub front_arrived : {T : Type 0} → Bool → List (Frame T) → Line T → Line T
front_arrived takes [] w = w
front_arrived takes (f ∷ fs) w = record { near = arrived takes f w.near; far = w.far; out = w.out; back = fs }

abbrev pub moved : {T : Type 0} → Move T → Line T → Line T
moved (HandsDown item) w = steps w (HandDown item)
moved (Sends n) w = steps w (Send n)
moved Tells w = steps w Tell
moved (Arrives takes) w = front_arrived takes w.back w
moved (Loses place) w = record { near = w.near; far = w.far; out = w.out; back = remove w.back place }
