-- The window machine of `x25_window` with packets as items: what a call brings to it, the frames of LAPB that show what
-- it sends, and runs that only send. ITU-T X.25 (10/96), sections 2.3.2 and 2.4.5.
use Rattle.std.specs.Prelude.{◌≡◌, ℕ, ◌%◌, false, List, [], ◌∷◌, ◌++◌, Option, Some, None}
use Rattle.x25_frame.specs.Frame.{PlainFrame, info, rr, rnr, rej}
use Rattle.x25_window.specs.laws.Window.{End, EndStep, Numbered, Frame, Allows, after, frames_of}
use Rattle.x25_window.specs.laws.Window.EndStep.{Send, Tell}

abbrev pub Window : Type 0
Window = End (List ℕ)

-- ---- what a call brings

pub data Input : Type 0 where
  hands_down : (packet : List ℕ) → Input
  receives : (frame : PlainFrame) → Input
  nothing : Input

-- ---- frames

abbrev pub ShowsItem : Option (Numbered (List ℕ)) → ℕ → List ℕ → Type 0
ShowsItem None ns packet = ⊥
ShowsItem (Some c) ns packet = (ns ≡ c.number % 8) × (packet ≡ c.item)

-- A frame on the line shows one of the machine: an I frame (with P=0) where that carries an item, else RR, RNR or REJ,
-- and the numbers modulo 8.
abbrev pub Shows : PlainFrame → Frame (List ℕ) → Type 0
Shows (info ns nr p packet) f = ShowsItem f.carried ns packet × (nr ≡ f.ack % 8) × (p ≡ false)
Shows (rr command nr pf) f = (f.carried ≡ None) × (nr ≡ f.ack % 8)
Shows (rnr command nr pf) f = (f.carried ≡ None) × (nr ≡ f.ack % 8)
Shows (rej command nr pf) f = (f.carried ≡ None) × (nr ≡ f.ack % 8)
Shows frame f = ⊥

-- frame by frame
abbrev pub ShowAll : List PlainFrame → List (Frame (List ℕ)) → Type 0
ShowAll [] [] = Unit {0}
ShowAll (frame ∷ frames) (f ∷ fs) = Shows frame f × ShowAll frames fs
ShowAll [] (f ∷ fs) = ⊥
ShowAll (frame ∷ frames) [] = ⊥

-- ---- runs

abbrev pub IsSent : EndStep (List ℕ) → Type 0
IsSent (Send n) = Unit {0}
IsSent Tell = Unit {0}
IsSent step = ⊥

-- from one state to another by steps that send, with the frames that show what they send
pub data Runs (from : Window) : Window → List PlainFrame → Type 0 where
  rests : Runs from from []
  goes_on : (w : Window) (before : List PlainFrame) (step : EndStep (List ℕ)) (frames : List PlainFrame)
      → Runs from w before
      → IsSent step → Allows w step → ShowAll frames (frames_of w step) → Runs from (after w step) (before ++ frames)
