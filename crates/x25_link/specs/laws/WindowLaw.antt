-- Each step of a station that is Up: what it hears and hands up, and after that what it sends; exactly when Up is left,
-- and with which frames; and that a station that is out stays out.
use Rattle.std.specs.Prelude.{◌≡◌, ℕ, ◌+◌, ◌%◌, ◌≤◌, nat_le, nat_lt, Bool, true, false, if◌then◌else◌, List, [], ◌∷◌}
use Rattle.std.specs.Prelude.{length, Option, Some, None, Result, Ok, Err}
use Rattle.x25_frame.specs.Frame.{PlainFrame, info, rr, rnr, rej, sabm, disc, ua, dm, frmr}
use Rattle.x25_frame.specs.Reading.{frame_of}
use Rattle.x25_frame.specs.declared.error.FrameError.{FrameError}
use Rattle.x25_frame.specs.declared.error.FrameError.TheVariants.{Short, BadFcs, BadAddress, Undefined, NoInfoAllowed}
use Rattle.x25_frame.specs.declared.error.FrameError.TheVariants.{TooLong}
use Rattle.x25_window.specs.code.Modulo.{resolved}
use Rattle.x25_link.specs.declared.phase.Phase.{Phase}
use Rattle.x25_link.specs.declared.phase.Phase.TheVariants.{Down, Waiting, Up, Closed}
use Rattle.x25_link.specs.declared.phase.Reason.{Reason}
use Rattle.x25_link.specs.declared.phase.Reason.TheVariants.{Retries, Disc, Dm, FrmrSent, FrmrGot, Reset, Local, Counts}
use Rattle.x25_link.specs.Outgoing.{Outgoing, no_packet}
use Rattle.x25_link.specs.Station.{LinkSettings, LinkStation, is_up}
use Rattle.x25_link.specs.Hearing.{LinkStep, other}
use Rattle.x25_link.specs.Link.{take_step, put_step, timer_step, disconnect_step, abandon_step}
use Rattle.x25_window.specs.laws.Window.{after}
use Rattle.x25_window.specs.laws.Window.EndStep.{HandDown, Hear, Take}
use Rattle.x25_link.specs.laws.WindowMachine.{Window, Input, hands_down, receives, nothing, Runs}

-- ---- a station as a window machine

abbrev pub window_in : ℕ → Outgoing → List (List ℕ) → Window
window_in k o taken = record { window = k; given = o.given; acked = o.acked; sent = o.sent; taken = taken }

-- what the machine has of a station
abbrev pub window_of : ℕ → LinkStation → Window
window_of k s = window_in k s.outgoing s.taken

-- V(S) lies where frames may be sent from, and no more than k frames stand unacknowledged
pub record IsSound (k : ℕ) (o : Outgoing) : Type 0 where
  pub place_low : o.acked ≤ o.place
  pub place_high : o.place ≤ o.sent
  pub sent_high : o.sent ≤ length o.given
  pub room : o.sent ≤ o.acked + k

-- what octets bring
abbrev pub brought_by : Result PlainFrame FrameError → Input
brought_by (Ok frame) = receives frame
brought_by (Err e) = nothing

-- a station that is Up, at rest or not
pub record IsRunning (k : ℕ) (s : LinkStation) : Type 0 where
  pub up : is_up s.phase ≡ true
  pub sound : IsSound k s.outgoing

-- ---- what a call brings

-- the packet that is handed up is taken
abbrev pub taken_up : Option (List ℕ) → Window → Window
taken_up None w = w
taken_up (Some x) w = after w (Take 0 x)

-- an N(R) is heard exactly once, and then what is handed up is taken
abbrev pub after_frame : PlainFrame → Option (List ℕ) → Window → Window
after_frame (info ns nr p x) packet w = taken_up packet (after w (Hear nr))
after_frame (rr command nr pf) packet w = after w (Hear nr)
after_frame (rnr command nr pf) packet w = after w (Hear nr)
after_frame (rej command nr pf) packet w = after w (Hear nr)
after_frame frame packet w = w

abbrev pub after_input : Input → Option (List ℕ) → Window → Window
after_input (hands_down x) packet w = after w (HandDown x)
after_input (receives frame) packet w = after_frame frame packet w
after_input nothing packet w = w

-- only the packet of the I frame that is wanted may be handed up
abbrev pub FrameMayHandUp : PlainFrame → List ℕ → Window → Type 0
FrameMayHandUp (info ns nr p x) y w = (ns ≡ length w.taken % 8) × (x ≡ y)
FrameMayHandUp frame y w = ⊥

abbrev pub InputMayHandUp : Input → List ℕ → Window → Type 0
InputMayHandUp (receives frame) y w = FrameMayHandUp frame y w
InputMayHandUp input y w = ⊥

abbrev pub MayHandUp : Input → Option (List ℕ) → Window → Type 0
MayHandUp input None w = Unit {0}
MayHandUp input (Some y) w = InputMayHandUp input y w

-- ---- when Up is left

-- an N(R) that stands for none of the numbers awaited is answered by FRMR
abbrev pub if_valid : ℕ → Window → Option Reason
if_valid nr w = if nat_le (resolved w.acked nr) w.sent then None else Some FrmrSent

abbrev pub ending_of_frame : PlainFrame → Window → Option Reason
ending_of_frame (info ns nr p x) w = if_valid nr w
ending_of_frame (rr command nr pf) w = if_valid nr w
ending_of_frame (rnr command nr pf) w = if_valid nr w
ending_of_frame (rej command nr pf) w = if_valid nr w
ending_of_frame (sabm p) w = Some Reset
ending_of_frame (disc p) w = Some Disc
ending_of_frame (ua f) w = None
ending_of_frame (dm f) w = Some Dm
ending_of_frame (frmr f why) w = Some FrmrGot

abbrev pub ending_of : Result PlainFrame FrameError → Window → Option Reason
ending_of (Ok frame) w = ending_of_frame frame w
ending_of (Err Short) w = None
ending_of (Err BadFcs) w = None
ending_of (Err BadAddress) w = None
ending_of (Err (Undefined control)) w = Some FrmrSent
ending_of (Err (NoInfoAllowed control)) w = Some FrmrSent
ending_of (Err TooLong) w = Some FrmrSent

-- the phase after Up
abbrev pub ends_in : Reason → Phase
ends_in Retries = Down
ends_in Disc = Down
ends_in Dm = Down
ends_in FrmrSent = Down
ends_in FrmrGot = Down
ends_in Reset = Up
ends_in Local = Closed
ends_in Counts = Down

-- what is sent where Up is left
abbrev pub AreLast : Reason → List PlainFrame → Type 0
AreLast Retries frames = frames ≡ []
AreLast Disc frames = (p : Bool) × (frames ≡ ua p ∷ [])
AreLast Dm frames = frames ≡ []
AreLast FrmrSent frames = (f : Bool) × (why : List ℕ) × (frames ≡ frmr f why ∷ [])
AreLast FrmrGot frames = frames ≡ []
AreLast Reset frames = (p : Bool) × (frames ≡ ua p ∷ [])
AreLast Local frames = frames ≡ disc true ∷ []
AreLast Counts frames = frames ≡ []

-- ---- steps in Up

-- the station stays Up: what is brought is heard and taken, and then frames are sent
pub record Stays (k : ℕ) (input : Input) (s : LinkStation) (step : LinkStep) : Type 0 where
  pub up : is_up step.side.near.phase ≡ true
  pub sound : IsSound k step.side.near.outgoing
  pub hands_up : MayHandUp input step.packet (window_of k s)
  pub sends : Runs (after_input input step.packet (window_of k s)) (window_of k step.side.near) step.side.out
  pub quiet : step.notes ≡ record { down = None; up = false }

-- Up is left, or begins afresh: nothing is handed up, and all lists are empty
pub record Ends (reason : Reason) (step : LinkStep) : Type 0 where
  pub frames : AreLast reason step.side.out
  pub packet : step.packet ≡ None
  pub phase : step.side.near.phase ≡ ends_in reason
  pub outgoing : step.side.near.outgoing ≡ no_packet
  pub taken : step.side.near.taken ≡ []
  pub noted : step.notes.down ≡ Some reason

-- it is left exactly where there is a reason
abbrev pub Follows : Option Reason → ℕ → Input → LinkStation → LinkStep → Type 0
Follows None k input s step = Stays k input s step
Follows (Some reason) k input s step = Ends reason step

abbrev pub TakeFollows : Type 0
TakeFollows = (c : LinkSettings) (octets : List ℕ) (s : LinkStation) → IsRunning c.window s
    → (read : Result PlainFrame FrameError) → read ≡ frame_of (other c.role) c.longest octets →
    Follows (ending_of read (window_of c.window s)) c.window (brought_by read) s (take_step c octets s)

abbrev pub PutFollows : Type 0
PutFollows = (c : LinkSettings) (packet : List ℕ) (s : LinkStation) → IsRunning c.window s
    → Stays c.window (hands_down packet) s (put_step c packet s)

abbrev pub TimerFollows : Type 0
TimerFollows = (c : LinkSettings) (s : LinkStation) → IsRunning c.window s
    → Follows (if nat_lt s.tries c.retries then None else Some Retries) c.window nothing s (timer_step c s)

abbrev pub DisconnectFollows : Type 0
DisconnectFollows = (c : LinkSettings) (s : LinkStation) → IsRunning c.window s → Ends Local (disconnect_step c s)

abbrev pub AbandonFollows : Type 0
AbandonFollows = (c : LinkSettings) (s : LinkStation) → IsRunning c.window s → Ends Counts (abandon_step c s)

-- ---- steps of a station that is out

abbrev pub IsOut : Phase → Type 0
IsOut Down = Unit {0}
IsOut Waiting = ⊥
IsOut Up = ⊥
IsOut Closed = Unit {0}

abbrev pub sets_up : Result PlainFrame FrameError → Bool
sets_up (Ok (sabm p)) = true
sets_up (Ok frame) = false
sets_up (Err e) = false

-- DM, or nothing
abbrev pub AreDeclining : List PlainFrame → Type 0
AreDeclining [] = Unit {0}
AreDeclining (dm f ∷ frames) = AreDeclining frames
AreDeclining (frame ∷ frames) = ⊥

-- only DM is sent, and nothing is handed up or noted
pub record StaysOut (step : LinkStep) : Type 0 where
  pub out : IsOut step.side.near.phase
  pub frames : AreDeclining step.side.out
  pub packet : step.packet ≡ None
  pub quiet : step.notes ≡ record { down = None; up = false }

abbrev pub TakeStaysOut : Type 0
TakeStaysOut = (c : LinkSettings) (octets : List ℕ) (s : LinkStation) → IsOut s.phase
    → sets_up (frame_of (other c.role) c.longest octets) ≡ false →
    StaysOut (take_step c octets s)

-- DISC alone is sent
pub record ClosesOut (step : LinkStep) : Type 0 where
  pub phase : step.side.near.phase ≡ Closed
  pub frames : step.side.out ≡ disc true ∷ []
  pub packet : step.packet ≡ None
  pub quiet : step.notes ≡ record { down = None; up = false }

abbrev pub DisconnectStaysOut : Type 0
DisconnectStaysOut = (c : LinkSettings) (s : LinkStation) → IsOut s.phase → ClosesOut (disconnect_step c s)

-- the laws together
pub record StationLaws : Type 0 where
  pub take : TakeFollows
  pub put : PutFollows
  pub timer : TimerFollows
  pub disconnect : DisconnectFollows
  pub abandon : AbandonFollows
  pub take_out : TakeStaysOut
  pub disconnect_out : DisconnectStaysOut
