-- What a station does in set-up: connect, SABM and UA, and what comes while UA is awaited (section 2.4.4.1).
use Rattle.std.specs.Prelude.{◌≡◌, ℕ, suc, nat_lt, Bool, true, false, if◌then◌else◌, List, [], ◌∷◌, Option, Some, None}
use Rattle.std.specs.Prelude.{Result, Ok, Err, ◌&&◌}
use Rattle.x25_frame.specs.Frame.{PlainFrame, sabm, disc, ua, dm}
use Rattle.x25_frame.specs.Reading.{frame_of}
use Rattle.x25_frame.specs.Spelling.{is_command, poll_or_final}
use Rattle.x25_frame.specs.declared.error.FrameError.{FrameError}
use Rattle.x25_link.specs.declared.phase.Phase.{Phase}
use Rattle.x25_link.specs.declared.phase.Phase.TheVariants.{Down, Waiting, Up, Closed}
use Rattle.x25_link.specs.declared.phase.Reason.{Reason}
use Rattle.x25_link.specs.declared.phase.Reason.TheVariants.{Retries, Reset, Local}
use Rattle.x25_link.specs.declared.phase.Closing.{Closing}
use Rattle.x25_link.specs.declared.phase.Closing.TheVariants.{Asked, Ended}
use Rattle.x25_link.specs.declared.phase.Ending.{Ending}
use Rattle.x25_link.specs.declared.phase.Ending.TheVariants.{ByUa, ByDm, GivenUp}
use Rattle.x25_link.specs.Station.{LinkSettings, LinkStation, fresh, with_nothing, disconnected, is_up}
use Rattle.x25_link.specs.Hearing.{LinkStep, other}
use Rattle.x25_link.specs.Link.{take_step, timer_step, connect_step, disconnect_step, abandon_step, relink_step}

-- the station after a step, what was sent, and whether the link went down and up; nothing is handed up
pub record Is (station : LinkStation) (frames : List PlainFrame) (ends : Option Reason) (begins : Bool)
    (step : LinkStep) : Type 0 where
  pub near : step.side.near ≡ station
  pub out : step.side.out ≡ frames
  pub packet : step.packet ≡ None
  pub down : step.notes.down ≡ ends
  pub up : step.notes.up ≡ begins

-- ---- while UA is awaited

abbrev pub waiting_after : Result PlainFrame FrameError → LinkStation → LinkStation
waiting_after (Ok (ua true)) s = fresh
waiting_after (Ok frame) s = s
waiting_after (Err e) s = s

abbrev pub waiting_sends : Result PlainFrame FrameError → List PlainFrame
waiting_sends (Ok (sabm p)) = ua p ∷ []
waiting_sends (Ok (disc p)) = dm p ∷ []
waiting_sends (Ok frame) = []
waiting_sends (Err e) = []

abbrev pub waiting_up : Result PlainFrame FrameError → Bool
waiting_up (Ok (ua f)) = f
waiting_up (Ok frame) = false
waiting_up (Err e) = false

abbrev pub TakeWaits : Type 0
TakeWaits = (c : LinkSettings) (octets : List ℕ) (s : LinkStation) → s.phase ≡ Waiting
    → (read : Result PlainFrame FrameError) → read ≡ frame_of (other c.role) c.longest octets →
    Is (waiting_after read s) (waiting_sends read) None (waiting_up read) (take_step c octets s)

-- ---- SABM in Down and in Up

abbrev pub TakesPart : Phase → Type 0
TakesPart Down = Unit {0}
TakesPart Waiting = ⊥
TakesPart Up = Unit {0}
TakesPart Closed = ⊥

-- a link that was up went down
abbrev pub reset_from : Phase → Option Reason
reset_from Up = Some Reset
reset_from phase = None

abbrev pub TakeSetsUp : Type 0
TakeSetsUp = (c : LinkSettings) (octets : List ℕ) (s : LinkStation) → TakesPart s.phase → (p : Bool)
    → frame_of (other c.role) c.longest octets ≡ Ok (sabm p) →
    Is fresh (ua p ∷ []) (reset_from s.phase) true (take_step c octets s)

-- ---- connect, timer T1 and disconnect

abbrev pub ConnectWaits : Type 0
ConnectWaits = (c : LinkSettings) (s : LinkStation) → s.phase ≡ Down
    → Is (record s { phase = Waiting; tries = 0 }) (sabm true ∷ []) None false (connect_step c s)

abbrev pub TimerWaits : Type 0
TimerWaits = (c : LinkSettings) (s : LinkStation) → s.phase ≡ Waiting →
    Is (if nat_lt s.tries c.retries then record s { tries = suc s.tries } else with_nothing Down s.tries)
    (if nat_lt s.tries c.retries then sabm true ∷ [] else [])
    (if nat_lt s.tries c.retries then None else Some Retries) false (timer_step c s)

-- in each phase
abbrev pub DisconnectCloses : Type 0
DisconnectCloses = (c : LinkSettings) (s : LinkStation)
    → Is (disconnected c.disc_again) (disc true ∷ []) (if is_up s.phase then Some Local else None) false
    (disconnect_step c s)

-- ---- a station that is closed: what comes, and timer T1 where it awaits the answer to a DISC (section 2.4.4.3)

-- the answer that a DISC awaits ends that once, and none is awaited any more
abbrev pub ended_by : Ending → Closing → LinkStation → LinkStation
ended_by ending Asked s = record s { closing = Ended ending }
ended_by ending closing s = s

abbrev pub closed_after : Result PlainFrame FrameError → LinkStation → LinkStation
closed_after (Ok (ua true)) s = ended_by ByUa s.closing s
closed_after (Ok (dm true)) s = ended_by ByDm s.closing s
closed_after (Ok frame) s = s
closed_after (Err e) s = s

abbrev pub closed_sends : Result PlainFrame FrameError → List PlainFrame
closed_sends (Ok frame) = if is_command frame && poll_or_final frame then dm true ∷ [] else []
closed_sends (Err e) = []

abbrev pub TakeCloses : Type 0
TakeCloses = (c : LinkSettings) (octets : List ℕ) (s : LinkStation) → s.phase ≡ Closed
    → (read : Result PlainFrame FrameError) → read ≡ frame_of (other c.role) c.longest octets →
    Is (closed_after read s) (closed_sends read) None false (take_step c octets s)

-- DISC goes N2 times more
abbrev pub TimerCloses : Type 0
TimerCloses = (c : LinkSettings) (s : LinkStation) → s.phase ≡ Closed →
    Is (if nat_lt s.tries c.retries then record s { tries = suc s.tries } else ended_by GivenUp s.closing s)
    (if nat_lt s.tries c.retries then disc true ∷ [] else []) None false (timer_step c s)

-- relink is abandon, and then connect
pub record IsTwoSteps (c : LinkSettings) (s : LinkStation) : Type 0 where
  pub abandoned : (abandon_step c s).side ≡ record { near = with_nothing Down s.tries; out = [] }
  pub connected : (relink_step c s).side ≡ (connect_step c (with_nothing Down s.tries)).side

abbrev pub RelinkIsTwoSteps : Type 0
RelinkIsTwoSteps = (c : LinkSettings) (s : LinkStation) → IsTwoSteps c s

-- the laws together
pub record SetUpLaws : Type 0 where
  pub waits : TakeWaits
  pub sets_up : TakeSetsUp
  pub connects : ConnectWaits
  pub timer : TimerWaits
  pub disconnects : DisconnectCloses
  pub closes : TakeCloses
  pub timer_closes : TimerCloses
