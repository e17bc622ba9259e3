-- Each call of a link: when it is refused, and what it does.
-- ITU-T X.25 (10/96), section 2.4.4, and where it leaves a choice the profile.
use Rattle.std.specs.Prelude.{◌≡◌, ℕ, ◌+◌, ◌==◌, nat_lt, nat_le, Bool, true, false, not, ◌&&◌, ◌||◌, if◌then◌else◌}
use Rattle.std.specs.Prelude.{List, [], Option, Some, None, Result, Ok, Err, IfErr, IsOk}
use Rattle.x25_frame.specs.Frame.{PlainFrame, sabm, disc, ua, dm}
use Rattle.x25_frame.specs.Spelling.{is_command, poll_or_final}
use Rattle.x25_frame.specs.Reading.{frame_of}
use Rattle.x25_frame.specs.declared.error.FrameError.{FrameError}
use Rattle.x25_link.specs.declared.error.LinkError.{LinkError}
use Rattle.x25_link.specs.declared.error.LinkError.TheVariants as error
use Rattle.x25_link.specs.declared.phase.Phase.{Phase}
use Rattle.x25_link.specs.declared.phase.Phase.TheVariants.{Down, Waiting, Up, Closed}
use Rattle.x25_link.specs.declared.phase.Reason.TheVariants.{Retries, Local, Counts}
use Rattle.x25_link.specs.declared.phase.Closing.{Closing}
use Rattle.x25_link.specs.declared.phase.Closing.TheVariants.{Asked, Ended}
use Rattle.x25_link.specs.declared.phase.Ending.{Ending}
use Rattle.x25_link.specs.declared.phase.Ending.TheVariants.{ByUa, ByDm, GivenUp}
use Rattle.x25_link.specs.Outgoing.{waits, added}
use Rattle.x25_link.specs.Station.{LinkSettings, LinkStation, Side, with_nothing, fresh, is_up, with_near, sends, ready}
use Rattle.x25_link.specs.Station.{ended, disconnected, is_asked}
use Rattle.x25_link.specs.Hearing.{LinkStep, quiet, leaves, other, row_of}

-- the end of a step
abbrev pub closed_by : ℕ → LinkStep → LinkStep
closed_by k step = record { side = ended k step.side; packet = step.packet; notes = step.notes }

-- a station before its step
abbrev pub alone : LinkStation → Side
alone s = record { near = s; out = [] }

-- a refusal where one is due, and else want of memory alone
abbrev pub Refuses : {T : Type 0} → Option LinkError → Result T LinkError → Type 0
Refuses None result = IfErr result (λ e. e ≡ error.NoMemory)
Refuses (Some e) result = result ≡ Err e

-- a refusal where one is due, and else none
abbrev pub RefusesOnly : {T : Type 0} → Option LinkError → Result T LinkError → Type 0
RefusesOnly None result = IsOk result
RefusesOnly (Some e) result = result ≡ Err e

-- the link is set up
abbrev pub goes_up : Side → LinkStep
goes_up t = record { side = with_near t fresh; packet = None; notes = record { down = None; up = true } }

-- ---- frames outside of Up (sections 2.4.4.1 to 2.4.4.4)

-- a command with P=1 is answered by DM
abbrev pub declines : PlainFrame → Side → Side
declines frame t = if is_command frame && poll_or_final frame then sends (dm true) t else t

abbrev pub when_down : PlainFrame → Side → LinkStep
when_down (sabm p) t = goes_up (sends (ua p) t)
when_down (disc p) t = quiet (sends (dm p) t)
when_down frame t = quiet (declines frame t)

abbrev pub when_waiting : PlainFrame → Side → LinkStep
when_waiting (ua true) t = goes_up t
when_waiting (sabm p) t = quiet (sends (ua p) t)
when_waiting (disc p) t = quiet (sends (dm p) t)
when_waiting frame t = quiet t

-- what a DISC awaits ends so
abbrev pub answered : Ending → Closing → Side → Side
answered ending Asked t = with_near t (record t.near { closing = Ended ending })
answered ending closing t = t

-- UA and DM with F=1 answer a DISC (section 2.4.4.3)
abbrev pub when_closed : PlainFrame → Side → LinkStep
when_closed (ua true) t = quiet (answered ByUa t.near.closing t)
when_closed (dm true) t = quiet (answered ByDm t.near.closing t)
when_closed frame t = quiet (declines frame t)

-- octets that spell no frame do nothing outside of Up
abbrev pub if_read : (PlainFrame → Side → LinkStep) → Result PlainFrame FrameError → Side → LinkStep
if_read f (Ok frame) t = f frame t
if_read f (Err e) t = quiet t

-- by the phase
abbrev pub hears : LinkSettings → List ℕ → Result PlainFrame FrameError → Phase → Side → LinkStep
hears c octets read Down t = if_read when_down read t
hears c octets read Waiting t = if_read when_waiting read t
hears c octets read Up t = row_of c octets read t
hears c octets read Closed t = if_read when_closed read t

-- ---- new: k is 1 to 7, N1 1 to 4,099 octets, and N2 1 to 255

abbrev pub config_refusal : ℕ → ℕ → ℕ → Option LinkError
config_refusal k n1 n2 =
    if nat_le 1 k && (nat_le k 7 && (nat_le 1 n1 && (nat_le n1 4099 && nat_le 1 n2))) then None
    else Some error.BadConfig

-- ---- take

abbrev pub take_step : LinkSettings → List ℕ → LinkStation → LinkStep
take_step c octets s = closed_by c.window (hears c octets (frame_of (other c.role) c.longest octets) s.phase (alone s))

-- ---- put

abbrev pub put_refusal : LinkStation → Option LinkError
put_refusal s = if not (is_up s.phase) then Some error.NotUp
    else if waits s.outgoing == 256 then Some error.QueueFull
    else None

abbrev pub puts : List ℕ → Side → LinkStep
puts packet t = quiet (with_near t (record t.near { outgoing = added packet t.near.outgoing }))

abbrev pub put_step : LinkSettings → List ℕ → LinkStation → LinkStep
put_step c packet s = closed_by c.window (puts packet (alone s))

-- ---- connect and disconnect

abbrev pub connect_refusal : Phase → Option LinkError
connect_refusal Down = None
connect_refusal Waiting = Some error.AlreadyWaiting
connect_refusal Up = Some error.AlreadyUp
connect_refusal Closed = Some error.Closed

abbrev pub connects : Side → LinkStep
connects t = quiet (sends (sabm true) (with_near t (record t.near { phase = Waiting; tries = 0 })))

abbrev pub connect_step : LinkSettings → LinkStation → LinkStep
connect_step c s = closed_by c.window (connects (alone s))

abbrev pub disconnect_refusal : Phase → Option LinkError
disconnect_refusal Down = None
disconnect_refusal Waiting = None
disconnect_refusal Up = None
disconnect_refusal Closed = Some error.Closed

abbrev pub disconnects : Bool → Side → LinkStep
disconnects again t = record {
  side = sends (disc true) (with_near t (disconnected again));
  packet = None;
  notes = record { down = if is_up t.near.phase then Some Local else None; up = false };
}

abbrev pub disconnect_step : LinkSettings → LinkStation → LinkStep
disconnect_step c s = closed_by c.window (disconnects c.disc_again (alone s))

-- ---- timer T1

-- T1 runs while UA or the answer to a DISC is awaited, and in Up while frames are unacknowledged, in recovery, or while
-- the peer is busy
abbrev pub timer_runs : Phase → LinkStation → Bool
timer_runs Down s = false
timer_runs Waiting s = true
timer_runs Up s = nat_lt s.outgoing.acked s.outgoing.sent || (s.recovery || s.peer_busy)
timer_runs Closed s = is_asked s.closing

abbrev pub timer_refusal : LinkStation → Option LinkError
timer_refusal s = if timer_runs s.phase s then None else Some error.NotRunning

-- SABM or DISC again while its answer is awaited, and a poll in Up (sections 2.4.4.1, 2.4.4.3 and 2.4.5.9)
abbrev pub asks_again : Phase → Side → Side
asks_again Up t = ready true true (with_near t (record t.near { recovery = true }))
asks_again Closed t = sends (disc true) t
asks_again phase t = sends (sabm true) t

-- the last firing
abbrev pub gives_up : Phase → Side → LinkStep
gives_up Closed t = quiet (answered GivenUp t.near.closing t)
gives_up phase t = leaves Retries t

abbrev pub fires : LinkSettings → Side → LinkStep
fires c t =
    if nat_lt t.near.tries c.retries
    then quiet (asks_again t.near.phase (with_near t (record t.near { tries = t.near.tries + 1 })))
    else gives_up t.near.phase t

abbrev pub timer_step : LinkSettings → LinkStation → LinkStep
timer_step c s = closed_by c.window (fires c (alone s))

-- ---- probe: a link that is up is polled, as by timer T1 whether that runs or not (profile)

abbrev pub probe_refusal : Phase → Option LinkError
probe_refusal Down = Some error.NotUp
probe_refusal Waiting = Some error.NotUp
probe_refusal Up = None
probe_refusal Closed = Some error.Closed

-- ---- abandon: Up is left without a frame (profile)

abbrev pub abandon_step : LinkSettings → LinkStation → LinkStep
abandon_step c s = closed_by c.window (leaves Counts (alone s))

-- ---- relink: Up is left without a frame, and the link is set up anew (profile)

abbrev pub relink_refusal : Phase → Option LinkError
relink_refusal Down = Some error.NotUp
relink_refusal Waiting = Some error.AlreadyWaiting
relink_refusal Up = None
relink_refusal Closed = Some error.Closed

abbrev pub relinks : Side → LinkStep
relinks t = record {
  side = (connects (leaves Local t).side).side;
  packet = None;
  notes = record { down = Some Local; up = false };
}

abbrev pub relink_step : LinkSettings → LinkStation → LinkStep
relink_step c s = closed_by c.window (relinks (alone s))

-- ---- what is told

-- nothing waits, and all that was sent is acknowledged
abbrev pub is_idle : LinkStation → Bool
is_idle s = is_up s.phase && (waits s.outgoing == 0 && s.outgoing.acked == s.outgoing.sent)
