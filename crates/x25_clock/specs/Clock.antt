-- The deadlines of one who has a clock beside a station (profile), and what each step of the station makes of them.
use Rattle.std.specs.Prelude.{ℕ, zero, suc, ◌+◌, ◌^◌, ◌==◌, nat_le, nat_lt, Bool, true, false, not, if◌then◌else◌, List}
use Rattle.std.specs.Prelude.{[], ◌∷◌, length, map, Option, Some, None, is_some}
use Rattle.x25_circuit.specs.declared.awaits.Awaits.{Awaits}
use Rattle.x25_circuit.specs.declared.awaits.Awaits.TheVariants.{Nothing, Acceptance, ResetConfirmation}
use Rattle.x25_circuit.specs.declared.awaits.Awaits.TheVariants.{ClearConfirmation, InterruptConfirmation}
use Rattle.x25_circuit.specs.Awaits.{is_any}
use Rattle.x25_layer.specs.Layer.{LayerSettings, Layer}
use Rattle.x25_link.specs.Link.{timer_runs}
use Rattle.x25_layer.specs.code.FitsLayer.{awaited_at, unacknowledged_at}
use Rattle.x25_station.specs.declared.step.Step as step_code
use Rattle.x25_station.specs.declared.timer.Timer.{Timer}
use Rattle.x25_station.specs.declared.timer.Timer.TheVariants.{Off, Begins, GoesOn}
use Rattle.x25_station.specs.Config.{Settings, layer_settings}
use Rattle.x25_station.specs.Station.{Station}
use Rattle.x25_station.specs.Station.Told.{is_at_rest}
use Rattle.x25_station.specs.Timer.{tells_link}
use Rattle.x25_clock.specs.declared.clock.Clock as code
use Rattle.x25_clock.specs.declared.due.Due.{Due}
use Rattle.x25_clock.specs.declared.due.Due.TheVariants as due
use Rattle.x25_clock.specs.declared.times.Times.{Times}
use Rattle.x25_clock.specs.declared.wait.Wait.{Wait}

-- of T1, of an idle link, of a restart, and on each channel of what is awaited there and of a data packet that isn't
-- acknowledged; no moment where nothing is, or where it may take for ever
pub record Deadlines : Type 0 where
  pub t1 : Option ℕ
  pub idle : Option ℕ
  pub restart : Option ℕ
  pub waits : List Wait

-- nothing is awaited on a channel, and all is acknowledged
abbrev pub nothing_on : ℕ → Wait
nothing_on h = record { channel = h; awaits = Nothing; until = None; unacknowledged = None; rotates = None }

-- what a list has of a channel
abbrev pub wait_at : ℕ → List Wait → Wait
wait_at h [] = nothing_on h
wait_at h (w ∷ ws) = if w.channel == h then w else wait_at h ws

-- what it has of so many channels from a number on
abbrev pub spread : ℕ → ℕ → List Wait → List Wait
spread zero first ws = []
spread (suc n) first ws = wait_at first ws ∷ spread n (first + 1) ws

abbrev pub plain : code.Clock → Deadlines
plain v = record { t1 = v.t1; idle = v.idle; restart = v.restart; waits = spread v.channels 1 v.waits.items }

-- channels from a number on, so many
abbrev pub channels_from : ℕ → ℕ → List Wait
channels_from first zero = []
channels_from first (suc n) = nothing_on first ∷ channels_from (first + 1) n

-- of a station with so many channels
abbrev pub nothing_awaited : ℕ → Deadlines
nothing_awaited channels = record { t1 = None; idle = None; restart = None; waits = channels_from 1 channels }

-- ---- moments, in milliseconds below 2^64; a time of 0 is for ever

abbrev pub deadline : ℕ → ℕ → Option ℕ
deadline now time = if time == 0 then None else if nat_lt (now + time) (2 ^ 64) then Some (now + time) else None

abbrev pub is_past : ℕ → Option ℕ → Bool
is_past now None = false
is_past now (Some moment) = nat_le moment now

abbrev pub sooner : Option ℕ → Option ℕ → Option ℕ
sooner None other = other
sooner (Some moment) None = Some moment
sooner (Some moment) (Some another) = if nat_le moment another then Some moment else Some another

-- ---- what each answer may take

abbrev pub number_of : Awaits → ℕ
number_of Nothing = 0
number_of Acceptance = 1
number_of ResetConfirmation = 2
number_of ClearConfirmation = 3
number_of InterruptConfirmation = 4

abbrev pub time_of : Times → Awaits → ℕ
time_of times Nothing = 0
time_of times Acceptance = times.t21
time_of times ResetConfirmation = times.t22
time_of times ClearConfirmation = times.t23
time_of times InterruptConfirmation = times.t26

-- ---- behind a step

-- What one who has a clock sees of a step and of the station after it: what T1 became, whether the link is at rest,
-- whether a restart is under way, whether the link came up or went down, whether something was heard, and of each
-- channel what it awaits and the first data packet that isn't acknowledged.
pub record Seen : Type 0 where
  pub timer : Timer
  pub at_rest : Bool
  pub restarting : Bool
  pub noted : Bool
  pub heard : Bool
  pub awaited : ℕ → Awaits
  pub unacknowledged : ℕ → Option ℕ

-- Octets came, and the station answers a frame or tells something. So a damaged frame isn't heard, nor one whose
-- address isn't the other end's, nor any other noise.
abbrev pub is_heard : {F E : Type 0} → Bool → List F → List E → Bool
is_heard come [] [] = false
is_heard come frames entries = come

abbrev pub seen : Settings → Station → step_code.Step → Bool → Seen
seen c s step come = record {
  timer = step.timer;
  at_rest = is_at_rest s;
  restarting = s.layer.restarting;
  noted = tells_link step.entries.items;
  heard = is_heard come step.frames step.entries.items;
  awaited = λ h. awaited_at (layer_settings c) s.layer h;
  unacknowledged = λ h. unacknowledged_at (layer_settings c) s.layer h;
}

-- What is seen as a clock begins beside a station, of which no step is heeded: T1 begins where it runs.
abbrev pub seen_first : Settings → Station → Seen
seen_first c s = record {
  timer = if timer_runs s.link.phase s.link then Begins else Off;
  at_rest = is_at_rest s;
  restarting = s.layer.restarting;
  noted = false;
  heard = false;
  awaited = λ h. awaited_at (layer_settings c) s.layer h;
  unacknowledged = λ h. unacknowledged_at (layer_settings c) s.layer h;
}

abbrev pub t1_after : Times → ℕ → Timer → Option ℕ → Option ℕ
t1_after times now Off old = None
t1_after times now GoesOn old = old
t1_after times now Begins old = deadline now times.t1

-- while something is so a deadline stands, from where it began on, or where it is to begin anew
abbrev pub running : Bool → Bool → Option ℕ → Option ℕ → Option ℕ
running false anew old new = None
running true true old new = new
running true false None new = new
running true false (Some moment) new = Some moment

abbrev pub since : Bool → ℕ → ℕ → Option ℕ
since stands now time = if stands then deadline now time else None

abbrev pub is_same : Option ℕ → Option ℕ → Bool
is_same (Some one) (Some other) = one == other
is_same one other = false

-- Another answer than before has its time from now on. So has another data packet than before as the first that isn't
-- acknowledged: P(R) moved, or it went out. Where the other end isn't ready to receive there is none, so that its time
-- stops.
abbrev pub wait_after : Times → ℕ → Awaits → Option ℕ → Wait → Wait
wait_after times now awaits first w = record {
  channel = w.channel;
  awaits = awaits;
  until = running (is_any awaits) (not (number_of w.awaits == number_of awaits)) w.until
      (deadline now (time_of times awaits));
  unacknowledged = first;
  rotates = running (is_some first) (not (is_same w.unacknowledged first)) w.rotates (deadline now times.t25);
}

abbrev pub heeded_on : Times → ℕ → LayerSettings → Layer → Wait → Wait
heeded_on times now c l w = wait_after times now (awaited_at c l w.channel) (unacknowledged_at c l w.channel) w

abbrev pub heeded : Times → ℕ → Seen → Deadlines → Deadlines
heeded times now x d = record {
  t1 = t1_after times now x.timer d.t1;
  idle = running x.at_rest x.heard d.idle (deadline now times.t3);
  restart = running x.restarting x.noted d.restart (deadline now times.t20);
  waits = map (λ w. wait_after times now (x.awaited w.channel) (x.unacknowledged w.channel) w) d.waits;
}

-- all that is awaited, of a clock that knew of none of it, is awaited from now on
abbrev pub begun : Times → ℕ → ℕ → Settings → Station → Deadlines
begun times now channels c s = heeded times now (seen_first c s) (nothing_awaited channels)

-- ---- what is due

-- the first moment from one on and those of channels
abbrev pub first_of : Option ℕ → List Wait → Option ℕ
first_of first [] = first
first_of first (w ∷ waits) = first_of (sooner (sooner first w.until) w.rotates) waits

abbrev pub next_of : Deadlines → Option ℕ
next_of d = first_of (sooner (sooner d.t1 d.idle) d.restart) d.waits

abbrev pub overdue_of : ℕ → List Wait → Option Wait
overdue_of now [] = None
overdue_of now (w ∷ waits) = if is_past now w.until then Some w else overdue_of now waits

-- the first channel of which a data packet wasn't acknowledged
abbrev pub unmoved_of : ℕ → List Wait → Option ℕ
unmoved_of now [] = None
unmoved_of now (w ∷ waits) = if is_past now w.rotates then Some w.channel else unmoved_of now waits

-- an interrupt that isn't confirmed is reset, a call or a reset that isn't answered is cleared, and a clearing that
-- isn't confirmed ends by a restart
abbrev pub asked_for : ℕ → Awaits → Option Due
asked_for h Nothing = None
asked_for h Acceptance = Some (due.Clear h)
asked_for h ResetConfirmation = Some (due.Clear h)
asked_for h ClearConfirmation = Some (due.Restart h)
asked_for h InterruptConfirmation = Some (due.Reset h)

abbrev pub due_on : Wait → Option Due
due_on w = asked_for w.channel w.awaits

-- how much may be due at one moment: T1, an idle link, a restart, and on each channel what it awaits and T25
abbrev pub most_due : Deadlines → ℕ
most_due d = 3 + (length d.waits + length d.waits)

-- T1; a restart that isn't confirmed, by which the link is set up anew; the first channel of which an answer is due;
-- the first on which T25 has passed; an idle link
abbrev pub unless_on : Option Wait → Option Due → Option Due
unless_on None other = other
unless_on (Some w) other = due_on w

abbrev pub unless_unmoved : Option ℕ → Option Due → Option Due
unless_unmoved None other = other
unless_unmoved (Some h) other = Some (due.ResetUnacknowledged h)

abbrev pub due_of : ℕ → Deadlines → Option Due
due_of now d = if is_past now d.t1 then Some due.T1
    else if is_past now d.restart then Some due.Relink
    else unless_on (overdue_of now d.waits) (unless_unmoved (unmoved_of now d.waits)
    (if is_past now d.idle then Some due.Probe else None))

-- the time of the answer on a channel begins anew
abbrev pub renewed : Times → ℕ → ℕ → Wait → Wait
renewed times now h w = if not (w.channel == h) then w
    else record {
      channel = w.channel;
      awaits = w.awaits;
      until = deadline now (time_of times w.awaits);
      unacknowledged = w.unacknowledged;
      rotates = w.rotates;
    }

-- that of a data packet on a channel does
abbrev pub rotated : Times → ℕ → ℕ → Wait → Wait
rotated times now h w = if not (w.channel == h) then w
    else record {
      channel = w.channel;
      awaits = w.awaits;
      until = w.until;
      unacknowledged = w.unacknowledged;
      rotates = since (is_some w.unacknowledged) now times.t25;
    }

-- What is told as due has its time anew, so that it is asked again where it is refused; all else is as it was.
abbrev pub renewed_on : Times → ℕ → Option Wait → Option ℕ → Bool → Deadlines → Deadlines
renewed_on times now None None true d = record d { idle = deadline now times.t3 }
renewed_on times now None None false d = d
renewed_on times now None (Some h) idle d = record d { waits = map (rotated times now h) d.waits }
renewed_on times now (Some x) unmoved idle d = record d { waits = map (renewed times now x.channel) d.waits }

abbrev pub after_due : Times → ℕ → Deadlines → Deadlines
after_due times now d = if is_past now d.t1 then record d { t1 = deadline now times.t1 }
    else if is_past now d.restart then record d { restart = deadline now times.t20 }
    else renewed_on times now (overdue_of now d.waits) (unmoved_of now d.waits) (is_past now d.idle) d
