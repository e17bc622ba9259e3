-- Two link stations joined by a line of octets that keeps order and may lose or visibly damage any frame (profile: the
-- line). Each act is of the near end, or of the line to it. The far end's acts are those of the two ends swapped.
use Rattle.std.specs.Prelude.{◌≡◌, ℕ, nat_lt, nat_le, Bool, true, false, not, ◌||◌, if◌then◌else◌, List, [], ◌∷◌, ◌++◌}
use Rattle.std.specs.Prelude.{length, map, Option, Some, None, option_to_list}
use Rattle.x25_bits.specs.FrameCheck.Sealed.{is_sealed}
use Rattle.x25_frame.specs.{Frame.{PlainFrame}, Spelling.{spelling_of}}
use Rattle.x25_link.specs.{declared.error.LinkError.{LinkError}, declared.phase.Reason.{Reason}}
use Rattle.x25_link.specs.{Station.{LinkSettings, LinkStation, is_up, fresh}, Hearing.{LinkStep}}
use Rattle.x25_link.specs.Link.{take_step, put_step, put_refusal, timer_step, timer_refusal, connect_step}
use Rattle.x25_link.specs.Link.{connect_refusal, disconnect_step, disconnect_refusal, abandon_step}
use Rattle.x25_line.specs.laws.Loss.{remove, replaced}

-- A station, all packets that were handed down to it and that it handed up, the reasons of each LinkDown that it noted,
-- and whether it ever noted LinkUp, by which the link was set up anew.
pub record StationEnd : Type 0 where
  pub station : LinkStation
  pub down : List (List ℕ)
  pub up : List (List ℕ)
  pub reasons : List Reason
  pub came_up : Bool

-- The ends; the octets on the line from the near end and on the line to it, front first; and all frames ever sent.
pub record Stations : Type 0 where
  pub near : StationEnd
  pub far : StationEnd
  pub out : List (List ℕ)
  pub back : List (List ℕ)
  pub sent : List PlainFrame

abbrev pub stations_swapped : Stations → Stations
stations_swapped w = record { near = w.far; far = w.near; out = w.back; back = w.out; sent = w.sent }

-- ---- acts

-- after a step of the near end: `back` is what is left on the line to it, and `down` what was handed down
abbrev pub after_step : LinkSettings → Stations → List (List ℕ) → List (List ℕ) → LinkStep → Stations
after_step c w back down step = record {
  near = record {
    station = step.side.near;
    down = w.near.down ++ down;
    up = w.near.up ++ option_to_list step.packet;
    reasons = w.near.reasons ++ option_to_list step.notes.down;
    came_up = w.near.came_up || step.notes.up;
  };
  far = w.far;
  out = w.out ++ map (spelling_of c.role) step.side.out;
  back = back;
  sent = w.sent ++ step.side.out;
}

-- what is refused changes nothing
abbrev pub unless : {W : Type 0} → Option LinkError → W → W → W
unless (Some e) w done = w
unless None w done = done

-- the front octets are taken off the line, and by the near end
abbrev pub delivered : LinkSettings → List (List ℕ) → Stations → Stations
delivered c [] w = w
delivered c (octets ∷ back) w = after_step c w back [] (take_step c octets w.near.station)

-- damage is visible: what comes is fewer than four octets, or fails its frame check sequence
abbrev pub is_visible : List ℕ → Bool
is_visible octets = nat_lt (length octets) 4 || not (is_sealed octets)

-- octets come in the place of others, and that is seen
abbrev pub IsSeen : List ℕ → List ℕ → Type 0
IsSeen old octets = is_visible octets ≡ true

pub data Act : Type 0 where
  -- a packet of at most N1 octets is handed down
  Put : (packet : List ℕ) → Act
  -- the front octets come
  Deliver : Act
  -- timer T1 runs out
  T1 : Act
  Connect : Act
  Disconnect : Act
  -- the link is left without a frame
  Abandon : Act
  -- an idle link is asked: as T1, whether that runs or not
  Probe : Act
  -- the octets at this place of the line are lost, or others come in their place
  Lose : (place : ℕ) → Act
  Damage : (place : ℕ) → (octets : List ℕ) → Act

-- The acts by which a station takes no octets and is given no packet, in any world. `done` is what a step of it makes
-- of that, and what is refused changes nothing.
abbrev pub own_act : {W : Type 0} → LinkSettings → LinkStation → W → (LinkStep → W) → Act → W
own_act c s w done T1 = unless (timer_refusal s) w (done (timer_step c s))
own_act c s w done Connect = unless (connect_refusal s.phase) w (done (connect_step c s))
own_act c s w done Disconnect = unless (disconnect_refusal s.phase) w (done (disconnect_step c s))
own_act c s w done Abandon = if is_up s.phase then done (abandon_step c s) else w
own_act c s w done Probe = if is_up s.phase then done (timer_step c s) else w
own_act c s w done act = w

abbrev pub acts : LinkSettings → Act → Stations → Stations
acts c (Put packet) w = if nat_le (length packet) c.longest
    then unless (put_refusal w.near.station) w (after_step c w w.back (packet ∷ []) (put_step c packet w.near.station))
    else w
acts c Deliver w = delivered c w.back w
acts c (Lose i) w = record w { back = remove w.back i }
acts c (Damage i octets) w = if is_visible octets then record w { back = replaced w.back i (λ _. octets) } else w
acts c act w = own_act c w.near.station w (after_step c w w.back []) act

-- ---- runs

pub data LinkEvent : Type 0 where
  Near : (act : Act) → LinkEvent
  Far : (act : Act) → LinkEvent

abbrev pub happens : LinkSettings → LinkSettings → LinkEvent → Stations → Stations
happens c d (Near act) w = acts c act w
happens c d (Far act) w = stations_swapped (acts d act (stations_swapped w))

abbrev pub run : LinkSettings → LinkSettings → List LinkEvent → Stations → Stations
run c d [] w = w
run c d (e ∷ es) w = run c d es (happens c d e w)

abbrev pub fresh_station : StationEnd
fresh_station = record { station = fresh; down = []; up = []; reasons = []; came_up = false }

-- the link was just set up
abbrev pub start : Stations
start = record { near = fresh_station; far = fresh_station; out = []; back = []; sent = [] }
