-- Two stations joined by a line of octets that keeps order and may lose or visibly damage any frame (profile: the
-- line). Each act is of the near end, or of the line to it. The far end's acts are those of the two ends swapped.
use Rattle.std.specs.Prelude.{◌≡◌, ℕ, nat_lt, ◌&&◌, ◌||◌, Bool, List, [], ◌∷◌, ◌++◌, length, map, Option, Some}
use Rattle.std.specs.Prelude.{None, if◌then◌else◌}
use Rattle.x25_bits.specs.{Role.{end_of, other}, declared.role.Role.{Role}, declared.role.Role.TheVariants.{Dte, Dce}}
use Rattle.x25_frame.specs.Spelling.{spelling_of}
use Rattle.x25_link.specs.Station.{awaits_ua}
use Rattle.x25_line.specs.{laws.Stations.{is_visible}, laws.Loss.{remove, replaced}}
use Rattle.x25_station.specs.{declared.config.Cfg.{Cfg}, Config.{Settings, settings_from}}
use Rattle.x25_station.specs.{Command.{Command, command_of}, Entry.{StationEntry}, Station.{Station, new_station}}
use Rattle.x25_station.specs.Step.{Step, Outcome, Did, Refused, connects, fires, receives, commands}
use Rattle.x25_world.specs.{SetUp.{carries}, declared.set_up.SetUpFrame.TheVariants.{Sabm, Ua}}
use Rattle.x25_world.specs.declared.error.WorldError.{WorldError}
use Rattle.x25_world.specs.declared.error.WorldError.TheVariants as error
use Rattle.x25_world.specs.declared.event.Event as code
use Rattle.x25_world.specs.declared.event.Event.TheVariants as event

-- octets that an end put on the line
pub record OnTap : Type 0 where
  pub from : Role
  pub octets : List ℕ

-- an entry of the transcript of an end
pub record AtEnd : Type 0 where
  pub at : Role
  pub entry : StationEntry

-- The ends; the octets on the line from the near end and on the line to it, front first; all that was ever put on the
-- line, and the transcript of both ends, in order.
pub record World : Type 0 where
  pub near : Station
  pub far : Station
  pub out : List (List ℕ)
  pub back : List (List ℕ)
  pub tap : List OnTap
  pub transcript : List AtEnd

abbrev pub mirrored : World → World
mirrored w = record { near = w.far; far = w.near; out = w.back; back = w.out; tap = w.tap; transcript = w.transcript }

-- ---- a step of the near end

abbrev pub tapped : Role → List (List ℕ) → List OnTap
tapped from frames = map (λ octets. record { from = from; octets = octets }) frames

abbrev pub entered : Role → List StationEntry → List AtEnd
entered at entries = map (λ entry. record { at = at; entry = entry }) entries

-- `back` is what is left on the line to it
abbrev pub after_step : Settings → World → List (List ℕ) → Step → World
after_step c w back step = record {
  near = step.near;
  far = w.far;
  out = w.out ++ map (spelling_of c.role) step.out;
  back = back;
  tap = w.tap ++ tapped c.role (map (spelling_of c.role) step.out);
  transcript = w.transcript ++ entered c.role step.entries;
}

-- ---- acts

pub data WorldOutcome : Type 0 where
  Happened : (next : World) → WorldOutcome
  Declined : (error : WorldError) → WorldOutcome

abbrev pub of_station : Settings → World → Outcome → WorldOutcome
of_station c w (Did step) = Happened (after_step c w w.back step)
of_station c w (Refused e) = Declined (error.Station e)

-- the front octets are taken off the line, and by the near end
abbrev pub delivered : Settings → World → List (List ℕ) → WorldOutcome
delivered c w [] = Declined error.Empty
delivered c w (octets ∷ back) = Happened (after_step c w back (receives c w.near octets))

abbrev pub on_line : World → List (List ℕ) → World
on_line w back = record { near = w.near; far = w.far; out = w.out; back = back; tap = w.tap; transcript = w.transcript }

pub data Act : Type 0 where
  Commands : (command : Command) → Act
  -- the front octets come
  Receives : Act
  -- timer T1 runs out
  Fires : Act
  -- the octets at this place of the line are lost, or others come in their place, which is visible
  Loses : (place : ℕ) → Act
  Damages : (place : ℕ) → (octets : List ℕ) → Act

abbrev pub lost : World → ℕ → WorldOutcome
lost w place = if nat_lt place (length w.back) then Happened (on_line w (remove w.back place))
    else Declined error.NoSuchFrame

abbrev pub damaged : World → ℕ → List ℕ → WorldOutcome
damaged w place octets =
    if nat_lt place (length w.back) then (if is_visible octets then Happened
    (on_line w (replaced w.back place (λ _. octets)))
    else Declined error.Unseen)
    else Declined error.NoSuchFrame

-- the SABM of the near end is on the line, or a UA to it
abbrev pub is_on_line : Settings → World → Bool
is_on_line c w = carries Sabm c.role w.out || carries Ua (other c.role) w.back

-- timer T1 of an end that awaits UA doesn't run out while SABM or UA can still arrive
abbrev pub fired : Settings → World → WorldOutcome
fired c w = if awaits_ua w.near.link.phase && is_on_line c w then Declined error.OnLine
    else of_station c w (fires c w.near)

abbrev pub acts : Settings → World → Act → WorldOutcome
acts c w (Commands command) = of_station c w (commands c w.near command)
acts c w Receives = delivered c w w.back
acts c w Fires = fired c w
acts c w (Loses place) = lost w place
acts c w (Damages place octets) = damaged w place octets

-- ---- events

-- an act of an end, or of the line to it
pub record Event : Type 0 where
  pub at : Role
  pub act : Act

-- the end that a direction leads to is where frames are delivered, lost and damaged
abbrev pub event_of : code.Event → Event
event_of (event.Command at cmd) = record { at = at; act = Commands (command_of cmd) }
event_of (event.Deliver direction) = record { at = end_of direction; act = Receives }
event_of (event.Lose direction place) = record { at = end_of direction; act = Loses place }
event_of (event.Damage direction place octets) = record { at = end_of direction; act = Damages place octets.now }
event_of (event.T1 at) = record { at = at; act = Fires }

abbrev pub swapped_back : WorldOutcome → WorldOutcome
swapped_back (Happened w) = Happened (mirrored w)
swapped_back (Declined e) = Declined e

-- in a world the near end is the DTE
abbrev pub acts_at : Cfg → World → Role → Act → WorldOutcome
acts_at cfg w Dte act = acts (settings_from Dte cfg) w act
acts_at cfg w Dce act = swapped_back (acts (settings_from Dce cfg) (mirrored w) act)

abbrev pub happens : Cfg → World → Event → WorldOutcome
happens cfg w e = acts_at cfg w e.at e.act

abbrev pub refusal_of : WorldOutcome → Option WorldError
refusal_of (Happened w) = None
refusal_of (Declined e) = Some e

-- what is refused changes nothing
abbrev pub after : World → WorldOutcome → World
after w (Happened next) = next
after w (Declined e) = w

-- ---- runs

abbrev pub run : Cfg → List Event → World → World
run cfg [] w = w
run cfg (e ∷ events) w = run cfg events (after w (happens cfg w e))

-- each event is accepted where it comes
abbrev pub AreAccepted : Cfg → List Event → World → Type 0
AreAccepted cfg [] w = Unit {0}
AreAccepted cfg (e ∷ events) w = (refusal_of (happens cfg w e) ≡ None)
    × AreAccepted cfg events (after w (happens cfg w e))

-- both links are down, and nothing is on the line
abbrev pub start : World
start = record { near = new_station; far = new_station; out = []; back = []; tap = []; transcript = [] }

-- the DTE has asked that the link be set up
abbrev pub connected : Cfg → World
connected cfg = after start (of_station (settings_from Dte cfg) start (connects (settings_from Dte cfg) new_station))

-- SABM and UA were delivered: both links are up, and both RESTARTs are on the line
abbrev pub established : Cfg → World
established cfg = run cfg (record { at = Dce; act = Receives } ∷ record { at = Dte; act = Receives } ∷ [])
    (connected cfg)
