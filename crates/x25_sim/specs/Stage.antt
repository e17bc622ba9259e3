-- What the simulator does with a script (profile): each line is an event of a world of two stations, `drain` and `heal`
-- several events, and what happens is said.
use Rattle.std.specs.Prelude.{ℕ, zero, suc, nat_le, Bool, true, false, List, [], ◌∷◌, ◌++◌, length, drop, map}
use Rattle.std.specs.Prelude.{if◌then◌else◌, Option, Some, None}
use Rattle.x25_bits.specs.Role.{other}
use Rattle.x25_bits.specs.declared.role.Role.{Role}
use Rattle.x25_bits.specs.declared.role.Role.TheVariants.{Dte, Dce}
use Rattle.x25_station.specs.declared.config.Cfg.{Cfg}
use Rattle.x25_script.specs.ScriptLine.{PlainLine, command, t1, deliver, lose, damage, drain, heal, pull, taken}
use Rattle.x25_script.specs.Reading.{line_in}
use Rattle.x25_io.specs.Lines.{lines_of}
use Rattle.x25_console.specs.Commands.{command_asked}
use Rattle.x25_io.specs.HeldLine.{most_line}
use Rattle.x25_world.specs.World.{World, OnTap, AtEnd, Event, Act, Commands, Receives, Fires, Loses, Damages}
use Rattle.x25_world.specs.World.{WorldOutcome, Happened, Declined, happens, start, connected}
use Rattle.x25_world.specs.Healing.{next_end}
use Rattle.x25_sim.specs.Telling.{Saying, enters, taps, reads_nothing, refuses, marks, sayings_text, has_refusal}
use Rattle.x25_sim.specs.declared.stage.Shown.{Shown}

-- ---- turns

-- the world after a turn, and what is said of it
pub record Turn : Type 0 where
  pub next : World
  pub sayings : List Saying

abbrev pub quiet : World → Turn
quiet w = record { next = w; sayings = [] }

-- a turn, and then what is done from where it led
abbrev pub and_then : (World → Turn) → Turn → Turn
and_then rest t = record { next = (rest t.next).next; sayings = t.sayings ++ (rest t.next).sayings }

-- frames that were put on the line, where they are asked for
abbrev pub frames_if : Bool → List OnTap → List Saying
frames_if true frames = map taps frames
frames_if false frames = []

abbrev pub frames_told : Shown → List OnTap → List Saying
frames_told shown frames = frames_if shown.tap frames

-- entries, and behind these frames
abbrev pub step_told : Shown → List AtEnd → List OnTap → List Saying
step_told shown entries frames = map enters entries ++ frames_told shown frames

-- from a world to the next: what is new in the transcript, and what was put on the line
abbrev pub told_between : Shown → World → World → List Saying
told_between shown w next = step_told shown (drop (length w.transcript) next.transcript) (drop (length w.tap) next.tap)

-- what is refused changes nothing
abbrev pub turn_of : Shown → World → WorldOutcome → Turn
turn_of shown w (Happened next) = record { next = next; sayings = told_between shown w next }
turn_of shown w (Declined error) = record { next = w; sayings = refuses error ∷ [] }

-- the event itself, where events are told
abbrev pub marks_if : Bool → Event → List Saying
marks_if true e = marks e ∷ []
marks_if false e = []

abbrev pub marked : Shown → Event → World → Turn
marked shown e w = record { next = w; sayings = marks_if shown.events e }

-- what an event makes, and behind that the event
unfoldable pub event_turn : Cfg → Shown → Event → World → Turn
event_turn cfg shown e w = and_then (marked shown e) (turn_of shown w (happens cfg w e))

-- ---- deliveries

abbrev pub delivered_to : Cfg → Shown → (World → Turn) → World → Option Role → Turn
delivered_to cfg shown rest w None = quiet w
delivered_to cfg shown rest w (Some at) = and_then rest (event_turn cfg shown (record { at = at; act = Receives }) w)

-- at most so many deliveries, each a turn of its own
unfoldable pub drained : Cfg → Shown → ℕ → World → Turn
drained cfg shown zero w = quiet w
drained cfg shown (suc n) w = delivered_to cfg shown (drained cfg shown n) w (next_end w.out w.back)

-- ---- healing

-- an event that is refused is left out, and nothing is said of it
abbrev pub tried_of : Shown → Event → World → WorldOutcome → Turn
tried_of shown e w (Happened next) = and_then (marked shown e) (turn_of shown w (Happened next))
tried_of shown e w (Declined error) = quiet w

unfoldable pub tried : Cfg → Shown → Event → World → Turn
tried cfg shown e w = tried_of shown e w (happens cfg w e)

-- this act at the DTE, and then at the DCE
unfoldable pub both_tried : Cfg → Shown → Act → World → Turn
both_tried cfg shown act w = and_then (tried cfg shown (record { at = Dce; act = act }))
    (tried cfg shown (record { at = Dte; act = act }) w)

-- how many deliveries follow one another at most, and how many rounds of them
abbrev pub most_times : ℕ
most_times = 4294967295

-- What is on the line arrives, and then timer T1 runs out at each end where it runs.
unfoldable pub fired : Cfg → Shown → World → Turn
fired cfg shown w = and_then (both_tried cfg shown Fires) (drained cfg shown most_times w)

-- What is on the line arrives, and then each end pulls what waits in its circuits.
unfoldable pub pulled : Cfg → Shown → World → Turn
pulled cfg shown w = and_then (both_tried cfg shown (Commands (command_asked pull))) (drained cfg shown most_times w)

-- the rest, where frames are on the line
abbrev pub unless_empty : (World → Turn) → World → Option Role → Turn
unless_empty rest w None = quiet w
unless_empty rest w (Some at) = rest w

-- both pulls and what they put, again and again, as long as frames are on the line
unfoldable pub emptied : Cfg → Shown → ℕ → World → Turn
emptied cfg shown zero w = quiet w
emptied cfg shown (suc n) w = and_then (λ v. unless_empty (emptied cfg shown n) v (next_end v.out v.back))
    (pulled cfg shown w)

unfoldable pub healed : Cfg → Shown → World → Turn
healed cfg shown w = and_then (emptied cfg shown most_times) (fired cfg shown w)

-- ---- lines

-- A direction leads away from an end, and frames are delivered, lost and damaged at the other one.
unfoldable pub line_turn : Cfg → Shown → PlainLine → World → Turn
line_turn cfg shown (command end asked) w = event_turn cfg shown
    (record { at = end; act = Commands (command_asked asked) }) w
line_turn cfg shown (t1 end) w = event_turn cfg shown (record { at = end; act = Fires }) w
line_turn cfg shown (deliver from) w = event_turn cfg shown (record { at = other from; act = Receives }) w
line_turn cfg shown (lose from place) w = event_turn cfg shown (record { at = other from; act = Loses place }) w
line_turn cfg shown (damage from place octets) w = event_turn cfg shown
    (record { at = other from; act = Damages place octets }) w
line_turn cfg shown (drain count) w = drained cfg shown count w
line_turn cfg shown heal w = healed cfg shown w

-- a longer line isn't in the grammar
unfoldable pub asked_in : List ℕ → Option PlainLine
asked_in line = if nat_le (length line) most_line then line_in line else None

abbrev pub asked_turn : Cfg → Shown → World → Option PlainLine → Turn
asked_turn cfg shown w None = record { next = w; sayings = reads_nothing ∷ [] }
asked_turn cfg shown w (Some line) = line_turn cfg shown line w

unfoldable pub turn : Cfg → Shown → List ℕ → World → Turn
turn cfg shown line w = asked_turn cfg shown w (taken cfg.wide (asked_in line))

-- one line after another
unfoldable pub turns : Cfg → Shown → List (List ℕ) → World → Turn
turns cfg shown [] w = quiet w
turns cfg shown (line ∷ lines) w = and_then (turns cfg shown lines) (turn cfg shown line w)

-- ---- the whole

-- the DTE asks that the link be set up
abbrev pub connecting : Cfg → Shown → Turn
connecting cfg shown = record { next = connected cfg; sayings = told_between shown start (connected cfg) }

-- SABM and UA are delivered: both links are up
unfoldable pub set_up : Cfg → Shown → Turn
set_up cfg shown = and_then (event_turn cfg shown (record { at = Dte; act = Receives }))
    (and_then (event_turn cfg shown (record { at = Dce; act = Receives })) (connecting cfg shown))

-- both links are down where the script begins, and nothing is said, or they were just set up
abbrev pub opened : Cfg → Bool → Shown → Turn
opened cfg true shown = quiet start
opened cfg false shown = set_up cfg shown

unfoldable pub simulated : Cfg → Bool → Shown → List ℕ → Turn
simulated cfg down shown script = and_then (turns cfg shown (lines_of script)) (opened cfg down shown)

-- what is written for a script
abbrev pub sim_text : Cfg → Bool → Shown → List ℕ → List ℕ
sim_text cfg down shown script = sayings_text (simulated cfg down shown script).sayings

-- a line or an event was refused
abbrev pub sim_status : Cfg → Bool → Shown → List ℕ → ℕ
sim_status cfg down shown script = if has_refusal (simulated cfg down shown script).sayings then 1 else 0
