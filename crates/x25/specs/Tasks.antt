-- What the program writes for a task, and the status that it ends with (profile).
use Rattle.std.specs.Prelude.{◌≡◌, ◌≤◌, ◌⊎◌, ⊤, ℕ, Bool, true, false, List, if◌then◌else◌, Option, Some, None}
use Rattle.std.specs.Prelude.{unwrap_or}
use Rattle.std.specs.Io.KnownBytes.{Appends}
use Rattle.x25_bits.specs.declared.role.Role.{Role}
use Rattle.x25_bits.specs.declared.role.Role.TheVariants as role
use Rattle.x25_bit_line.specs.code.Frames as framing
use Rattle.x25_bit_line.specs.code.Reads as deframing
use Rattle.x25_clock.specs.Times.{standard}
use Rattle.x25_clock.specs.declared.times.Times.{Times}
use Rattle.x25_decode.specs.TestVectors.{verdicts, are_right}
use Rattle.x25_decode.specs.code.LooseStream as decoding
use Rattle.x25_io.specs.Loose.{asked_text}
use Rattle.x25_io.specs.code.Runs.{OfInput, Program}
use Rattle.x25_io.specs.code.Written.{AppendsPrefix}
use Rattle.x25_judge.specs.Judge.{begins_at}
use Rattle.x25_judge.specs.code.Stream as judging
use Rattle.x25_judge.specs.declared.doubt.At as judge
use Rattle.x25_judge.specs.declared.doubt.At.TheVariants as judge_at
use Rattle.x25_pipe.specs.code.Stream as piping
use Rattle.x25_pipe.specs.code.TimedStream.{timed_program}
use Rattle.x25_records.specs.code.Stream as recording
use Rattle.x25_settings.specs.declared.options.At.{At}
use Rattle.x25_settings.specs.declared.options.At.TheVariants as at
use Rattle.x25_settings.specs.declared.options.End.{End}
use Rattle.x25_settings.specs.declared.options.End.TheVariants.{Dte, Dce}
use Rattle.x25_settings.specs.declared.options.GivenTimes.{GivenTimes}
use Rattle.x25_settings.specs.declared.options.Place.{Place}
use Rattle.x25_settings.specs.declared.options.Simulation.{Simulation}
use Rattle.x25_settings.specs.declared.options.StationOptions.{StationOptions}
use Rattle.x25_settings.specs.declared.words.Asked.{Asked}
use Rattle.x25_settings.specs.declared.words.Task.{Task}
use Rattle.x25_settings.specs.declared.words.Task.TheVariants.{Decode, Vectors, Sim, Station, Judge, Deframe, Frame}
use Rattle.x25_settings.specs.declared.words.Task.TheVariants.{Tabs}
use Rattle.x25_sim.specs.code.Stream as simulating
use Rattle.x25_sim.specs.declared.stage.Shown.{Shown}
use Rattle.x25_sim.specs.laws.WritesRun.{WritesRun}
use Rattle.x25_station.specs.declared.config.Cfg.{Cfg}
use Rattle.x25_station.specs.Config.{Settings, settings_from}

-- the settings of a station with so many one-way channels
abbrev pub settings_in : StationOptions → ℕ → ℕ → Cfg
settings_in s incoming outgoing = record {
  k = s.k;
  n2 = s.n2;
  channels = record { count = s.channels; incoming = incoming; outgoing = outgoing; message = s.message };
  long_data = s.long;
  say_sizes = s.say_sizes;
  wide = s.wide;
}

abbrev pub role_in : End → Role
role_in Dte = role.Dte
role_in Dce = role.Dce

abbrev pub at_in : At → judge.At
at_in at.Line = judge_at.Line
at_in at.Dte = judge_at.Dte
at_in at.Dce = judge_at.Dce
at_in at.Either = judge_at.Either

-- what is told beside entries and refusals
abbrev pub shown_in : Simulation → Shown
shown_in s = record { tap = s.tap; events = s.events }

-- how long the timers of a clock are; what isn't given is as is usual at that end
abbrev pub times_in : Role → GivenTimes → Times
times_in end given = record {
  t1 = unwrap_or given.t1 (standard end).t1;
  t3 = unwrap_or given.t3 (standard end).t3;
  t20 = unwrap_or given.t20 (standard end).t20;
  t21 = unwrap_or given.t21 (standard end).t21;
  t22 = unwrap_or given.t22 (standard end).t22;
  t23 = unwrap_or given.t23 (standard end).t23;
  t25 = unwrap_or given.t25 (standard end).t25;
  t26 = unwrap_or given.t26 (standard end).t26;
}

-- one station, with a clock or without
abbrev pub clock_program : Settings → Role → Option GivenTimes → Bool → Program
clock_program c end None loose = piping.program c loose
clock_program c end (Some given) loose = timed_program c (times_in end given) loose

abbrev pub place_program : Place → Program
place_program p =
    clock_program (settings_from (role_in p.end) (settings_in p.station p.station.incoming p.station.outgoing))
    (role_in p.end) p.clock p.loose

-- the program that does a task; `vectors` reads nothing
abbrev pub program_of : Task → Program
program_of (Decode d) = decoding.program_by d.loose (record { long = d.long; wide = d.wide })
program_of Vectors = record {
  text = λ _. verdicts;
  status = λ _. if are_right then 0 else 1;
  Ended = λ _ _ _ _. ⊥;
}
program_of (Sim s) = simulating.program (settings_in s.station 0 0) s.down (shown_in s) s.loose
program_of (Station p) = place_program p
program_of (Judge g) = judging.program g.loose (begins_at (at_in g.at) g.k (record { size = g.size; window = g.window })
    (record { long = g.long; wide = g.wide }) (record { unjudged = g.strict; manners = g.manners }))
program_of (Deframe end) = deframing.program (role_in end)
program_of (Frame loose) = framing.program loose
program_of Tabs = recording.program

-- what holds of what was written for a script; of the other tasks nothing is said
abbrev pub WritesScript : Task → List ℕ → Option (List ℕ) → Option (List ℕ) → Type 0
WritesScript (Decode d) script old now = ⊤
WritesScript Vectors script old now = ⊤
WritesScript (Sim s) script old now = WritesRun (settings_in s.station 0 0) s.down (shown_in s)
    (asked_text s.loose script) old now
WritesScript (Station p) script old now = ⊤
WritesScript (Judge g) script old now = ⊤
WritesScript (Deframe end) script old now = ⊤
WritesScript (Frame loose) script old now = ⊤
WritesScript Tabs script old now = ⊤

-- a task that asks for memory before it reads and writes alone
abbrev pub is_plain : Task → Bool
is_plain (Decode d) = true
is_plain Vectors = true
is_plain (Sim s) = false
is_plain (Station p) = false
is_plain (Judge g) = true
is_plain (Deframe end) = true
is_plain (Frame loose) = false
is_plain Tabs = false

-- The task is done: the status is its own, 0 or 1, and what is written its text of all that was read.
abbrev pub IsDone : Task → ℕ → Option (List ℕ) → Option (List ℕ) → Option (List ℕ) → Type 0
IsDone task status input old now = (status ≤ 1) × OfInput input (λ input. (status ≡ (program_of task).status input)
    × Appends old now ((program_of task).text input))

-- A fault ended it: the status is 3, and what is written a beginning of that text.
abbrev pub IsCutShort : Task → ℕ → Option (List ℕ) → Option (List ℕ) → Option (List ℕ) → Type 0
IsCutShort task status input old now = (status ≡ 3) × OfInput input (λ input.
    AppendsPrefix old now ((program_of task).text input))

-- how a run ends
abbrev pub Ends : Task → ℕ → Option (List ℕ) → Option (List ℕ) → Option (List ℕ) → Type 0
Ends task status input old now = IsDone task status input old now ⊎ IsCutShort task status input old now

-- and how one on a file does: on what that gives, as `remaining` has it; where there is none, the status is 2 and
-- nothing is written
pub record EndsOnOne (F : Type 0) (remaining : F → Option (List ℕ)) (task : Task) (status : ℕ)
    (old now : Option (List ℕ)) : Type 0 where
  pub file : F
  pub ends : Ends task status (remaining file) old now

abbrev pub EndsOnFile : (F : Type 0) → (F → Option (List ℕ)) → Task → ℕ → Option (List ℕ) → Option (List ℕ) → Type 0
EndsOnFile F remaining task status old now =
    EndsOnOne F remaining task status old now ⊎ ((status ≡ 2) × (now ≡ old))

-- how what words ask for ends: on what the reader gives, or on a file
abbrev pub EndsBy : (F : Type 0) → (F → Option (List ℕ)) → Task → Option ℕ → ℕ
    → Option (List ℕ) → Option (List ℕ) → Option (List ℕ) → Type 0
EndsBy F remaining task None status input old now = Ends task status input old now
EndsBy F remaining task (Some place) status input old now = EndsOnFile F remaining task status old now

abbrev pub EndsOn : (F : Type 0) → (F → Option (List ℕ)) → Asked → ℕ
    → Option (List ℕ) → Option (List ℕ) → Option (List ℕ) → Type 0
EndsOn F remaining asked status input old now = EndsBy F remaining asked.task asked.file status input old now
