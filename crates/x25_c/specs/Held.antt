-- What a station that is held last answered, as C takes it (profile).
use Rattle.std.specs.Prelude.{◌≡◌, ℕ, List, [], ◌∷◌, ◌++◌, map, get_or}
use Rattle.x25_station.specs.declared.step.Step.{Step}
use Rattle.x25_station.specs.declared.timer.Timer.{Timer}
use Rattle.x25_station.specs.declared.timer.Timer.TheVariants.{Off, Begins, GoesOn}
use Rattle.x25_station.specs.Entry.{StationEntry, of_channel}
use Rattle.x25_transcript.specs.EntryText.{entry_line}
use Rattle.x25_c.specs.declared.earlier.Earlier.{Earlier}
use Rattle.x25_c.specs.declared.held.Held.{Held}

-- what was answered: the octets of each frame, the entries, and what becomes of T1
pub record Whole : Type 0 where
  pub frames : List (List ℕ)
  pub entries : List StationEntry
  pub timer : Timer

abbrev pub part_of : Step → Whole
part_of step = record {
  frames = step.frames;
  entries = step.entries.items;
  timer = step.timer;
}

abbrev pub part_before : Earlier → Whole
part_before earlier = record {
  frames = map (λ frame. frame.items) earlier.frames.items;
  entries = earlier.entries;
  timer = earlier.timer;
}

abbrev pub no_answer : Whole
no_answer = record { frames = []; entries = []; timer = GoesOn }

-- T1 behind two answers is as the later says, and where it goes on there as the first says
abbrev pub timer_then : Timer → Timer → Timer
timer_then first Off = Off
timer_then first Begins = Begins
timer_then first GoesOn = first

abbrev pub and_then : Whole → Whole → Whole
and_then first later = record {
  frames = first.frames ++ later.frames;
  entries = first.entries ++ later.entries;
  timer = timer_then first.timer later.timer;
}

-- of all frames, or of the one call
abbrev pub whole_of : Held → Whole
whole_of h = record {
  frames = map (λ frame. frame.items) h.earlier.frames.items ++ h.step.frames;
  entries = h.earlier.entries ++ h.step.entries.items;
  timer = timer_then h.earlier.timer h.step.timer;
}

abbrev pub frames_of : Held → List (List ℕ)
frames_of h = (whole_of h).frames

abbrev pub entries_of : Held → List StationEntry
entries_of h = (whole_of h).entries

abbrev pub timer_of : Held → Timer
timer_of h = (whole_of h).timer

-- the line of each entry
abbrev pub lines_of : Held → List (List ℕ)
lines_of h = map (entry_line h.end) (entries_of h)

-- the last step is all that was answered
pub record IsAlone (h : Held) : Type 0 where
  pub frames : h.earlier.frames.items ≡ []
  pub entries : h.earlier.entries ≡ []
  pub timer : h.earlier.timer ≡ GoesOn

-- the channel of the first entry, 0 where that has none
abbrev pub first_channel : List StationEntry → ℕ
first_channel (of_channel e ∷ entries) = e.channel
first_channel _ = 0

abbrev pub channel_of : Held → ℕ
channel_of h = first_channel h.step.entries.items

-- one of a list; none of the octets where there is none
abbrev pub in_place : List (List ℕ) → ℕ → List ℕ
in_place xs i = get_or xs i []
