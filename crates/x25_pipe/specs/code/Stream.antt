-- What stands in the midst of an input.
use Rattle.std.specs.Prelude.{◌≡◌, ℕ, Bool, false, List, [], ◌++◌, Option}
use Rattle.std.specs.Io.KnownBytes.{Appends}
use Rattle.x25_io.specs.Loose.{asked_lines, asked_text}
use Rattle.x25_io.specs.code.LinesLead.{LinesEnded}
use Rattle.x25_io.specs.code.Runs.{Program}
use Rattle.x25_station.specs.Config.{Settings}
use Rattle.x25_station.specs.Station.{Station}
use Rattle.x25_pipe.specs.Pipe.{Turn, sayings_text, piped, status_of, text_of, turns}
use Rattle.x25_pipe.specs.code.Leaves.{Leaves}
use Rattle.x25_pipe.specs.declared.pipe.Pipe.{Pipe}

-- With `lines` to come the turns of the input are made in the end.
abbrev pub Answers : Settings → Pipe → Option (List ℕ) → Option (List ℕ) → List (List ℕ) → List ℕ → Type 0
Answers c p old now lines input = Leaves c old now p (turns c lines) [] false (piped c input)

-- Written is all of the text but what is said of the lines to come.
pub record WritesLines (c : Settings) (old now : Option (List ℕ)) (lines : List (List ℕ)) (whole : Turn) : Type 0 where
  pub at : Station
  pub part : List ℕ
  pub appends : Appends old now part
  pub same : part ++ sayings_text c.role (turns c lines at).sayings ≡ sayings_text c.role whole.sayings

-- the same, where a line has begun
abbrev pub WritesEnded : Settings → Bool → Option (List ℕ) → Option (List ℕ) → List ℕ → Turn → Type 0
WritesEnded c loose old now rest whole =
    LinesEnded (λ lines. WritesLines c old now (asked_lines loose lines) whole) rest

-- with `loose` of what the lines of the input ask
abbrev pub program : Settings → Bool → Program
program c loose = record {
  text = λ input. text_of c (asked_text loose input);
  status = λ input. status_of c (asked_text loose input);
  Ended = λ old now rest input. WritesEnded c loose old now rest (piped c (asked_text loose input));
}
