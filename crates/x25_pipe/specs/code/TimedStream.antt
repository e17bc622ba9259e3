-- What stands in the midst of an input, where the station has a clock.
use Rattle.std.specs.Prelude.{◌≡◌, ℕ, Bool, false, ◌||◌, List, [], ◌++◌, Option}
use Rattle.std.specs.Io.KnownBytes.{Appends}
use Rattle.x25_clock.specs.declared.times.Times.{Times}
use Rattle.x25_io.specs.Loose.{asked_lines, asked_text}
use Rattle.x25_io.specs.code.LinesLead.{LinesEnded}
use Rattle.x25_io.specs.code.Runs.{Program}
use Rattle.x25_station.specs.Config.{Settings}
use Rattle.x25_pipe.specs.Timed.{Timed, TimedTurn, timed, timed_status, timed_text, timed_turns}
use Rattle.x25_pipe.specs.code.TimedStands.{StandsTimed}
use Rattle.x25_pipe.specs.declared.timed.TimedPipe.{TimedPipe}

-- From where it stands, `rest` leads to where the whole turn leads that began behind `told`, with the same said in all.
pub record LeavesTimed (c : Settings) (times : Times) (old now : Option (List ℕ)) (p : TimedPipe) (rest : Timed
    → TimedTurn) (told : List ℕ) (refused : Bool) (whole : TimedTurn) : Type 0 where
  pub at : Timed
  pub text : List ℕ
  pub status : Bool
  pub stands : StandsTimed c times old now p at text status
  pub next : (rest at).next ≡ whole.next
  pub same : text ++ (rest at).text ≡ told ++ whole.text
  pub any : (status || (rest at).is_refused) ≡ (refused || whole.is_refused)

-- With `lines` to come the turns of the input are made in the end.
abbrev pub AnswersTimed : Settings → Times → TimedPipe → Option (List ℕ) → Option (List ℕ) → List (List ℕ) → List ℕ
    → Type 0
AnswersTimed c times p old now lines input =
    LeavesTimed c times old now p (timed_turns c times lines) [] false (timed c times input)

-- Written is all of the text but what is said of the lines to come.
pub record WritesTimed (c : Settings) (times : Times) (old now : Option (List ℕ)) (lines : List (List ℕ))
    (whole : TimedTurn) : Type 0 where
  pub at : Timed
  pub part : List ℕ
  pub appends : Appends old now part
  pub same : part ++ (timed_turns c times lines at).text ≡ whole.text

-- the same, where a line has begun
abbrev pub WritesTimedEnded : Settings → Times → Bool → Option (List ℕ) → Option (List ℕ) → List ℕ → TimedTurn → Type 0
WritesTimedEnded c times loose old now rest whole =
    LinesEnded (λ lines. WritesTimed c times old now (asked_lines loose lines) whole) rest

-- with `loose` of what the lines of the input ask
abbrev pub timed_program : Settings → Times → Bool → Program
timed_program c times loose = record {
  text = λ input. timed_text c times (asked_text loose input);
  status = λ input. timed_status c times (asked_text loose input);
  Ended = λ old now rest input. WritesTimedEnded c times loose old now rest (timed c times (asked_text loose input));
}
