-- What stands in the midst of a text.
use Rattle.std.specs.Prelude.{◌≡◌, ℕ, ◌||◌, List, ◌++◌, Option}
use Rattle.std.specs.Io.KnownBytes.{Appends}
use Rattle.std.specs.List.{flat_map, list_any}
use Rattle.x25_io.specs.Lines.{lines_of}
use Rattle.x25_io.specs.code.LinesLead.{LinesEnded}
use Rattle.x25_io.specs.code.Runs.{Program}
use Rattle.x25_io.specs.code.Written.{Tells}
use Rattle.x25_records.specs.Records.{answer_to, is_long, records_of, status_of}
use Rattle.x25_records.specs.declared.recorder.Recorder.{Recorder}

-- With `lines` to come all is told in the end, and a line was too long where one of the text is.
pub record Records (r : Recorder) (old now : Option (List ℕ)) (lines : List (List ℕ)) (text : List ℕ) : Type 0 where
  pub told : List ℕ
  pub tells : Tells old now r.output told
  pub same : told ++ flat_map answer_to lines ≡ records_of text
  pub status : (r.is_refused || list_any is_long lines) ≡ list_any is_long (lines_of text)

-- Written is all but the answers to the lines to come.
pub record WritesLines (old now : Option (List ℕ)) (lines : List (List ℕ)) (text : List ℕ) : Type 0 where
  pub part : List ℕ
  pub appends : Appends old now part
  pub same : part ++ flat_map answer_to lines ≡ records_of text

abbrev pub program : Program
program = record {
  text = records_of;
  status = status_of;
  Ended = λ old now rest text. LinesEnded (λ lines. WritesLines old now lines text) rest;
}
