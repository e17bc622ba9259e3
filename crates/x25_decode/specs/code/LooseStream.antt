-- What a decoder that reads loosely holds in the midst of an input.
use Rattle.std.specs.Prelude.{◌≡◌, ℕ, Bool, true, false, ◌||◌, List, ◌++◌, Option}
use Rattle.std.specs.Io.KnownBytes.{Appends}
use Rattle.std.specs.List.{flat_map, list_any}
use Rattle.x25_io.specs.Lines.{lines_of}
use Rattle.x25_io.specs.code.LinesLead.{LinesEnded}
use Rattle.x25_io.specs.code.Runs.{Program}
use Rattle.x25_io.specs.code.Written.{Tells}
use Rattle.x25_decode.specs.LooseDecoder.{answer_loosely, refuses_loosely, loose_output, loose_status}
use Rattle.x25_decode.specs.code.Stream.{program}
use Rattle.x25_decode.specs.declared.answer.Reading.{Reading}
use Rattle.x25_decode.specs.declared.loose_decoder.LooseDecoder.{LooseDecoder}

-- With `lines` to come the text of the input is told in the end, and a line was refused where one of the input is.
pub record DecodesLines (reading : Reading) (d : LooseDecoder) (old now : Option (List ℕ)) (lines : List (List ℕ))
    (input : List ℕ) : Type 0 where
  pub reads : d.reading ≡ reading
  pub told : List ℕ
  pub tells : Tells old now d.output told
  pub same : told ++ flat_map (answer_loosely reading) lines ≡ loose_output reading input
  pub status : (d.is_refused || list_any refuses_loosely lines) ≡ list_any refuses_loosely (lines_of input)

-- Written is all of the text but the answers to the lines to come.
pub record WritesLines (reading : Reading) (old now : Option (List ℕ)) (lines : List (List ℕ))
    (input : List ℕ) : Type 0 where
  pub part : List ℕ
  pub appends : Appends old now part
  pub same : part ++ flat_map (answer_loosely reading) lines ≡ loose_output reading input

abbrev pub loose_program : Reading → Program
loose_program reading = record {
  text = loose_output reading;
  status = loose_status;
  Ended = λ old now rest input. LinesEnded (λ lines. WritesLines reading old now lines input) rest;
}

abbrev pub program_by : Bool → Reading → Program
program_by true reading = loose_program reading
program_by false reading = program reading
