-- What a decoder holds in the midst of a text.
use Rattle.std.specs.Prelude.{◌≡◌, ℕ, Bool, ◌||◌, List, ◌++◌, Option}
use Rattle.std.specs.Io.KnownBytes.{Appends}
use Rattle.x25_io.specs.HeldLine.{HoldsLine}
use Rattle.x25_io.specs.declared.held_line.HeldLine.{HeldLine}
use Rattle.x25_io.specs.Lines.{IsOpen}
use Rattle.x25_io.specs.code.Runs.{Program}
use Rattle.x25_io.specs.code.Written.{Tells}
use Rattle.x25_decode.specs.Decoding.{output_of, has_refused, status_of}
use Rattle.x25_decode.specs.declared.answer.Reading.{Reading}
use Rattle.x25_decode.specs.declared.decoder.Decoder.{Decoder}

-- The writer held `old` at first and holds `now`, and `text` waits. `held` is what is held of the line that has begun.
-- With `rest` to come the writer gets `all` in the end; `any` then says whether a line was refused.
pub record Leads (reading : Reading) (old now : Option (List ℕ)) (held : HeldLine) (text : List ℕ) (refused : Bool)
    (rest all : List ℕ) (any : Bool) : Type 0 where
  pub begun : List ℕ
  pub is_open : IsOpen begun
  pub holds : HoldsLine begun held
  pub told : List ℕ
  pub tells : Tells old now text told
  pub same : told ++ output_of reading (begun ++ rest) ≡ all
  pub status : (refused || has_refused (begun ++ rest)) ≡ any

abbrev pub LeadsFrom : Option (List ℕ) → Option (List ℕ) → Decoder → List ℕ → List ℕ → Bool → Type 0
LeadsFrom old now d rest all any = Leads d.reading old now d.held d.output d.is_refused rest all any

-- the same of an input, by how octets are read
abbrev pub DecodesOn : Reading → Decoder → Option (List ℕ) → Option (List ℕ) → List ℕ → List ℕ → Type 0
DecodesOn reading d old now rest input = (d.reading ≡ reading)
    × LeadsFrom old now d rest (output_of reading input) (has_refused input)

-- Written is all of the text but the answers to the open line and to the rest.
pub record WritesEnded (reading : Reading) (old now : Option (List ℕ)) (rest all : List ℕ) : Type 0 where
  pub begun : List ℕ
  pub is_open : IsOpen begun
  pub part : List ℕ
  pub appends : Appends old now part
  pub same : part ++ output_of reading (begun ++ rest) ≡ all

abbrev pub program : Reading → Program
program reading = record {
  text = output_of reading;
  status = status_of;
  Ended = λ old now rest input. WritesEnded reading old now rest (output_of reading input);
}
