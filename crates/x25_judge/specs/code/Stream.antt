-- What stands in the midst of an input.
use Rattle.std.specs.{Prelude.{◌≡◌, ℕ, Bool, ◌||◌, List, ◌++◌, Option, Result, OnOk}, Io.KnownBytes.{Appends}}
use Rattle.x25_io.specs.Lines.{lines_of}
use Rattle.x25_io.specs.code.{LinesLead.{LinesEnded}, Runs.{Program}, Written.{Tells, TellsMore}}
use Rattle.x25_judge.specs.{Answerer.{output_by, status_by, text_of, has_fault}, Judge.{Answer}}
use Rattle.x25_judge.specs.declared.{answerer.Answerer.{Answerer}, judge.Judge.{Judge}}

-- With `lines` to come the text of the input is told in the end, and a line was faulty where one of the input is.
pub record JudgesOn (loose : Bool) (j : Judge) (a : Answerer) (old now : Option (List ℕ)) (lines : List (List ℕ))
    (input : List ℕ) : Type 0 where
  pub reads : a.loose ≡ loose
  pub told : List ℕ
  pub tells : Tells old now a.output told
  pub same : told ++ text_of loose a.judge lines ≡ output_by loose j input
  pub status : (a.is_faulty || has_fault loose a.judge lines) ≡ has_fault loose j (lines_of input)

-- a line was answered: what is told, and the judge, and whether a line was faulty, behind it
pub record Replies {T E : Type 0} (r : Result T E) (was now : Option (List ℕ)) (a b : Answerer)
    (answer : Answer) : Type 0 where
  pub tells : TellsMore r was now a.output b.output answer.text
  pub next : OnOk r (b.judge ≡ answer.next)
  pub is_faulty : OnOk r (b.is_faulty ≡ (a.is_faulty || answer.counts))
  pub reads : b.loose ≡ a.loose

-- Written is all of the text but the answers to the lines to come.
pub record WritesLines (loose : Bool) (old now : Option (List ℕ)) (lines : List (List ℕ))
    (all : List ℕ) : Type 0 where
  pub at : Judge
  pub part : List ℕ
  pub appends : Appends old now part
  pub same : part ++ text_of loose at lines ≡ all

-- The judge as it begins, and whether lines are read loosely. Where it ends early, written is all of the text but the
-- answers to the lines to come and to the line that has begun.
abbrev pub program : Bool → Judge → Program
program loose j = record {
  text = output_by loose j;
  status = status_by loose j;
  Ended = λ old now rest input. LinesEnded (λ lines. WritesLines loose old now lines (output_by loose j input)) rest;
}
