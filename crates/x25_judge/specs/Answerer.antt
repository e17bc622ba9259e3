-- What `judge` answers to the lines of an input, with what stands beside what they ask (profile).
use Rattle.std.specs.Prelude.{ℕ, Bool, false, ◌||◌, List, [], ◌∷◌, ◌++◌, codes, if◌then◌else◌, Option, Some, None}
use Rattle.x25_io.specs.{Lines.{lines_of}, Loose.{asked, carried}}
use Rattle.x25_judge.specs.Judge.{Answer, answer_to, counts_text, is_nothing}
use Rattle.x25_judge.specs.declared.judge.Judge.{Judge}

-- a line that asks nothing ends, and changes nothing
abbrev pub reply_to : Judge → Option (List ℕ) → Answer
reply_to j None = record { next = j; text = codes "\n"; is_faulty = false; counts = false }
reply_to j (Some line) = answer_to j line

-- the answer to what a line asks, and before it what stands beside that
unfoldable pub reply : Bool → Judge → List ℕ → Answer
reply loose j line = let answer = reply_to j (asked loose line) in record {
  next = answer.next;
  text = carried loose line ++ answer.text;
  is_faulty = answer.is_faulty;
  counts = answer.counts;
}

unfoldable pub text_of : Bool → Judge → List (List ℕ) → List ℕ
text_of loose j [] = counts_text j
text_of loose j (line ∷ lines) = (reply loose j line).text ++ text_of loose (reply loose j line).next lines

unfoldable pub has_fault : Bool → Judge → List (List ℕ) → Bool
has_fault loose j [] = is_nothing j
has_fault loose j (line ∷ lines) = (reply loose j line).counts || has_fault loose (reply loose j line).next lines

-- the text that answers the octets read
abbrev pub output_by : Bool → Judge → List ℕ → List ℕ
output_by loose j input = text_of loose j (lines_of input)

-- the status that `judge` ends with: 1 where a rule was broken, a line is none of a trace or none had octets, or by its
-- strictness where manners were, or anything wasn't judged
abbrev pub status_by : Bool → Judge → List ℕ → ℕ
status_by loose j input = if has_fault loose j (lines_of input) then 1 else 0
