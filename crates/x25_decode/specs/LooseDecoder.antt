-- What `decode --loose` writes, as a function of what it reads (profile).
use Rattle.std.specs.Prelude.{ℕ, Bool, true, false, List, ◌++◌, codes, if◌then◌else◌, Option, Some, None}
use Rattle.std.specs.List.{flat_map, list_any}
use Rattle.x25_io.specs.Lines.{lines_of}
use Rattle.x25_io.specs.Loose.{asked, carried}
use Rattle.x25_decode.specs.Decoding.{answer_to, is_refused}
use Rattle.x25_decode.specs.declared.answer.Reading.{Reading}

-- a line that asks nothing ends
abbrev pub answer_to_asked : Reading → Option (List ℕ) → List ℕ
answer_to_asked reading None = codes "\n"
answer_to_asked reading (Some line) = answer_to reading line

abbrev pub refuses_asked : Option (List ℕ) → Bool
refuses_asked None = false
refuses_asked (Some line) = is_refused line

-- the answer to what a line asks, and before it what stands beside that
unfoldable pub answer_loosely : Reading → List ℕ → List ℕ
answer_loosely reading line = carried true line ++ answer_to_asked reading (asked true line)

unfoldable pub refuses_loosely : List ℕ → Bool
refuses_loosely line = refuses_asked (asked true line)

abbrev pub loose_output : Reading → List ℕ → List ℕ
loose_output reading input = flat_map (answer_loosely reading) (lines_of input)

abbrev pub loose_status : List ℕ → ℕ
loose_status input = if list_any refuses_loosely (lines_of input) then 1 else 0
