-- What may stand on a line beside what it asks (profile): a time or a mark before it, a carriage return behind it, a
-- comment in its place.
use Rattle.std.specs.Prelude.{ℕ, ◌+◌, ◌-◌, ◌==◌, ◌&&◌, nat_le, nat_lt, Bool, true, false, not, List, [], ◌∷◌, ◌++◌}
use Rattle.std.specs.Prelude.{length, take}
use Rattle.std.specs.Prelude.{drop, if◌then◌else◌, Option, Some, None, slice_index}
use Rattle.std.specs.Char.{is_ascii_digit}
use Rattle.std.specs.List.{position}
use Rattle.std.specs.Str.{bytes_eq}
use Rattle.x25_io.specs.HeldLine.{most_line}
use Rattle.x25_io.specs.Lines.{lines_of}

-- the line without the carriage return at its end
abbrev pub without_return : List ℕ → List ℕ
without_return line = let last = length line - 1 in
    if nat_lt 0 (length line) && slice_index line last == 13 then take last line else line

-- the line without the mark of UTF-8 at its front
abbrev pub without_mark : List ℕ → List ℕ
without_mark line = let mark = 239 ∷ 187 ∷ 191 ∷ [] in if bytes_eq (take 3 line) mark then drop 3 line else line

abbrev pub bare : List ℕ → List ℕ
bare line = without_mark (without_return line)

-- an empty line and a comment, which begins with `#`, ask nothing
abbrev pub is_passed : List ℕ → Bool
is_passed [] = true
is_passed (character ∷ line) = character == 35

-- a time has digits and points alone
abbrev pub is_past_time : ℕ → Bool
is_past_time character = not (is_ascii_digit character) && not (character == 46)

-- 1 to 20 of these, and a tab: how many characters that is
abbrev pub stamp_by : List ℕ → Option ℕ → ℕ
stamp_by line None = 0
stamp_by line (Some end) = if nat_le 1 end && nat_le end 20 && slice_index line end == 9 then end + 1 else 0

-- 0 where there is no time
unfoldable pub stamp_length : List ℕ → ℕ
stamp_length line = stamp_by line (position is_past_time line)

-- what goes before the answer: a time and its tab, or all of a line that asks nothing
abbrev pub carried_from : List ℕ → List ℕ
carried_from line = if is_passed line then line else take (stamp_length line) line

abbrev pub carried_by : List ℕ → List ℕ
carried_by line = carried_from (bare line)

-- what is asked behind it
abbrev pub asked_from : List ℕ → Option (List ℕ)
asked_from line = if is_passed line then None else Some (drop (stamp_length line) line)

abbrev pub asked_in : List ℕ → Option (List ℕ)
asked_in line = asked_from (bare line)

-- A longer line isn't read so.
abbrev pub is_loose : Bool → List ℕ → Bool
is_loose loose line = loose && nat_le (length line) most_line

-- with `loose` lines are read so, and else each asks what it is
unfoldable pub carried : Bool → List ℕ → List ℕ
carried loose line = if is_loose loose line then carried_by line else []

unfoldable pub asked : Bool → List ℕ → Option (List ℕ)
asked loose line = if is_loose loose line then asked_in line else Some line

-- ---- a text by what its lines ask

abbrev pub onto_asked : Option (List ℕ) → List (List ℕ) → List (List ℕ)
onto_asked None lines = lines
onto_asked (Some line) lines = line ∷ lines

abbrev pub asked_lines : Bool → List (List ℕ) → List (List ℕ)
asked_lines loose [] = []
asked_lines loose (line ∷ lines) = onto_asked (asked loose line) (asked_lines loose lines)

abbrev pub text_of_lines : List (List ℕ) → List ℕ
text_of_lines [] = []
text_of_lines (line ∷ lines) = line ++ 10 ∷ text_of_lines lines

-- the lines that ask something, each by what it asks
abbrev pub asked_text : Bool → List ℕ → List ℕ
asked_text true text = text_of_lines (asked_lines true (lines_of text))
asked_text false text = text
