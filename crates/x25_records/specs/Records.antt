-- A line of text of `decode`, `judge`, `sim` or `station` as a record, its fields apart by tabs (profile).
use Rattle.std.specs.Prelude.{ℕ, ◌+◌, ◌-◌, ◌==◌, ◌&&◌, ◌||◌, nat_le, nat_lt, Bool, not, List, [], ◌∷◌, ◌++◌, length}
use Rattle.std.specs.Prelude.{Option, Some, None, codes, drop, if◌then◌else◌, slice_index, take}
use Rattle.std.specs.List.{flat_map, list_any, position}
use Rattle.std.specs.Str.{bytes_eq}
use Rattle.x25_io.specs.HeldLine.{most_line}
use Rattle.x25_io.specs.Lines.{lines_of}

-- what stands before a place, and after the character there; all and nothing where there is none
abbrev pub up_to : List ℕ → Option ℕ → List ℕ
up_to text None = text
up_to text (Some at) = take at text

abbrev pub behind : List ℕ → Option ℕ → List ℕ
behind text None = []
behind text (Some at) = drop (at + 1) text

-- the first blank, bar and tab
abbrev pub blank_in : List ℕ → Option ℕ
blank_in text = position (λ x. x == 32) text

abbrev pub bar_in : List ℕ → Option ℕ
bar_in text = position (λ x. x == 124) text

abbrev pub tab_in : List ℕ → Option ℕ
tab_in text = position (λ x. x == 9) text

-- without a blank at its front, and at its end
abbrev pub behind_blank : List ℕ → List ℕ
behind_blank [] = []
behind_blank (x ∷ text) = if x == 32 then text else x ∷ text

abbrev pub up_to_blank : List ℕ → List ℕ
up_to_blank text = let last = length text - 1 in
    if nat_lt 0 (length text) && slice_index text last == 32 then take last text else text

-- what is said of a frame begins with `!` or `~`
abbrev pub mark_in : List ℕ → Option ℕ
mark_in text = position (λ x. x == 33 || x == 126) text

abbrev pub from_place : List ℕ → Option ℕ → List ℕ
from_place text None = []
from_place text (Some at) = drop at text

abbrev pub plain_part : List ℕ → List ℕ
plain_part text = up_to text (mark_in text)

abbrev pub said_part : List ℕ → List ℕ
said_part text = from_place text (mark_in text)

-- a packet in another form than a station writes
abbrev pub is_wide : List ℕ → Bool
is_wide said = bytes_eq (take 6 said) (codes "~ wide")

abbrev pub form_of : List ℕ → List ℕ
form_of said = if is_wide said then codes "wide" else []

abbrev pub verdict_of : List ℕ → List ℕ
verdict_of said = if is_wide said then behind_blank (drop 6 said) else said

-- a field with a tab before it
abbrev pub tabbed : List ℕ → List ℕ
tabbed field = 9 ∷ field

-- the kind of a frame or a packet and its fields, which a blank parts
abbrev pub kind_of : List ℕ → List ℕ
kind_of text = up_to text (blank_in text)

abbrev pub fields_of : List ℕ → List ℕ
fields_of text = up_to_blank (behind text (blank_in text))

-- the frame, and its packet after a bar
abbrev pub frame_of : List ℕ → List ℕ
frame_of plain = up_to plain (bar_in plain)

abbrev pub packet_of : List ℕ → List ℕ
packet_of plain = behind_blank (behind plain (bar_in plain))

-- the fields of both, and what is said of it
abbrev pub frame_fields : List ℕ → List ℕ → List ℕ
frame_fields plain said = tabbed (kind_of (frame_of plain)) ++ tabbed (fields_of (frame_of plain))
    ++ tabbed (kind_of (packet_of plain)) ++ tabbed (fields_of (packet_of plain))
    ++ tabbed (form_of said) ++ tabbed (verdict_of said)

-- an entry has no frame
abbrev pub entry_fields : List ℕ → List ℕ
entry_fields text = codes "\t\t" ++ tabbed (kind_of text) ++ tabbed (fields_of text) ++ codes "\t\t"

abbrev pub is_direction : List ℕ → Bool
is_direction word = bytes_eq word (codes ">") || bytes_eq word (codes "<")

abbrev pub is_end : List ℕ → Bool
is_end word = bytes_eq word (codes "dte") || bytes_eq word (codes "dce")

-- a time and its tab may stand before it
abbrev pub time_by : List ℕ → Option ℕ → List ℕ
time_by line None = []
time_by line (Some at) = take at line

abbrev pub timed_by : List ℕ → Option ℕ → List ℕ
timed_by line None = line
timed_by line (Some at) = drop (at + 1) line

-- a line that is neither of a frame nor of an entry stands as it is
abbrev pub record_by : List ℕ → List ℕ → List ℕ → List ℕ → List ℕ
record_by line time word text = if is_direction word
    then time ++ tabbed word ++ frame_fields (plain_part text) (said_part text)
    else if is_end word then time ++ tabbed word ++ entry_fields text else line

-- of what stands after a time
abbrev pub record_with : List ℕ → List ℕ → List ℕ → List ℕ
record_with line time rest = record_by line time (up_to rest (blank_in rest)) (behind rest (blank_in rest))

unfoldable pub record_of : List ℕ → List ℕ
record_of line = record_with line (time_by line (tab_in line)) (timed_by line (tab_in line))

-- ---- a text, line by line

abbrev pub is_long : List ℕ → Bool
is_long line = not (nat_le (length line) most_line)

-- a line that is too long isn't read
unfoldable pub answer_to : List ℕ → List ℕ
answer_to line = (if is_long line then codes "? 60" else record_of line) ++ codes "\n"

abbrev pub records_of : List ℕ → List ℕ
records_of text = flat_map answer_to (lines_of text)

abbrev pub status_of : List ℕ → ℕ
status_of text = if list_any is_long (lines_of text) then 1 else 0
