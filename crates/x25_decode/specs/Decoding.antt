-- What `decode` writes, as a function of what it reads (profile).
use Rattle.std.specs.Prelude.{ℕ, ◌==◌, nat_le, Bool, not, ◌||◌, List, [], ◌∷◌, ◌++◌, length, codes, if◌then◌else◌}
use Rattle.std.specs.Prelude.{Option, Some, None, is_some, option_map, option_and_then}
use Rattle.std.specs.List.{flat_map, list_any}
use Rattle.std.specs.Result.{result_ok}
use Rattle.std.specs.Str.{bytes_eq}
use Rattle.hex.specs.Hex.{decode_of}
use Rattle.x25_bits.specs.declared.role.Role.{Role}
use Rattle.x25_bits.specs.declared.role.Role.TheVariants.{Dte, Dce}
use Rattle.x25_frame.specs.Reading.{frame_of}
use Rattle.x25_io.specs.Lines.{lines_of}
use Rattle.x25_text.specs.FrameText.{reading_text}
use Rattle.x25_text.specs.WideFrameText.{wide_reading_text}
use Rattle.x25_decode.specs.declared.answer.Reading.{Reading}

-- `>` marks what the DTE sent, `<` what the DCE sent
abbrev pub sender_of : ℕ → Option Role
sender_of mark = if mark == 62 then Some Dte else if mark == 60 then Some Dce else None

abbrev pub mark_of : Role → List ℕ
mark_of Dte = codes "> "
mark_of Dce = codes "< "

-- the octets that the hexadecimal digits write: an even number of these, of either case, and at most 8,206
abbrev pub octets_in : List ℕ → Option (List ℕ)
octets_in digits = if nat_le (length digits) 8206 then result_ok (decode_of digits) else None

-- the sender and the octets of a line: a mark, a space and digits
abbrev pub sent_in : List ℕ → Option (Role × List ℕ)
sent_in [] = None
sent_in (mark ∷ []) = None
sent_in (mark ∷ space ∷ digits) = if space == 32
    then option_and_then (λ from. option_map (λ octets. (from, octets)) (octets_in digits)) (sender_of mark)
    else None

-- the end of which any number of frames may be missing, where a line is a gap: a mark, a space and two points
abbrev pub gap_in : List ℕ → Option Role
gap_in line = if bytes_eq line (codes "> ..") then Some Dte
    else if bytes_eq line (codes "< ..") then Some Dce else None

-- the most octets of information in an I frame
abbrev pub n1 : ℕ
n1 = 4099

-- what octets read as: packets in the form that a station writes alone, or in all their forms
abbrev pub line_text : Reading → Role → List ℕ → List ℕ
line_text reading from octets =
    if reading.wide then wide_reading_text reading.long from octets (frame_of from n1 octets)
    else reading_text reading.long (frame_of from n1 octets)

-- a gap is its own answer
abbrev pub gap_text : Option Role → List ℕ
gap_text None = codes "? 60"
gap_text (Some from) = mark_of from ++ codes ".."

abbrev pub sent_text : Reading → Option Role → Option (Role × List ℕ) → List ℕ
sent_text reading gap None = gap_text gap
sent_text reading gap (Some sent) = mark_of sent.0 ++ line_text reading sent.0 sent.1

-- the line that answers a line
unfoldable pub answer_to : Reading → List ℕ → List ℕ
answer_to reading line = sent_text reading (gap_in line) (sent_in line) ++ codes "\n"

-- the line is none of these
unfoldable pub is_refused : List ℕ → Bool
is_refused line = not (is_some (sent_in line) || is_some (gap_in line))

-- the text that answers the octets read
abbrev pub output_of : Reading → List ℕ → List ℕ
output_of reading input = flat_map (answer_to reading) (lines_of input)

abbrev pub has_refused : List ℕ → Bool
has_refused input = list_any is_refused (lines_of input)

-- the status that `decode` ends with, however octets are read
abbrev pub status_of : List ℕ → ℕ
status_of input = if has_refused input then 1 else 0
