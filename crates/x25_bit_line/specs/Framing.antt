-- The octets of a synchronous line for lines of a trace (profile).
use Rattle.std.specs.Prelude.{ℕ, ◌==◌, ◌&&◌, not, nat_le, Bool, false, List, [], ◌∷◌, length, Option, Some, None}
use Rattle.std.specs.Prelude.{if◌then◌else◌}
use Rattle.std.specs.List.{flat_map, list_any}
use Rattle.x25_bits.specs.Found.{octets_of}
use Rattle.x25_bits.specs.Stuffing.{framed, filled}
use Rattle.x25_bits.specs.declared.role.Role.{Role}
use Rattle.x25_io.specs.HeldLine.{most_line}
use Rattle.x25_decode.specs.Decoding.{is_refused, sent_in}
use Rattle.x25_io.specs.Lines.{lines_of}

-- what is put on the line for the octets of a line of a trace, whichever end sent them
abbrev pub sent_bits : Option (Role × List ℕ) → List Bool
sent_bits None = []
sent_bits (Some sent) = framed sent.1

-- what is put there for a line: nothing where it is none of a trace
unfoldable pub line_bits : List ℕ → List Bool
line_bits line = sent_bits (sent_in line)

-- the bits for all lines, frame behind frame
abbrev pub framed_bits : List ℕ → List Bool
framed_bits input = flat_map line_bits (lines_of input)

-- their octets, each lowest bit first, the last one filled by 1 bits
abbrev pub framed_octets : List ℕ → List ℕ
framed_octets input = octets_of (filled (framed_bits input))

abbrev pub begins_by_mark : List ℕ → Bool
begins_by_mark [] = false
begins_by_mark (character ∷ line) = character == 35

-- a comment begins with `#`, and has at most 131,200 characters
abbrev pub is_comment : List ℕ → Bool
is_comment line = begins_by_mark line && nat_le (length line) most_line

-- a line that is neither of a trace nor a comment
unfoldable pub is_wrong : List ℕ → Bool
is_wrong line = is_refused line && not (is_comment line)

abbrev pub has_wrong : List ℕ → Bool
has_wrong input = list_any is_wrong (lines_of input)

-- the status that `frame` ends with
abbrev pub frame_status : List ℕ → ℕ
frame_status input = if has_wrong input then 1 else 0
