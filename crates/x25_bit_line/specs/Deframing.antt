-- What is written for octets of a synchronous line, each lowest bit first (profile).
use Rattle.std.specs.Prelude.{ℕ, List, ◌++◌, codes}
use Rattle.std.specs.List.{flat_map}
use Rattle.x25_bits.specs.FrameCheck.{bits_of}
use Rattle.x25_bits.specs.Found.{Class, Content, Abort, Short, Long, Ragged, found_of}
use Rattle.x25_bits.specs.declared.role.Role.{Role}
use Rattle.x25_decode.specs.Decoding.{mark_of}
use Rattle.x25_text.specs.Text.{octet_text}

-- a line of a trace: the mark of the end that sends on the line, and the octets
abbrev pub trace_line : Role → List ℕ → List ℕ
trace_line from octets = mark_of from ++ flat_map octet_text octets ++ codes "\n"

-- the line for a span: its content as a line of a trace, any other as a comment
abbrev pub class_line : Role → Class → List ℕ
class_line from (Content octets) = trace_line from octets
class_line from Abort = codes "# abort\n"
class_line from Short = codes "# short\n"
class_line from Long = codes "# long\n"
class_line from Ragged = codes "# ragged\n"

abbrev pub class_lines : Role → List Class → List ℕ
class_lines from classes = flat_map (class_line from) classes

-- a line for each span that is found in the bits of the octets, in order
abbrev pub deframed : Role → List ℕ → List ℕ
deframed from input = class_lines from (found_of (bits_of input))
