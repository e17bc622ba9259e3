-- What was sent in the midst of lines of a trace.
use Rattle.std.specs.Prelude.{◌≡◌, ◌<◌, ℕ, Bool, ◌||◌, List, ◌++◌, length, Option}
use Rattle.std.specs.List.{flat_map, list_any}
use Rattle.std.specs.Io.KnownBytes.{Appends}
use Rattle.x25_bits.specs.Found.{octets_of}
use Rattle.x25_bits.specs.Stuffing.{filled}
use Rattle.x25_io.specs.Loose.{asked_lines, asked_text}
use Rattle.x25_io.specs.code.LinesLead.{LinesEnded}
use Rattle.x25_io.specs.code.Runs.{Program}
use Rattle.x25_bit_line.specs.Framing.{frame_status, framed_bits, framed_octets, has_wrong, is_wrong, line_bits}
use Rattle.x25_bit_line.specs.LineBits.{Sends}
use Rattle.x25_bit_line.specs.declared.frame_sender.FrameSender.{FrameSender}

-- With `lines` to come the bits sent are those of the input in the end, and a line is refused then where one of the
-- input is.
pub record FramesOn (s : FrameSender) (old now : Option (List ℕ)) (lines : List (List ℕ))
    (input : List ℕ) : Type 0 where
  pub bits : List Bool
  pub sends : Sends old now s.bits.bits s.output bits
  pub same : bits ++ flat_map line_bits lines ≡ framed_bits input
  pub status : (s.is_wrong || list_any is_wrong lines) ≡ has_wrong input

-- Written is all but what fewer than eight bits and the lines to come give.
pub record WritesLines (old now : Option (List ℕ)) (lines : List (List ℕ)) (input : List ℕ) : Type 0 where
  pub left : List Bool
  pub few : length left < 8
  pub part : List ℕ
  pub appends : Appends old now part
  pub same : part ++ octets_of (filled (left ++ flat_map line_bits lines)) ≡ framed_octets input

-- with `loose` of what the lines ask
abbrev pub program : Bool → Program
program loose = record {
  text = λ input. framed_octets (asked_text loose input);
  status = λ input. frame_status (asked_text loose input);
  Ended = λ old now rest input. LinesEnded (λ lines. WritesLines old now (asked_lines loose lines)
      (asked_text loose input)) rest;
}
