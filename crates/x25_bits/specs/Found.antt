-- The class of a span. ITU-T X.25 (10/96), sections 2.2.9 (invalid frame) and 2.2.10 (abort); Long, Ragged and the
-- order of the classes are profile.
use Rattle.std.specs.Prelude.{ℕ, zero, suc, ◌+◌, ◌/◌, ◌%◌, ◌==◌, nat_lt, Bool, true, false, if◌then◌else◌, List, []}
use Rattle.std.specs.Prelude.{◌∷◌, length, take, drop}
use Rattle.std.specs.List.{flat_map}
use Rattle.x25_bits.specs.FrameCheck.{number_of}
use Rattle.x25_bits.specs.Deframer.{spans_of}
use Rattle.x25_bits.specs.Stuffing.{unstuff}

-- a seventh 1 bit in a row comes, where `run` of them came before
unfoldable pub seven_from : ℕ → List Bool → Bool
seven_from run [] = false
seven_from run (false ∷ bits) = seven_from 0 bits
seven_from run (true ∷ bits) = if run == 6 then true else seven_from (run + 1) bits

-- how many 1 bits stand at the end, counted afresh after each bit behind five of them
unfoldable pub run_from : ℕ → List Bool → ℕ
run_from run [] = run
run_from run (b ∷ bits) = if run == 5 then run_from 0 bits else run_from (if b then run + 1 else 0) bits

-- the first n octets of the bits, each lowest bit first
unfoldable pub octets_by : ℕ → List Bool → List ℕ
octets_by zero bits = []
octets_by (suc n) bits = number_of (take 8 bits) ∷ octets_by n (drop 8 bits)

-- the whole octets of the bits
abbrev pub octets_of : List Bool → List ℕ
octets_of bits = octets_by (length bits / 8) bits

-- what a span is
pub data Class : Type 0 where
  Content : List ℕ → Class
  Abort : Class
  Short : Class
  Long : Class
  Ragged : Class

-- by its unstuffed bits: fewer than 4 octets, more than 4,103 octets, whole octets or not
unfoldable pub class_by : List Bool → Class
class_by bits = if nat_lt (length bits) 32 then Short else (if nat_lt 32824 (length bits) then Long
    else (if length bits % 8 == 0 then Content (octets_of bits) else Ragged))

-- the first that applies: seven 1 bits in a row; five 1 bits at the end with no inserted 0 behind them; then by
-- the unstuffed bits
unfoldable pub class_of : List Bool → Class
class_of span = if seven_from 0 span then Abort else (if run_from 0 span == 5 then Ragged else class_by (unstuff span))

-- an empty span is not reported
abbrev pub reported : List Bool → List Class
reported [] = []
reported (b ∷ span) = class_of (b ∷ span) ∷ []

-- what is found in the bits: the classes of their spans, in order
abbrev pub found_of : List Bool → List Class
found_of bits = flat_map reported (spans_of bits)
