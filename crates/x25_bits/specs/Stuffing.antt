-- Stuffing. ITU-T X.25 (10/96), section 2.2.6 (transparency).
use Rattle.std.specs.Prelude.{ℕ, ◌+◌, ◌-◌, ◌%◌, ◌==◌, Bool, true, false, if◌then◌else◌, List, [], ◌∷◌, ◌++◌, length}
use Rattle.std.specs.Prelude.{replicate}
use Rattle.x25_bits.specs.FrameCheck.{bits_of}
use Rattle.x25_bits.specs.Deframer.{flag}

-- the bits with a 0 put after every run of five 1 bits, counted afresh after each such 0, where `run` of them
-- came before
unfoldable pub stuffed_from : ℕ → List Bool → List Bool
stuffed_from run [] = []
stuffed_from run (false ∷ bits) = false ∷ stuffed_from 0 bits
stuffed_from run (true ∷ bits) = if run == 4 then true ∷ false ∷ stuffed_from 0 bits
    else true ∷ stuffed_from (run + 1) bits

abbrev pub stuff : List Bool → List Bool
stuff bits = stuffed_from 0 bits

-- the bits without those that stand behind five 1 bits, counted afresh after each such bit
unfoldable pub unstuffed_from : ℕ → List Bool → List Bool
unstuffed_from run [] = []
unstuffed_from run (b ∷ bits) = if run == 5 then unstuffed_from 0 bits
    else b ∷ unstuffed_from (if b then run + 1 else 0) bits

abbrev pub unstuff : List Bool → List Bool
unstuff bits = unstuffed_from 0 bits

-- what is put on the line for octets: a flag, their stuffed bits, a flag
abbrev pub framed : List ℕ → List Bool
framed octets = flag ++ stuff (bits_of octets) ++ flag

-- the bits, and as few 1 bits behind them as make whole octets: what an idle line carries, of which no flag and no
-- content comes; a flag would fit there only where it shared its 0 bits, so often that it took up to six octets.
-- Profile.
abbrev pub filled : List Bool → List Bool
filled bits = bits ++ replicate ((8 - length bits % 8) % 8) true
