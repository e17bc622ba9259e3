-- What is held in the midst of a line.
use Rattle.std.specs.Prelude.{◌≡◌, ℕ, Bool, List, ◌++◌, Option}
use Rattle.std.specs.Io.KnownBytes.{Appends}
use Rattle.x25_bits.specs.FrameCheck.{bits_of}
use Rattle.x25_bits.specs.code.Fits.{Fits}
use Rattle.x25_bits.specs.Found.{found_of}
use Rattle.x25_bits.specs.declared.deframer.Deframer.{Deframer}
use Rattle.x25_bits.specs.declared.role.Role.{Role}
use Rattle.x25_io.specs.code.Runs.{Program}
use Rattle.x25_io.specs.code.Written.{Tells}
use Rattle.x25_bit_line.specs.Deframing.{class_lines, deframed}
use Rattle.x25_bit_line.specs.declared.finder.Finder.{Finder}

-- These bits were read, and the lines for what is found in them were told, of which `text` waits to be written.
pub record Reads (from : Role) (old now : Option (List ℕ)) (d : Deframer) (text : List ℕ)
    (bits : List Bool) : Type 0 where
  pub fits : Fits d bits
  pub tells : Tells old now text (class_lines from (found_of bits))

-- of these octets some were read, and `rest` is to come
pub record ReadsOn (from : Role) (f : Finder) (old now : Option (List ℕ)) (rest input : List ℕ) : Type 0 where
  pub role : f.lines.from ≡ from
  pub done : List ℕ
  pub split : done ++ rest ≡ input
  pub reads : Reads from old now f.deframer f.lines.output (bits_of done)

-- written is what is said of all that was read
pub record WritesRead (from : Role) (old now : Option (List ℕ)) (rest input : List ℕ) : Type 0 where
  pub done : List ℕ
  pub split : done ++ rest ≡ input
  pub appends : Appends old now (deframed from done)

abbrev pub program : Role → Program
program from = record { text = deframed from; status = λ _. 0; Ended = WritesRead from }
