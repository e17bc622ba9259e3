-- The octets of the last I frame of each number that an end sent, where they are known (profile).
use Rattle.std.specs.Prelude.{ℕ, ◌%◌, nat_le, Bool, false, not, ◌&&◌, List, [], if◌then◌else◌, length, replicate}
use Rattle.std.specs.{Prelude.{slice_index_or, slice_set}, Str.{bytes_eq}}
use Rattle.x25_frame.specs.Frame.{PlainFrame, info}
use Rattle.x25_text.specs.declared.text.TheConstants.{ROOM}

-- for each of the numbers 0 to 7
pub record Held : Type 0 where
  pub octets : List (List ℕ)
  pub known : List Bool

unfoldable pub no_octets : List (List ℕ)
no_octets = replicate 8 []

abbrev pub none_held : Held
none_held = record { octets = no_octets; known = replicate 8 false }

abbrev pub is_held : Held → ℕ → Bool
is_held h n = slice_index_or h.known (n % 8) false

-- whether the I frame has the octets of the last one of its number
unfoldable pub is_same : Held → PlainFrame → Bool
is_same h (info ns nr p octets) = is_held h ns && bytes_eq (slice_index_or h.octets (ns % 8) []) octets
is_same h frame = false

-- whether it is known to have others
unfoldable pub differs : Held → PlainFrame → Bool
differs h (info ns nr p octets) = is_held h ns && not (bytes_eq (slice_index_or h.octets (ns % 8) []) octets)
differs h frame = false

-- a line of a trace has no more octets than are kept
abbrev pub kept : List ℕ → List ℕ
kept octets = if nat_le (length octets) ROOM then octets else []

unfoldable pub keeps : Held → PlainFrame → Held
keeps h (info ns nr p octets) = record {
  octets = slice_set h.octets (ns % 8) (kept octets);
  known = slice_set h.known (ns % 8) (nat_le (length octets) ROOM);
}
keeps h frame = h

abbrev pub forgets : ℕ → Held → Held
forgets n h = record h { known = slice_set h.known (n % 8) false }

abbrev pub forgets_all : Held → Held
forgets_all h = record h { known = replicate 8 false }
