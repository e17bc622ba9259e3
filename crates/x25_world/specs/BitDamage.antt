-- Damage to the bits of the line: others come in the place of those between the flags of a frame. Profile.
use Rattle.std.specs.Prelude.{ℕ, ◌<◌, ◌≤◌, Bool, List, length}
use Rattle.x25_bits.specs.{Found.{found_of}, HarmlessBits.{between_flags, IsHarmless, first_content}}
use Rattle.x25_bits.specs.{declared.direction.Direction.{Direction}, Role.{end_of}}
use Rattle.x25_world.specs.{World.{Event, Damages}, declared.error.WorldError.{WorldError}}
use Rattle.x25_world.specs.declared.error.WorldError.TheVariants.{NoSuchFrame, Unseen, NoMemory}

-- it is damage to the octets: the first content that is found between these flags comes in the place of the frame's, or
-- no octets where none is found
abbrev pub bit_damage : Direction → ℕ → List Bool → Event
bit_damage direction place bits = record {
  at = end_of direction;
  act = Damages place
      (first_content (found_of (between_flags bits)));
}

-- why it is refused, the first that applies: the line has no frame at that place, or the bits aren't harmless; or there
-- is no memory for a frame that is there
abbrev pub RefusesBits : List (List ℕ) → ℕ → List Bool → WorldError → Type 0
RefusesBits frames place bits NoSuchFrame = length frames ≤ place
RefusesBits frames place bits Unseen = (place < length frames) × ¬ (IsHarmless bits)
RefusesBits frames place bits NoMemory = place < length frames
RefusesBits frames place bits error = ⊥
