-- The frames of a set-up that are on the line: by what their octets read as now, whatever P or F.
use Rattle.std.specs.{Prelude.{ℕ, Bool, true, false, List, Result, Ok}, List.{list_any}}
use Rattle.x25_bits.specs.declared.role.Role.{Role}
use Rattle.x25_frame.specs.{Frame.{PlainFrame, sabm, ua}, Reading.{frame_of}, declared.error.FrameError.{FrameError}}
use Rattle.x25_station.specs.Config.{longest_packet}
use Rattle.x25_world.specs.{declared.set_up.SetUpFrame.{SetUpFrame}, declared.set_up.SetUpFrame.TheVariants.{Sabm, Ua}}

abbrev pub is_a : SetUpFrame → Result PlainFrame FrameError → Bool
is_a Sabm (Ok (sabm p)) = true
is_a Sabm read = false
is_a Ua (Ok (ua f)) = true
is_a Ua read = false

abbrev pub reads_as : SetUpFrame → Role → List ℕ → Bool
reads_as frame from octets = is_a frame (frame_of from longest_packet octets)

-- octets that an end sent have such a frame
abbrev pub carries : SetUpFrame → Role → List (List ℕ) → Bool
carries frame from octets = list_any (reads_as frame from) octets
