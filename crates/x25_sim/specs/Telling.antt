-- What the simulator says of a script, one line each, and the text of that (profile).
use Rattle.std.specs.Prelude.{ℕ, nat_le, Bool, true, false, List, ◌++◌, codes, decimal, if◌then◌else◌}
use Rattle.std.specs.List.{flat_map, list_any}
use Rattle.x25_bits.specs.declared.role.Role.{Role}
use Rattle.x25_bits.specs.declared.role.Role.TheVariants.{Dte, Dce}
use Rattle.x25_station.specs.Entry.{StationEntry}
use Rattle.x25_station.specs.Error as station
use Rattle.x25_transcript.specs.EntryText.{entry_line}
use Rattle.x25_console.specs.Telling.{frame_line, refusal_line, nothing_line}
use Rattle.x25_world.specs.World.{Act, AtEnd, Commands, Damages, Event, Fires, Loses, OnTap, Receives}
use Rattle.x25_world.specs.Error as world
use Rattle.x25_world.specs.declared.error.WorldError.{WorldError}
use Rattle.x25_world.specs.declared.error.WorldError.TheVariants.{Station}

-- an entry of the transcript; a frame that was put on the line; that a line of the script isn't in the grammar; that an
-- event is refused; which event it was that made what is said before it
pub data Saying : Type 0 where
  enters : (entry : AtEnd) → Saying
  taps : (frame : OnTap) → Saying
  reads_nothing : Saying
  refuses : (error : WorldError) → Saying
  marks : (event : Event) → Saying

-- an entry of the transcript of an end
abbrev pub enters_at : Role → StationEntry → Saying
enters_at at entry = enters (record { at = at; entry = entry })

-- the number of a refusal, which is the station's own where the station refuses
abbrev pub refusal_number : WorldError → ℕ
refusal_number (Station error) = station.number_of error
refusal_number error = world.number_of error

-- the direction that leads away from the other end
abbrev pub direction_to : Role → List ℕ
direction_to Dce = codes ">"
direction_to Dte = codes "<"

abbrev pub end_word : Role → List ℕ
end_word Dte = codes "dte"
end_word Dce = codes "dce"

-- a place on the line, 65,535 where it is greater
abbrev pub place_text : ℕ → List ℕ
place_text place = decimal (if nat_le place 65535 then place else 65535)

-- an event in the words of a script, without what its user hands down and without octets
abbrev pub act_text : Role → Act → List ℕ
act_text at (Commands asked) = end_word at ++ codes " asks"
act_text at Receives = codes "deliver " ++ direction_to at
act_text at Fires = codes "t1 " ++ end_word at
act_text at (Loses place) = codes "lose " ++ direction_to at ++ codes " " ++ place_text place
act_text at (Damages place octets) = codes "damage " ++ direction_to at ++ codes " " ++ place_text place

unfoldable pub mark_line : Event → List ℕ
mark_line e = codes ". " ++ act_text e.at e.act ++ codes "\n"

unfoldable pub saying_line : Saying → List ℕ
saying_line (enters e) = entry_line e.at e.entry
saying_line (taps frame) = frame_line frame.from frame.octets
saying_line reads_nothing = nothing_line
saying_line (refuses error) = refusal_line (refusal_number error)
saying_line (marks event) = mark_line event

abbrev pub sayings_text : List Saying → List ℕ
sayings_text sayings = flat_map saying_line sayings

abbrev pub is_refusal : Saying → Bool
is_refusal (enters e) = false
is_refusal (taps frame) = false
is_refusal reads_nothing = true
is_refusal (refuses error) = true
is_refusal (marks event) = false

abbrev pub has_refusal : List Saying → Bool
has_refusal sayings = list_any is_refusal sayings
