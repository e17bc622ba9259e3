-- The lines that tell of entries, of a frame and of a refusal (profile).
use Rattle.std.specs.Prelude.{ℕ, List, ◌++◌, codes, decimal}
use Rattle.std.specs.List.{flat_map}
use Rattle.x25_bits.specs.declared.role.Role.{Role}
use Rattle.x25_text.specs.Text.{octet_text}
use Rattle.x25_decode.specs.Decoding.{mark_of}
use Rattle.x25_station.specs.Entry.{StationEntry}
use Rattle.x25_transcript.specs.EntryText.{entry_line}

-- the entries of an end
abbrev pub entries_text : Role → List StationEntry → List ℕ
entries_text at entries = flat_map (entry_line at) entries

-- a frame and the end that sent it, as a line for `decode`
unfoldable pub frame_line : Role → List ℕ → List ℕ
frame_line from octets = mark_of from ++ flat_map octet_text octets ++ codes "\n"

-- the number of an error
unfoldable pub refusal_line : ℕ → List ℕ
refusal_line number = codes "! " ++ decimal number ++ codes "\n"

-- a line isn't in the grammar
abbrev pub nothing_line : List ℕ
nothing_line = codes "? 60\n"
