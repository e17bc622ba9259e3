-- How many octets a world holds at most (profile).
use Rattle.std.specs.{Prelude.{ℕ, List, ◌+◌, ◌*◌, ◌≤◌, length, max}, List.{sum_by}}
use Rattle.x25_station.specs.declared.config.Cfg.{Cfg}
use Rattle.x25_world.specs.{World.{World}, code.FitsWorld.{FitsWorld}, code.ShownWorld.{ShownWorld}}
use Rattle.x25_station.specs.laws.OctetLaw as station

-- A frame on its line counts as the longest, or as its own octets where these are more.
abbrev pub frame_octets : List ℕ → ℕ
frame_octets frame = max (length frame) 4103

-- those of the frames on its line
abbrev pub line_octets : ShownWorld → ℕ
line_octets v = sum_by frame_octets v.to_dce + sum_by frame_octets v.to_dte

-- the memory of a step: for 25 frames, a message and five texts
abbrev pub step_octets : ℕ
step_octets = 4103 * 25 + (65535 + 128 * 5)

-- those of its stations, the memory kept for 34 frames, that of a step, and these
abbrev pub octets_held : ShownWorld → ℕ
octets_held v = (station.octets_held v.dte + station.octets_held v.dce)
    + (4103 * 34 + step_octets + line_octets v)

-- with so many channels, and messages of so many octets, as its settings say
abbrev pub FewOctets : Type 0
FewOctets = (cfg : Cfg) (v : ShownWorld) (w : World) → FitsWorld cfg v w
    → octets_held v ≤ 781844 + 2 * ((589815 + cfg.channels.message) * cfg.channels.count) + line_octets v
