-- How many messages of a channel are confirmed by a packet: that their delivery was asked for, and is acknowledged.
-- ITU-T X.25 (10/96), sections 4.3.3 and 4.4.1.4.
use Rattle.std.specs.Prelude.{ℕ, ◌-◌, ◌&&◌, Bool, if◌then◌else◌, List, unwrap_or}
use Rattle.x25_packet.specs.Reading.{channel_in}
use Rattle.x25_circuit.specs.Circuit.{unconfirmed}
use Rattle.x25_handshakes.specs.laws.Names.{same_name}
use Rattle.x25_layer.specs.Layer.{LayerSettings, Layer}
use Rattle.x25_layer.specs.laws.Transcript.{name_of}
use Rattle.x25_layer.specs.code.FitsLayer.{is_open_at}

-- the channel that octets name, and 0, on which nothing is, where they name none
abbrev pub named_by : List ℕ → ℕ
named_by octets = unwrap_or (channel_in octets) 0

-- the same stretch is open in both
abbrev pub goes_on : LayerSettings → Layer → Layer → ℕ → Bool
goes_on c l next h = is_open_at c l h && (is_open_at c next h && same_name (name_of l h) (name_of next h))

-- From this layer to that: those that are unconfirmed no more. Where a stretch ends none is.
abbrev pub confirmed : LayerSettings → Layer → Layer → ℕ → ℕ
confirmed c l next h = if goes_on c l next h then unconfirmed (l.circuits h) - unconfirmed (next.circuits h) else 0
