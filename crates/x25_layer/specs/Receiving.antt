-- What a layer makes of octets that its link handed up, whatever they are.
use Rattle.std.specs.Prelude.{ℕ, List, Option, Some, None, Bool, true, false, Result, Ok, Err, if◌then◌else◌}
use Rattle.x25_packet.specs.declared.form.Form.{Form}
use Rattle.x25_packet.specs.declared.error.PacketError.{PacketError}
use Rattle.x25_packet.specs.Packet.{PlainPacket}
use Rattle.x25_packet.specs.Reading.{channel_in}
use Rattle.x25_packet.specs.Spelling.{longest_user}
use Rattle.x25_packet.specs.Taking.{IsFormOf, read_in}
use Rattle.x25_circuit.specs.Hearing.{hears as circuit_hears}
use Rattle.x25_layer.specs.declared.layer.Layer as code
use Rattle.x25_layer.specs.Layer.{LayerSettings, Layer, LayerAnswer, is_channel, answers_on, drops, layer_answers}
use Rattle.x25_layer.specs.Layer.{layer_undecoded}

abbrev pub undecoded_at : LayerSettings → Layer → PacketError → Option ℕ → LayerAnswer
undecoded_at c l e None = drops l.restarting l.restarts l.circuits
undecoded_at c l e (Some h) = layer_undecoded c l h e

abbrev pub answer_to : LayerSettings → Layer → List ℕ → Result PlainPacket PacketError → LayerAnswer
answer_to c l octets (Ok packet) = layer_answers c l packet
answer_to c l octets (Err e) = undecoded_at c l e (channel_in octets)

-- octets that the link handed up, read in one form or in all, with as much user data as a CALL of this end may have
abbrev pub layer_hears : LayerSettings → Bool → Layer → List ℕ → LayerAnswer
layer_hears c wide l octets = answer_to c l octets (read_in wide (longest_user c.circuit.long_data) octets)

-- what such octets are read to in any form, where that is asked
abbrev pub IsReadBy : code.Layer → List ℕ → Option (Result Form PacketError) → Type 0
IsReadBy v octets form = IsFormOf (longest_user v.long_data) octets form

-- ---- step by step

-- the circuit of the channel answers, in a layer that is ready
abbrev pub channel_hears : LayerSettings → Layer → ℕ → Result PlainPacket PacketError → LayerAnswer
channel_hears c l h read = answers_on l.restarts l.circuits h (circuit_hears c.circuit (l.circuits h) read)

-- where the layer isn't ready, or has no such channel, they are dropped
abbrev pub hears_on : LayerSettings → Layer → Bool → ℕ → Result PlainPacket PacketError → LayerAnswer
hears_on c l true h read = drops true l.restarts l.circuits
hears_on c l false h read = if is_channel c.channels h then channel_hears c l h read
    else drops false l.restarts l.circuits
