-- No error of procedure: packets and notices that tell of none.
use Rattle.std.specs.Prelude.{◌≡◌, List, [], ◌∷◌, true, false}
use Rattle.x25_packet.specs.Packet.{PlainPacket, call, accept, clear, reset, restart}
use Rattle.x25_packet.specs.Spelling.{channel_of, HasChannel}
use Rattle.x25_packet.specs.Facilities.{IsFacilityField}
use Rattle.x25_circuit.specs.Notice.{PlainNotice, fault}
use Rattle.x25_circuit.specs.Cause.{is_fault_of_clear, is_fault_of_reset, is_fault_of_restart}
use Rattle.x25_layer.specs.declared.ranges.Ranges.{Ranges}
use Rattle.x25_layer.specs.Layer.{is_channel, LayerNotice, on_channel, layer_fault}

-- The cause of a CLEAR, RESET or RESTART is none by which a station tells of an error of procedure; the facilities of a
-- CALL and of its acceptance are packet sizes and windows that are allowed.
abbrev pub IsQuiet : PlainPacket → Type 0
IsQuiet (call channel called calling facilities user) = IsFacilityField facilities
IsQuiet (accept channel facilities) = IsFacilityField facilities
IsQuiet (clear channel cause diagnostic) = is_fault_of_clear cause ≡ false
IsQuiet (reset channel cause diagnostic) = is_fault_of_reset cause ≡ false
IsQuiet (restart cause diagnostic) = is_fault_of_restart cause ≡ false
IsQuiet packet = Unit {0}

-- each of them but RESTART and its confirmation is of a configured channel
abbrev pub IsQuietAt : Ranges → PlainPacket → Type 0
IsQuietAt channels packet = IsQuiet packet × (HasChannel packet → is_channel channels (channel_of packet) ≡ true)

abbrev pub AreQuiet : Ranges → List PlainPacket → Type 0
AreQuiet channels [] = Unit {0}
AreQuiet channels (packet ∷ packets) = IsQuietAt channels packet × AreQuiet channels packets

abbrev pub IsNoFault : PlainNotice → Type 0
IsNoFault (fault diagnostic) = ⊥
IsNoFault notice = Unit {0}

abbrev pub IsNoLayerFault : LayerNotice → Type 0
IsNoLayerFault (on_channel channel notice) = IsNoFault notice
IsNoLayerFault (layer_fault diagnostic) = ⊥
IsNoLayerFault notice = Unit {0}

abbrev pub AreNoFaults : List LayerNotice → Type 0
AreNoFaults [] = Unit {0}
AreNoFaults (notice ∷ notices) = IsNoLayerFault notice × AreNoFaults notices
