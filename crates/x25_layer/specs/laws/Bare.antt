-- What a packet is to the nested handshakes, which look at no channel, cause or diagnostic, and at what a CALL's
-- facilities say, where the ends hold to messages of so many octets at most.
use Rattle.std.specs.Prelude.{ℕ, List, [], ◌∷◌}
use Rattle.x25_packet.specs.Packet.{PlainPacket, call, accept, clear, clear_conf, user_data, rr, rnr, interrupt}
use Rattle.x25_packet.specs.Packet.{interrupt_conf, reset, reset_conf, restart, restart_conf}
use Rattle.x25_packet.specs.Spelling.{channel_of}
use Rattle.x25_circuit.specs.Message.{piece_of}
use Rattle.x25_circuit.specs.Hearing.{request_in}
use Rattle.x25_handshakes.specs.laws.Stretch.{Packet, Data, Rr, Rnr, Int, IntConf, Reset, ResetConf, Call, Accept}
use Rattle.x25_handshakes.specs.laws.Stretch.{Clear, ClearConf}
use Rattle.x25_handshakes.specs.laws.Layers.{LayerPacket, On, Restart, RestartConf}

-- a packet of a channel (of a RESTART nothing is said)
abbrev pub bare : ℕ → PlainPacket → Packet
bare longest (call channel called calling facilities user) = Call (request_in called calling facilities user)
bare longest (accept channel facilities) = Accept facilities longest
bare longest (clear channel cause diagnostic) = Clear
bare longest (clear_conf channel) = ClearConf
bare longest (user_data channel marks m ps pr user) = Data ps pr (piece_of marks m user)
bare longest (rr channel pr) = Rr pr
bare longest (rnr channel pr) = Rnr pr
bare longest (interrupt channel user) = Int user
bare longest (interrupt_conf channel) = IntConf
bare longest (reset channel cause diagnostic) = Reset
bare longest (reset_conf channel) = ResetConf
bare longest (restart cause diagnostic) = ClearConf
bare longest restart_conf = ClearConf

abbrev pub bare_layer : ℕ → PlainPacket → LayerPacket
bare_layer longest (restart cause diagnostic) = Restart
bare_layer longest restart_conf = RestartConf
bare_layer longest packet = On (channel_of packet) (bare longest packet)

abbrev pub bare_layers : ℕ → List PlainPacket → List LayerPacket
bare_layers longest [] = []
bare_layers longest (packet ∷ packets) = bare_layer longest packet ∷ bare_layers longest packets
