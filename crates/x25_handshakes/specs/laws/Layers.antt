-- The packets of all channels of an end, and RESTART.
use Rattle.std.specs.Prelude.{ℕ, List, [], ◌∷◌}
use Rattle.x25_handshakes.specs.laws.Stretch.{Packet}

-- a packet of a channel; RESTART and its confirmation
pub data LayerPacket : Type 0 where
  On : (channel : ℕ) → (packet : Packet) → LayerPacket
  Restart : LayerPacket
  RestartConf : LayerPacket

abbrev pub addressed : ℕ → List Packet → List LayerPacket
addressed h [] = []
addressed h (p ∷ o) = On h p ∷ addressed h o
