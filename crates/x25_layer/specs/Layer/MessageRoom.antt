-- How many messages more a channel takes.
use Rattle.std.specs.Prelude.{ℕ, if◌then◌else◌}
use Rattle.x25_circuit.specs.Circuit.{message_room}
use Rattle.x25_layer.specs.Layer.{LayerSettings, Layer, is_channel}

-- none where it isn't configured, and none while a restart is under way
abbrev pub room_at : LayerSettings → Layer → ℕ → ℕ
room_at c l h = if l.restarting then 0 else if is_channel c.channels h then message_room (l.circuits h) else 0
