-- How many messages of a channel haven't the confirmation yet that was asked of them.
use Rattle.std.specs.Prelude.{ℕ, if◌then◌else◌}
use Rattle.x25_circuit.specs.Circuit.{unconfirmed}
use Rattle.x25_layer.specs.Layer.{LayerSettings, Layer, is_channel}

-- none where it isn't configured
abbrev pub unconfirmed_at : LayerSettings → Layer → ℕ → ℕ
unconfirmed_at c l h = if is_channel c.channels h then unconfirmed (l.circuits h) else 0
