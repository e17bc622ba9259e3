-- What a layer is asked before a packet: whether its counts have room (profile).
use Rattle.std.specs.Prelude.{◌<◌, ◌^◌, ◌-◌}
pub use Rattle.x25_layer.specs.code.Counts.{HasCountsLeft, HaveCountsLeft}
use Rattle.x25_layer.specs.declared.layer.Layer as code

-- no count of the layer is at its most
pub record IsNotFull (v : code.Layer) : Type 0 where
  pub restarts : v.restarts < 2 ^ 64 - 1
  pub circuits : HaveCountsLeft v.circuits.items
