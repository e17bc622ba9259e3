use Rattle.x25_layer.proofs.Names.{◌≡◌, ◌-◌, ◌≤◌, length, LayerSettings, Layer, FitsLayer, awaited_up_to}
use Rattle.x25_layer.proofs.layer.Layer.awaited.Given as goal

abbrev pub invariant-loop-next : goal.invariant-loop-next
invariant-loop-next l = record {
  sum : (c : LayerSettings) (s : Layer) → FitsLayer c l.self s → l.awaited ≡ awaited_up_to s.circuits l.channel;
  few : l.awaited ≤ l.channel;
  high : l.channel ≤ length l.self.circuits.items;
}

abbrev pub decreases-loop-next : goal.decreases-loop-next
decreases-loop-next l = length l.self.circuits.items - l.channel
