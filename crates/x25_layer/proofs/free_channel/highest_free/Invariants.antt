use Rattle.x25_layer.proofs.Names.{◌≡◌, ◌≤◌, ℕ, length, Circuit, highest_free, LayerSettings, FitsCircuits}
use Rattle.x25_layer.proofs.free_channel.highest_free.Given as goal

-- those above a channel aren't free
abbrev pub invariant-loop-channel : goal.invariant-loop-channel
invariant-loop-channel l = record {
  high : l.channel ≤ length l.circuits;
  free : (c : LayerSettings) (f : ℕ → Circuit) → FitsCircuits c l.circuits f → highest_free f (length l.circuits) ≡ highest_free f l.channel;
}

abbrev pub decreases-loop-channel : goal.decreases-loop-channel
decreases-loop-channel l = l.channel
