use Rattle.x25_layer.proofs.{CallLemmas.{IsLike}, Names.{◌≡◌, ℕ, ◌-◌, ◌<◌, ◌≤◌, None, length, Circuit, LayerSettings, FitsCircuits, next_packet}}
use Rattle.x25_layer.proofs.layer.Layer.pull.Given as goal

-- the circuits up to a channel have none, and all are as they were
abbrev pub invariant-loop-next : goal.invariant-loop-next
invariant-loop-next l = record {
  like : IsLike l.initial.self l.self;
  count : length l.self.circuits.items ≡ length l.initial.self.circuits.items;
  stands : (c : LayerSettings) (f : ℕ → Circuit) → FitsCircuits c l.initial.self.circuits.items f → FitsCircuits c l.self.circuits.items f;
  none : (c : LayerSettings) (f : ℕ → Circuit) → FitsCircuits c l.initial.self.circuits.items f → (k : ℕ) → l.behind < k → k ≤ l.channel
      → next_packet c f k ≡ None;
  low : l.behind ≤ l.channel;
}

abbrev pub decreases-loop-next : goal.decreases-loop-next
decreases-loop-next l = length l.initial.self.circuits.items - l.channel
