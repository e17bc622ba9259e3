use Rattle.x25_link.proofs.Names.{ℕ, ◌+◌, ◌≡◌, List, length, Fits}
use Rattle.x25_window.specs.Sender.{Sending, acknowledged}
use Rattle.x25_link.proofs.outgoing.Outgoing.release.Given as goal

-- so many packets are acknowledged, and the others are held
abbrev pub invariant-loop-packet : goal.invariant-loop-packet
invariant-loop-packet l = record {
  sender : (w : Sending (List ℕ)) → Fits l.initial.self.sender w → Fits l.self.sender (acknowledged w (w.acked + l._packet));
  left : length l.self.sender.items + l._packet ≡ length l.initial.self.sender.items;
  queue : l.self.queue ≡ l.initial.self.queue;
}
