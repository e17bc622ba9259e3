use Rattle.x25_link.proofs.Names.{◌≡◌, ◌+◌, ◌≤◌, length}
use Rattle.x25_link.proofs.outgoing.Outgoing.clear.Given as goal

-- nothing is sent any more, and so many packets at least don't wait any more
abbrev pub invariant-loop-packet : goal.invariant-loop-packet
invariant-loop-packet l = record {
  sender : l.self.sender ≡ l.initial.self.sender;
  left : length l.self.queue.items + l._packet ≤ length l.initial.self.queue.items;
}
