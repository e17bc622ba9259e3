-- Which packets handed down a outgoing stands for.
use Rattle.std.specs.Prelude.{◌≡◌, ℕ, ◌≤◌, List, length, take, drop}
use Rattle.x25_window.specs.Sender.{Sending}
use Rattle.x25_window.specs.code.Held.{Fits}
use Rattle.x25_link.specs.declared.outgoing.Outgoing.{Outgoing as OutgoingCode}
use Rattle.x25_link.specs.Outgoing.{Outgoing}

-- the packets that were sent, as the window machine has them
abbrev pub sending_of : ℕ → Outgoing → Sending (List ℕ)
sending_of k o = record { given = take o.sent o.given; acked = o.acked; place = o.place; window = k }

-- what was sent and isn't acknowledged, and what waits
pub record FitsOutgoing (k : ℕ) (b : OutgoingCode) (o : Outgoing) : Type 0 where
  pub sender : Fits b.sender (sending_of k o)
  pub queue : b.queue.items ≡ drop o.sent o.given
  pub sent : o.sent ≤ length o.given
  pub few : length b.queue.items ≤ 256
