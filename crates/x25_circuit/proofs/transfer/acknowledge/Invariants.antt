use Rattle.x25_circuit.proofs.Names.{ℕ, ◌+◌, ◌≤◌, ◌≡◌, List, length, drop, Piece, asked_in, FitsNumbers}
use Rattle.x25_circuit.proofs.transfer.acknowledge.Given as goal

-- so many packets are acknowledged, and of those that asked the others are left
abbrev pub invariant-loop-packet : goal.invariant-loop-packet
invariant-loop-packet l = record {
  fits : (n : ℕ) (sent : List Piece) → FitsNumbers l.initial.sender n sent → FitsNumbers l.sender (n + l._packet) sent;
  asked : (n : ℕ) (sent : List Piece) → FitsNumbers l.initial.sender n sent → l.asked + asked_in (drop (n + l._packet) sent) ≡ asked_in (drop n sent);
  few : l.asked ≤ l._packet;
  left : length l.sender.items + l._packet ≡ length l.initial.sender.items;
}
