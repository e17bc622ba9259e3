-- Which states of the definition a circuit's variables stand for.
use Rattle.std.specs.Prelude.{◌≡◌, ℕ, ◌+◌, ◌≤◌, ◌%◌, ◌⊎◌, List, [], ◌∷◌, ◌++◌, drop, length, nat_lt}
use Rattle.std.specs.Prelude.{◌&&◌}
use Rattle.std.specs.Prelude.{true, false}
use Rattle.x25_window.specs.Receiver.{FitsTaken}
use Rattle.x25_circuit.specs.declared.transfer.Transfer.{Transfer}
use Rattle.x25_circuit.specs.declared.transfer.Header.{Header}
use Rattle.x25_circuit.specs.code.FitsNumbers.{FitsNumbers}
use Rattle.x25_circuit.specs.code.Changes.{with_sent}
use Rattle.x25_circuit.specs.Message.{Piece, piece_of, no_part, joining, cut_all, asked_in}
use Rattle.x25_circuit.specs.Queue.{waiting}
use Rattle.x25_circuit.specs.Circuit.{Talk}

-- with the most octets of a packet that is sent; of a message in part no more octets have come than the longest has
pub record FitsTalk (size : ℕ) (v : Transfer) (t : Talk) : Type 0 where
  pub numbers : FitsNumbers v.sender t.acked t.sent
  pub taken : FitsTaken v.receiver (length t.taken)
  pub rest : t.rest ≡ cut_all size (waiting v.queue)
  pub part : v.partial.part ≡ joining no_part t.taken
  pub short : length v.partial.part.user ≤ v.partial.longest
  pub unconfirmed : v.unconfirmed ≡ asked_in (drop t.acked (t.sent ++ t.rest))
  pub int_out : v.interrupt_out ≡ t.int_out
  pub peer_ready : v.peer_ready ≡ t.peer_ready
  pub own_ready : v.own_ready ≡ t.own_ready

-- no data packet may be sent: none waits, the other end isn't ready, or the window is closed
abbrev pub IsHeld : ℕ → Talk → Type 0
IsHeld window t = (t.rest ≡ []) ⊎ ((t.peer_ready && nat_lt (length t.sent) (t.acked + window)) ≡ false)

-- the next data packet was sent, and the queue lends its user data
pub record IsSent (window size : ℕ) (t : Talk) (v : Transfer) (header : Header) : Type 0 where
  pub others : List Piece
  pub first : t.rest ≡ piece_of header.marks header.m v.queue.cutter.lent ∷ others
  pub allowed : (t.peer_ready && nat_lt (length t.sent) (t.acked + window)) ≡ true
  pub fits : FitsTalk size v (with_sent (piece_of header.marks header.m v.queue.cutter.lent) others t)
  pub ps : header.ps.number ≡ length t.sent % 8
  pub pr : header.pr.number ≡ length t.taken % 8
