-- The packets of a channel. ITU-T X.25 (10/96), sections 4.1, 4.3 and 4.4.
use Rattle.std.specs.Prelude.{ℕ, ◌%◌, List, Bool, true, false}
use Rattle.x25_circuit.specs.Message.{Piece}
use Rattle.x25_circuit.specs.Notice.{CallRequest}

-- With what the two ends' order depends on: no channel, cause or diagnostic. A CALL has what its facilities say, an
-- ACCEPT its facility field, and the most octets of a message that the two ends hold to.
pub data Packet : Type 0 where
  Data : (ns : ℕ) → (nr : ℕ) → (piece : Piece) → Packet
  Rr : (nr : ℕ) → Packet
  Rnr : (nr : ℕ) → Packet
  Int : (user : List ℕ) → Packet
  IntConf : Packet
  Reset : Packet
  ResetConf : Packet
  Call : (item : CallRequest) → Packet
  Accept : (field : List ℕ) (longest : ℕ) → Packet
  Clear : Packet
  ClearConf : Packet

-- RR or RNR with this number
abbrev pub status : Bool → ℕ → Packet
status true n = Rr (n % 8)
status false n = Rnr (n % 8)
