-- What a sender counts, and keeps of each packet that isn't acknowledged.
use Rattle.std.specs.Prelude.{◌≡◌, ℕ, Bool, List, map}
use Rattle.x25_window.specs.Sender.{Sending}
use Rattle.x25_window.specs.code.Held.{Held, Fits}
use Rattle.x25_circuit.specs.Message.{Piece, asks}

-- the sender has room for seven packets, and counts those sent and those acknowledged
pub record FitsNumbers (h : Held Bool) (n : ℕ) (ps : List Piece) : Type 0 where
  pub state : Sending Bool
  pub fits : Fits h state
  pub window : state.window ≡ 7
  pub acked : state.acked ≡ n
  pub sent : state.given ≡ map asks ps
