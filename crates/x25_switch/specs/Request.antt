-- A command that makes a call.
use Rattle.std.specs.Prelude.{◌≡◌, ℕ, List}
use Rattle.x25_circuit.specs.Params.{Proposal}
use Rattle.x25_layer.specs.Calls.{Dials}
use Rattle.x25_station.specs.Command.{Command, Requests}

pub record IsCall (command : Command) : Type 0 where
  pub called : List ℕ
  pub calling : List ℕ
  pub user : List ℕ
  pub proposal : Proposal
  pub is : command ≡ Requests (Dials called calling user proposal)
