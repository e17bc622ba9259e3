-- What a circuit tells the user.
use Rattle.std.specs.Prelude.{ℕ, List, [], ◌∷◌}
use Rattle.x25_circuit.specs.Message.{Message}
use Rattle.x25_circuit.specs.declared.params.Params.{Params}

-- what a call says: the digits of the called and of the calling address, the user data, and the packet sizes and
-- windows that are proposed
pub record CallRequest : Type 0 where
  pub called : List ℕ
  pub calling : List ℕ
  pub user : List ℕ
  pub params : Params

-- causes go before diagnostics; `connected` tells the packet sizes and windows in force
pub data PlainNotice : Type 0 where
  incoming : (request : CallRequest) → PlainNotice
  connected : (params : Params) → PlainNotice
  collided : PlainNotice
  cleared : (cause : ℕ) → (diagnostic : ℕ) → PlainNotice
  clear_done : PlainNotice
  was_reset : (cause : ℕ) → (diagnostic : ℕ) → PlainNotice
  reset_done : PlainNotice
  delivered : (message : Message) → PlainNotice
  interrupted : (user : List ℕ) → PlainNotice
  interrupt_done : PlainNotice
  fault : (diagnostic : ℕ) → PlainNotice

abbrev pub deliveries : List Message → List PlainNotice
deliveries [] = []
deliveries (m ∷ ms) = delivered m ∷ deliveries ms
