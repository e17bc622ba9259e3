-- What holds of the route that is found: an address begins with its prefix, and with no longer one of another.
use Rattle.std.specs.{Prelude.{◌≡◌, ℕ, ◌≤◌, List, ◌++◌, length, Some, None}, List.{Contains}}
use Rattle.x25_routes.specs.Route.{PlainRoute}
use Rattle.x25_routes.specs.Routes.{found}

abbrev pub Begins : List ℕ → List ℕ → Type 0
Begins prefix address = (rest : List ℕ) × (prefix ++ rest ≡ address)

pub record IsLongest (rs : List PlainRoute) (address : List ℕ) (r : PlainRoute) : Type 0 where
  pub made : Contains rs r
  pub begins : Begins r.prefix address
  pub longest : (s : PlainRoute) → Contains rs s → Begins s.prefix address → length s.prefix ≤ length r.prefix

abbrev pub LongestHolds : Type 0
LongestHolds = (rs : List PlainRoute) (address : List ℕ) (r : PlainRoute) → found rs address ≡ Some r
    → IsLongest rs address r

-- where none is found, an address begins with the prefix of no route
abbrev pub NoneIsPassedOver : Type 0
NoneIsPassedOver = (rs : List PlainRoute) (address : List ℕ) → found rs address ≡ None → (s : PlainRoute)
    → Contains rs s → Begins s.prefix address → ⊥
