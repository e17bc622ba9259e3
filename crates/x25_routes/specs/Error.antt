-- The number of each refusal of a route (profile).
use Rattle.std.specs.Prelude.{ℕ}
use Rattle.x25_routes.specs.declared.error.RouteError.{RouteError}
use Rattle.x25_routes.specs.declared.error.RouteError.TheVariants.{NoMemory, NoSuchLine, BadPrefix, NoSuchRoute, Stands}

abbrev pub number_of : RouteError → ℕ
number_of NoMemory = 70
number_of NoSuchLine = 80
number_of BadPrefix = 81
number_of NoSuchRoute = 82
number_of Stands = 83
