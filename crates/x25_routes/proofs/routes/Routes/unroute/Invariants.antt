use Rattle.std.proofs.Common.{◌≡◌, ◌++◌, take, drop}
use Rattle.x25_routes.specs.Routes.{route_of, without}
use Rattle.x25_routes.specs.code.Made.{made}
use Rattle.x25_routes.proofs.routes.Routes.unroute.Given as goal

abbrev pub invariant-loop-place : goal.invariant-loop-place
invariant-loop-place l =
    (without (made l.self) l.prefix ≡ take l.place (made l.self) ++ without (drop l.place (made l.self)) l.prefix)
    × (route_of (drop l.place (made l.self)) l.prefix ≡ route_of (made l.self) l.prefix)
    × (l.self ≡ l.initial.self)
