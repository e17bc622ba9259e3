use Rattle.std.proofs.Common.{◌≡◌, drop}
use Rattle.x25_routes.specs.Routes.{route_of}
use Rattle.x25_routes.specs.code.Made.{made}
use Rattle.x25_routes.proofs.routes.Routes.of.Given as goal

abbrev pub invariant-loop-route : goal.invariant-loop-route
invariant-loop-route l = route_of (drop l.route-index (made l.self)) l.prefix ≡ route_of (made l.self) l.prefix
