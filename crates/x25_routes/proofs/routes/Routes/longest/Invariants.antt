use Rattle.std.proofs.Common.{◌≡◌, ◌-◌, suc, length}
use Rattle.x25_routes.specs.Routes.{found_below, found}
use Rattle.x25_routes.specs.code.Made.{made}
use Rattle.x25_routes.proofs.routes.Routes.longest.Given as goal

abbrev pub invariant-loop-missing : goal.invariant-loop-missing
invariant-loop-missing l = found_below (suc (length l.called - l.missing)) (made l.self) l.called ≡ found (made l.self) l.called
