use Rattle.std.proofs.Common.{◌≡◌, ◌∙◌, ◌+◌, ◌-◌, suc, length, sym, ap, arith, option_copied}
use Rattle.x25_routes.specs.Routes.{found_below}
use Rattle.x25_routes.specs.code.Made.{made}
use Rattle.x25_routes.proofs.RouteLemmas.{found_step}
use Rattle.x25_routes.proofs.routes.Routes.longest.Goals as goal

pub loop-missing-preserved : goal.loop-missing-preserved
loop-missing-preserved c =
    let rs = made c.args.self.now in
    let called = c.args.called.now in
    let missing = c.loop-missing.missing in
    let low = c.loop-missing-test.true in
    let one : suc (length called - (missing + 1)) ≡ length called - missing = omega (arith, low) in
    ap (λ n. found_below n rs called) one
    ∙ sym (found_step rs called (length called - missing) (sym c.of.ensures.route ∙ ap option_copied c.in_default.is))
    ∙ c.loop-missing.invariant
