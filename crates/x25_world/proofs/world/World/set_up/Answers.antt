use Rattle.x25_world.proofs.{Names.{Err, sym, subst, err_from_is_err_and, connected, FitsWorld}, WorldLemmas.{only_memory}}
use Rattle.x25_world.proofs.world.World.set_up.Goals as goal

pub returns-in_err-act_at_end-clause-refused : goal.returns-in_err-act_at_end-clause-refused
returns-in_err-act_at_end-clause-refused c = λ cfg fits.
    let inside = subst (λ v. FitsWorld cfg v (connected cfg)) (sym c.self.view_is) fits in
    let p = err_from_is_err_and c.from_residual.result c.from_residual.ensures.1 in
    rw (p.1, p.2) (only_memory _ (Err c.in_err-act_at_end.field-0.0) (c.two_stations_keep_order.ensures.set_up cfg).0
    (c.in_err-act_at_end.ensures.acted cfg (connected cfg) inside).refused)

pub returns-clause-fits : goal.returns-clause-fits
returns-clause-fits c = λ cfg fits.
    let inside = subst (λ v. FitsWorld cfg v (connected cfg)) (sym c.self.view_is) fits in
    (c.act_at_end-2.ensures.acted cfg _ (c.in_ok-act_at_end.ensures.acted cfg (connected cfg) inside).happened).happened

pub returns-clause-refused : goal.returns-clause-refused
returns-clause-refused c = λ cfg fits.
    let inside = subst (λ v. FitsWorld cfg v (connected cfg)) (sym c.self.view_is) fits in
    only_memory _ c.act_at_end-2.result (c.two_stations_keep_order.ensures.set_up cfg).1.0
    (c.act_at_end-2.ensures.acted cfg _ (c.in_ok-act_at_end.ensures.acted cfg (connected cfg) inside).happened).refused
