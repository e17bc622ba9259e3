use Rattle.x25_world.proofs.Names.{sym, subst, FitsWorld}
use Rattle.x25_world.proofs.world.World.happen.Goals as goal

pub returns-clause-acted : goal.returns-clause-acted
returns-clause-acted c = λ cfg w fits. c.act_at_end.ensures.acted cfg w (subst (λ v. FitsWorld cfg v w) (sym c.self.view_is) fits)

pub returns-clause-places : goal.returns-clause-places
returns-clause-places c =
    let few = c.act_at_end.ensures.places in
    rw (← c.self.view_is) (record { to_dce = few.to_dce; to_dte = few.to_dte })
