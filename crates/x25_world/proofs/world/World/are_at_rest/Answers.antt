use Rattle.x25_world.proofs.Names.{sym, ap, ◌∙◌, ◌&&◌, subst, Dte, Dce, FitsStation, settings_from, is_at_rest}
use Rattle.x25_world.proofs.world.World.are_at_rest.Goals as goal

pub returns-then-status : goal.returns-then-status
returns-then-status c = λ cfg w fits.
    let dte = subst (λ s. FitsStation (settings_from Dte cfg) s w.near) (sym c.station.ensures) fits.dte in
    let dce = subst (λ s. FitsStation (settings_from Dce cfg) s w.far) (sym c.station-then-status.ensures) fits.dce in
    c.status-then-status.ensures.is_at_rest (settings_from Dce cfg) w.far dce
    ∙ ap (λ b. b && is_at_rest w.far) (sym c.if-status.true ∙ c.status.ensures.is_at_rest (settings_from Dte cfg) w.near dte)

pub returns-else-status : goal.returns-else-status
returns-else-status c = λ cfg w fits.
    let dte = subst (λ s. FitsStation (settings_from Dte cfg) s w.near) (sym c.station.ensures) fits.dte in
    c.if-status.false ∙ ap (λ b. b && is_at_rest w.far) (sym c.if-status.false ∙ c.status.ensures.is_at_rest (settings_from Dte cfg) w.near dte)
