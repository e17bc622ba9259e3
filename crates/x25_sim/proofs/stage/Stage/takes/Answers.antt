use Rattle.std.proofs.Common.{◌∙◌, ap, subst, sym}
use Rattle.std.specs.Prelude.{not, ◌||◌}
use Rattle.x25_bits.specs.declared.role.Role.TheVariants.{Dte}
use Rattle.x25_station.specs.Config.{settings_from}
use Rattle.x25_station.specs.code.FitsStation.{FitsStation}
use Rattle.x25_sim.proofs.stage.Stage.takes.Goals as goal

pub returns-else-not-is_wide : goal.returns-else-not-is_wide
returns-else-not-is_wide c = λ cfg w h.
    c.is_wide-else-not-is_wide.ensures (settings_from Dte cfg) w.near (subst (λ s. FitsStation (settings_from Dte cfg) s w.near) (sym c.station.ensures) h.dte)
    ∙ ap (λ b. not b || cfg.wide) (sym c.if-not-is_wide.false) ∙ ap (λ b. not b || cfg.wide) c.is_wide.ensures
