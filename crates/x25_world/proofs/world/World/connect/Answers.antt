use Rattle.x25_world.proofs.Names.{None, Result, Ok, Err, OnOk, sym, subst, refl, Dte, settings_from, new_station, connects_asked, Cfg, after, start, connected}
use Rattle.x25_world.proofs.{Names.{of_station, ShownWorld, FitsWorld, WorldError}, WorldLemmas.{dte_fits, station_keeps_far, only_memory}}
use Rattle.x25_world.proofs.world.World.connect.Goals as goal

-- the entry of the command stands in the transcript alone
untold : (cfg : Cfg) (v : ShownWorld) (r : Result (Unit {0}) WorldError) → (let asked = connects_asked (settings_from Dte cfg) new_station in
    OnOk r (FitsWorld cfg v (after start (of_station (settings_from Dte cfg) start asked)))) → OnOk r (FitsWorld cfg v (connected cfg))
untold cfg v (Ok done) fits = record { dte = fits.dte; dce = fits.dce; to_dce = fits.to_dce; to_dte = fits.to_dte }
untold cfg v (Err e) fits = tt

pub returns-clause-fits : goal.returns-clause-fits
returns-clause-fits c = λ cfg fits.
    let inside = subst (λ v. FitsWorld cfg v start) (sym c.self.view_is) fits in
    let h = c.command.ensures.acted cfg start (record { near = inside.dte; out = inside.to_dce; back = inside.to_dte }) in
    let asked = connects_asked (settings_from Dte cfg) new_station in
    let far = station_keeps_far (settings_from Dte cfg) start asked in
    untold cfg _ c.command.result
    (dte_fits cfg _ _ _ _ start (of_station (settings_from Dte cfg) start asked) c.command.result far inside.dce h.happened)

pub returns-clause-refused : goal.returns-clause-refused
returns-clause-refused c = λ cfg fits.
    let inside = subst (λ v. FitsWorld cfg v start) (sym c.self.view_is) fits in
    let h = c.command.ensures.acted cfg start (record { near = inside.dte; out = inside.to_dce; back = inside.to_dte }) in
    only_memory None c.command.result refl h.refused
