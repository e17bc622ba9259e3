use Rattle.x25_station.proofs.Names.{ℕ, Bool, sym, ap, ◌∙◌, ◌&&◌, ◌==◌, link_settings, layer_settings}
use Rattle.x25_layer.specs.code.FitsLayer.{waits_up_to}
use Rattle.x25_station.proofs.station.Station.idle.Goals as goal

pub returns-then-idle : goal.returns-then-idle
returns-then-idle c = λ c' s fits.
    ap (λ (n : ℕ). n == 0) (c.waits.ensures (layer_settings c') s.layer fits.layer)
    ∙ ap (λ (b : Bool). b && waits_up_to s.layer.circuits c'.channels.count == 0) (sym c.if-idle.true ∙ c.idle.ensures (link_settings c') s.link fits.link)

pub returns-else-idle : goal.returns-else-idle
returns-else-idle c = λ c' s fits.
    c.if-idle.false ∙ ap (λ (b : Bool). b && waits_up_to s.layer.circuits c'.channels.count == 0)
    (sym c.if-idle.false ∙ c.idle.ensures (link_settings c') s.link fits.link)
