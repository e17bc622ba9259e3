use Rattle.x25_station.proofs.Names.{ℕ, Bool, ◌||◌, nat_lt, ap, sym, ◌∙◌, layer_settings}
use Rattle.x25_layer.specs.code.FitsLayer.{awaited_up_to}
use Rattle.x25_station.proofs.station.Station.awaits_answers.Goals as goal

pub returns-then-is_restarting : goal.returns-then-is_restarting
returns-then-is_restarting c = λ c' s fits.
    let is = sym (c.is_restarting.ensures (layer_settings c') s.layer fits.layer) ∙ c.if-is_restarting.true in
    c.if-is_restarting.true ∙ sym (ap (λ (b : Bool). b || nat_lt 0 (awaited_up_to s.layer.circuits c'.channels.count)) is)

pub returns-else-is_restarting : goal.returns-else-is_restarting
returns-else-is_restarting c = λ c' s fits.
    let is = sym (c.is_restarting.ensures (layer_settings c') s.layer fits.layer) ∙ c.if-is_restarting.false in
    ap (λ (n : ℕ). nat_lt 0 n) (c.awaited.ensures (layer_settings c') s.layer fits.layer)
    ∙ sym (ap (λ (b : Bool). b || nat_lt 0 (awaited_up_to s.layer.circuits c'.channels.count)) is)
