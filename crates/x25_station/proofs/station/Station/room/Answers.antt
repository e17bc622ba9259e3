use Rattle.x25_station.proofs.Names.{Bool, if◌then◌else◌, ap, sym, ◌∙◌, link_settings, layer_settings}
use Rattle.x25_layer.specs.Layer.MessageRoom.{room_at}
use Rattle.x25_station.proofs.station.Station.room.Goals as goal

pub returns-clause-value : goal.returns-clause-value
returns-clause-value c = λ d s fits.
    let up = sym (c.is_up.ensures.state (link_settings d) s.link fits.link) ∙ c.if-not-is_up.false in
    c.room.ensures.value (layer_settings d) s.layer fits.layer ∙ sym (ap (λ (b : Bool). if b then room_at (layer_settings d) s.layer c.args.channel else 0) up)
