use Rattle.x25_station.proofs.{Names.{ℕ, ◌==◌, ap, ◌∙◌, layer_settings}, RoomLemmas.{room_is_what_is_taken}}
use Rattle.x25_station.proofs.station.Station.channel.Goals as goal

pub returns-clause-awaits : goal.returns-clause-awaits
returns-clause-awaits c = λ d s fits. c.awaits.ensures (layer_settings d) s.layer fits.layer

pub returns-clause-room : goal.returns-clause-room
returns-clause-room c = c.room.ensures.value

pub returns-clause-takes : goal.returns-clause-takes
returns-clause-takes c = λ d s marks user fits may short.
    ap (λ (n : ℕ). n == 0) (c.room.ensures.value d s fits) ∙ room_is_what_is_taken d s c.args.number marks user may short

pub returns-clause-few : goal.returns-clause-few
returns-clause-few c = c.room.ensures.few

pub returns-clause-unconfirmed : goal.returns-clause-unconfirmed
returns-clause-unconfirmed c = λ d s fits. c.unconfirmed.ensures (layer_settings d) s.layer fits.layer

pub returns-clause-unacknowledged : goal.returns-clause-unacknowledged
returns-clause-unacknowledged c = λ d s fits. c.unacknowledged.ensures (layer_settings d) s.layer fits.layer

pub returns-clause-stretch : goal.returns-clause-stretch
returns-clause-stretch c = c.stretch.ensures
