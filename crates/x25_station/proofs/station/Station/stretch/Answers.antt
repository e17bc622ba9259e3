use Rattle.x25_station.proofs.{Names.{sym, ◌∙◌, name_of, layer_settings}, ToldLemmas.{open_named, closed_none}}
use Rattle.x25_station.proofs.station.Station.stretch.Goals as goal

pub returns-then-not-is_open : goal.returns-then-not-is_open
returns-then-not-is_open c = λ c' s fits. closed_none _ (name_of s.layer c.args.channel)
    (sym (c.is_open.ensures (layer_settings c') s.layer fits.layer) ∙ c.if-not-is_open.true)

pub returns : goal.returns
returns c = λ c' s fits.
    open_named _ _ (name_of s.layer c.args.channel) _ (sym (c.is_open.ensures (layer_settings c') s.layer fits.layer) ∙ c.if-not-is_open.false)
    (c.name.ensures (layer_settings c') s.layer fits.layer)
