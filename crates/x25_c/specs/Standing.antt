-- How many calls there are (profile).
use Rattle.std.specs.Prelude.{ℕ, zero, suc, ◌+◌, Bool, ◌||◌, if◌then◌else◌, is_some}
use Rattle.x25_circuit.specs.Awaits.{is_any}
use Rattle.x25_layer.specs.code.FitsLayer.{awaited_at}
use Rattle.x25_station.specs.Config.{Settings, layer_settings}
use Rattle.x25_station.specs.Station.{Station}
use Rattle.x25_station.specs.Station.Told.{stretch}

-- a stretch is open on a channel, or an answer is awaited there
abbrev pub has_call : Settings → Station → ℕ → Bool
has_call c s h = is_some (stretch c s h) || is_any (awaited_at (layer_settings c) s.layer h)

-- on how many channels up to a number this is so
abbrev pub count_up_to : (ℕ → Bool) → ℕ → ℕ
count_up_to has zero = 0
count_up_to has (suc n) = count_up_to has n + (if has (suc n) then 1 else 0)

abbrev pub open_calls : Settings → Station → ℕ
open_calls c s = count_up_to (has_call c s) c.channels.count
