-- What a station keeps of a channel while a packet is taken, and what it tells behind that.
use Rattle.std.specs.Prelude.{◌≡◌, ℕ, List, [], ◌∷◌, Option, Some, None, true}
use Rattle.x25_circuit.specs.Circuit.{unconfirmed}
use Rattle.x25_layer.specs.Layer.{LayerSettings, Layer}
use Rattle.x25_layer.specs.code.FitsLayer.{is_open_at}
use Rattle.x25_layer.specs.laws.Transcript.{name_of}
use Rattle.x25_station.specs.declared.confirming.Unconfirmed.{Unconfirmed}
use Rattle.x25_station.specs.declared.entry.Entry.{Entry}
use Rattle.x25_station.specs.declared.lent.Lent.{Lent}
use Rattle.x25_station.specs.Confirming.{confirmed}
use Rattle.x25_station.specs.Entry.{StationEntry, entries_behind}
use Rattle.x25_station.specs.code.PlainEntry.{plain_entry, plain_name}

-- it is that of this channel in this layer
pub record StandsFor (c : LayerSettings) (l : Layer) (h : ℕ) (before : Unconfirmed) : Type 0 where
  pub channel : before.channel ≡ h
  pub is_open : is_open_at c l h ≡ true
  pub name : plain_name before.name ≡ name_of l h
  pub count : before.count ≡ unconfirmed (l.circuits h)

-- or there is none, and whatever comes confirms nothing
abbrev pub Stands : LayerSettings → Layer → ℕ → Option Unconfirmed → Type 0
Stands c l h None = (next : Layer) → confirmed c l next h ≡ 0
Stands c l h (Some before) = StandsFor c l h before

-- the entry of so many confirmed messages, where there are some
abbrev pub Tells : Layer → ℕ → ℕ → Option Entry → Type 0
Tells next h count None = count ≡ 0
Tells next h count (Some entry) = (lent : Lent) (beside : List StationEntry)
    → entries_behind next h count beside ≡ plain_entry lent entry ∷ []
