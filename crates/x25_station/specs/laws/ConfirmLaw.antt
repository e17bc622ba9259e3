-- What a packet confirms is what its P(R) acknowledges. ITU-T X.25 (10/96), sections 4.3.3 and 4.4.1.4.
use Rattle.std.specs.Prelude.{◌≡◌, ℕ, ◌<◌, ◌≤◌, List, [], ◌∷◌, take, drop, Bool, true}
use Rattle.x25_circuit.specs.Circuit.{Talk}
use Rattle.x25_circuit.specs.Message.{asked_in}
use Rattle.x25_handshakes.specs.laws.Names.{Name}
use Rattle.x25_layer.specs.Layer.{LayerSettings, Layer}
use Rattle.x25_layer.specs.laws.Transcript.{name_of}
use Rattle.x25_station.specs.Confirming.{confirmed, goes_on}
use Rattle.x25_station.specs.Entry.{StationEntry, was_confirmed}
use Rattle.x25_station.specs.Step.{layer_answer, entries_of_packet}

-- The packets sent are the same, and fewer of them are not acknowledged, or as many. In those that were acknowledged so
-- many messages end of which confirmation was asked.
pub record Passes (before behind : Talk) (count : ℕ) : Type 0 where
  pub sent : behind.sent ≡ before.sent
  pub further : before.acked ≤ behind.acked
  pub asked : count ≡ asked_in (drop before.acked (take behind.acked before.sent))

-- on each channel whose stretch goes on, whatever comes; on any other nothing is confirmed
abbrev pub ConfirmedIsAcknowledged : Type 0
ConfirmedIsAcknowledged = (c : LayerSettings) (wide : Bool) (l : Layer) (octets : List ℕ) (h : ℕ) →
    let next : Layer = (layer_answer c wide l octets).next in
    goes_on c l next h ≡ true → Passes (l.circuits h).talk (next.circuits h).talk (confirmed c l next h)

-- An entry names the stretch that is open before the packet and behind it, and so many are confirmed there, one at
-- least.
pub record IsConfirmed (c : LayerSettings) (l next : Layer) (h : ℕ) (name : Name) (count : ℕ) : Type 0 where
  pub goes : goes_on c l next h ≡ true
  pub under : name ≡ name_of next h
  pub as_many : count ≡ confirmed c l next h
  pub some : 0 < count

abbrev pub IsTrueOf : LayerSettings → Layer → Layer → StationEntry → Type 0
IsTrueOf c l next (was_confirmed h name count) = IsConfirmed c l next h name count
IsTrueOf c l next entry = Unit {0}

abbrev pub AreTrueOf : LayerSettings → Layer → Layer → List StationEntry → Type 0
AreTrueOf c l next [] = Unit {0}
AreTrueOf c l next (entry ∷ entries) = IsTrueOf c l next entry × AreTrueOf c l next entries

abbrev pub ToldIsConfirmed : Type 0
ToldIsConfirmed = (c : LayerSettings) (wide : Bool) (l : Layer) (octets : List ℕ)
    → AreTrueOf c l (layer_answer c wide l octets).next (entries_of_packet c wide l octets)
