-- Which states of the definition a layer stands for, and what it tells of them.
use Rattle.std.specs.Prelude.{◌≡◌, ◌≤◌, ℕ, zero, suc, ◌+◌, ◌^◌, ◌-◌, ◌==◌, ◌||◌, List, length, Option, Some, None, Bool}
use Rattle.std.specs.Prelude.{false, slice_get, if◌then◌else◌}
use Rattle.x25_circuit.specs.declared.awaits.Awaits.{Awaits}
use Rattle.x25_circuit.specs.declared.awaits.Awaits.TheVariants.{Nothing}
use Rattle.x25_circuit.specs.Awaits.{is_any}
use Rattle.x25_circuit.specs.declared.circuit.Circuit as circuit_code
use Rattle.x25_circuit.specs.declared.params.Params.{Params}
use Rattle.x25_circuit.specs.Circuit.{Circuit, awaited_by, is_open, unacknowledged, waits}
use Rattle.x25_circuit.specs.code.FitsCircuit.{FitsCircuit}
use Rattle.x25_handshakes.specs.laws.Names.{Name}
use Rattle.x25_layer.specs.declared.layer.Layer as code
use Rattle.x25_layer.specs.declared.stretch.Stretch.{Stretch}
use Rattle.x25_layer.specs.Layer.{LayerSettings, Layer, is_channel}
use Rattle.x25_layer.specs.laws.Transcript.{name_of}

-- each of these circuits fits the one of its channel; the first is on channel 1
abbrev pub FitsCircuits : LayerSettings → List circuit_code.Circuit → (ℕ → Circuit) → Type 0
FitsCircuits c circuits f = (k : ℕ) (v : circuit_code.Circuit) → slice_get circuits k ≡ Some v
    → FitsCircuit c.circuit v (f (suc k))

pub record FitsLayer (c : LayerSettings) (v : code.Layer) (l : Layer) : Type 0 where
  pub role : v.role ≡ c.circuit.role
  pub long_data : v.long_data ≡ c.circuit.long_data
  pub message : c.circuit.longest ≤ 65535
  pub ranges : v.ranges ≡ c.channels
  pub channels : length v.circuits.items ≡ c.channels.count
  pub restarting : v.restarting ≡ l.restarting
  pub restarts : v.restarts ≡ l.restarts
  pub circuits : FitsCircuits c v.circuits.items l.circuits

-- it fits what it fitted
abbrev pub FitsStill : code.Layer → code.Layer → Type 0
FitsStill old new = (c : LayerSettings) (l : Layer) → FitsLayer c old l → FitsLayer c new l

-- ---- what a layer tells

abbrev pub plain_stretch : Option Stretch → Option Name
plain_stretch None = None
plain_stretch (Some s) = Some (record { restarts = s.restarts; clears = s.clears; resets = s.resets })

-- the name of the stretch of a configured channel
abbrev pub name_at : LayerSettings → Layer → ℕ → Option Name
name_at c l h = if is_channel c.channels h then Some (name_of l h) else None

-- the packet sizes and windows of the call on a configured channel: those in force, or else those proposed
abbrev pub params_at : LayerSettings → Layer → ℕ → Option Params
params_at c l h = if is_channel c.channels h then Some (l.circuits h).params else None

-- a configured channel is in p4 with d1
abbrev pub is_open_at : LayerSettings → Layer → ℕ → Bool
is_open_at c l h = if is_channel c.channels h then is_open (l.circuits h) else false

-- the answer that this end awaits on a channel, none where it isn't configured
abbrev pub awaited_at : LayerSettings → Layer → ℕ → Awaits
awaited_at c l h = if is_channel c.channels h then awaited_by (l.circuits h) else Nothing

-- P(S) of the first data packet of a channel that isn't acknowledged, while the other end is ready to receive; none
-- while a restart is under way
abbrev pub unacknowledged_at : LayerSettings → Layer → ℕ → Option ℕ
unacknowledged_at c l h = if l.restarting then None
    else if is_channel c.channels h then unacknowledged (l.circuits h) else None

-- on how many of the channels up to a number an answer is awaited
abbrev pub awaited_up_to : (ℕ → Circuit) → ℕ → ℕ
awaited_up_to circuits zero = 0
awaited_up_to circuits (suc n) = awaited_up_to circuits n
    + (if is_any (awaited_by (circuits (suc n))) then 1 else 0)

-- how many messages wait in the circuits of the channels up to a number
abbrev pub waits_up_to : (ℕ → Circuit) → ℕ → ℕ
waits_up_to circuits zero = 0
waits_up_to circuits (suc n) = waits_up_to circuits n + waits (circuits (suc n))

-- a count is at its most (profile: 2^64 - 1)
abbrev pub is_most : ℕ → Bool
is_most count = count == 2 ^ 64 - 1

-- a count of one of the channels up to a number is at its most
abbrev pub full_up_to : (ℕ → Circuit) → ℕ → Bool
full_up_to circuits zero = false
full_up_to circuits (suc n) = full_up_to circuits n
    || (is_most (circuits (suc n)).clears || is_most (circuits (suc n)).resets)

abbrev pub is_full : LayerSettings → Layer → Bool
is_full c l = is_most l.restarts || full_up_to l.circuits c.channels.count
