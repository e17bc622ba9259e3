-- What the circuit of a channel answers to the user of its layer.
use Rattle.std.specs.Prelude.{◌≡◌, ℕ, Option, Some, None, Result, Err, MatchResult}
use Rattle.x25_circuit.specs.declared.requested.Requested.{Requested}
use Rattle.x25_circuit.specs.Circuit.{Circuit}
use Rattle.x25_circuit.specs.Calling.{Outcome, Done, Refused}
use Rattle.x25_circuit.specs.code.Replies.{plain_sent}
use Rattle.x25_layer.specs.declared.error.LayerError.{LayerError}
use Rattle.x25_layer.specs.declared.error.LayerError.TheVariants as error
use Rattle.x25_layer.specs.declared.layer.Layer as code
use Rattle.x25_layer.specs.Layer.{LayerSettings, Layer, put_at}
use Rattle.x25_layer.specs.code.FitsLayer.{FitsLayer}

-- the layer with another circuit on one channel
abbrev pub with_circuit : Layer → ℕ → Circuit → Layer
with_circuit l h x = record { restarting = l.restarting; restarts = l.restarts; circuits = put_at l.circuits h x }

-- the circuit has done what was asked and answers this packet, or memory is missing; or it refused
abbrev pub AsksCircuit : LayerSettings → code.Layer → Result (Option Requested) LayerError → Layer → ℕ → Outcome
    → Type 0
AsksCircuit c v result l h (Done next packet) =
    MatchResult result (λ p. FitsLayer c v (with_circuit l h next) × (plain_sent p ≡ packet)) (λ e. e ≡ error.NoMemory)
AsksCircuit c v result l h (Refused e) = result ≡ Err (error.Circuit e)

-- why the circuit refuses it, if it does, as an error of the layer
abbrev pub refusal_on : Outcome → Option LayerError
refusal_on (Done next packet) = None
refusal_on (Refused e) = Some (error.Circuit e)
