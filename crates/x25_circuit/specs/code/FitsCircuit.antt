-- Which states of the definition a circuit stands for, and what its calls mean.
use Rattle.std.specs.Prelude.{◌≡◌, ◌≢◌, ℕ, List, [], length, Some, None, Result, Err, IsOkAnd, MatchResult}
use Rattle.std.specs.Prelude.{OnErr, IfOk, IfErr, IsErrOf, Bool, false}
use Rattle.x25_circuit.specs.declared.requested.Requested.{Requested}
use Rattle.x25_packet.specs.Packet.{PlainPacket, user_data}
use Rattle.x25_circuit.specs.code.Owed.{plain_requested}
use Rattle.x25_packet.specs.Spelling.{IsInRange}
use Rattle.x25_circuit.specs.declared.circuit.Circuit as code
use Rattle.x25_circuit.specs.declared.error.CircuitError.{CircuitError}
use Rattle.x25_circuit.specs.declared.error.CircuitError.TheVariants as error
use Rattle.x25_circuit.specs.Circuit.{CircuitSettings, Circuit, outgoing}
use Rattle.x25_circuit.specs.Queue.{waiting}
use Rattle.x25_circuit.specs.code.Fits.{FitsTalk}
use Rattle.x25_circuit.specs.Calling.{Outcome, Done, Refused}

pub record FitsCircuit (c : CircuitSettings) (v : code.Circuit) (x : Circuit) : Type 0 where
  pub role : v.role ≡ c.role
  pub long_data : v.long_data ≡ c.long_data
  pub longest : v.transfer.partial.longest ≡ c.longest
  pub state : v.state ≡ x.state
  pub clears : v.clears ≡ x.clears
  pub resets : v.resets ≡ x.resets
  pub params : v.flow.params ≡ x.params
  pub calls : v.calls ≡ x.calls
  pub talk : FitsTalk (outgoing x).size v.transfer x.talk

-- whether the memory of the message in part is made
abbrev pub made_of : code.Circuit → Bool
made_of v = v.transfer.partial.made

-- how many messages wait
abbrev pub waits_of : code.Circuit → ℕ
waits_of v = length (waiting v.transfer.queue)

-- the counts
abbrev pub clears_of : code.Circuit → ℕ
clears_of v = v.clears

abbrev pub resets_of : code.Circuit → ℕ
resets_of v = v.resets

-- a call with a packet to send
abbrev pub Sends : CircuitSettings → code.Circuit → Result Requested CircuitError → Outcome → Type 0
Sends c v result (Done next packet) = IsOkAnd result (λ p. FitsCircuit c v next × (packet ≡ Some (plain_requested p)))
Sends c v result (Refused e) = result ≡ Err e

-- a call with a packet to send, or for which memory is missing
abbrev pub SendsOrLacks : CircuitSettings → code.Circuit → Result Requested CircuitError → Outcome → Type 0
SendsOrLacks c v result (Done next packet) =
    MatchResult result (λ p. FitsCircuit c v next × (packet ≡ Some (plain_requested p))) (λ e. e ≡ error.NoMemory)
SendsOrLacks c v result (Refused e) = result ≡ Err e

-- a call with none, or for which memory is missing
abbrev pub Keeps : {T : Type 0} → CircuitSettings → code.Circuit → Result T CircuitError → Outcome → Type 0
Keeps c v result (Done next packet) =
    MatchResult result (λ _. FitsCircuit c v next × (packet ≡ None)) (λ e. e ≡ error.NoMemory)
Keeps c v result (Refused e) = result ≡ Err e

-- the counts are as before
pub record KeepsCounts (old new : code.Circuit) : Type 0 where
  pub clears : clears_of new ≡ clears_of old
  pub resets : resets_of new ≡ resets_of old

-- it is accepted
abbrev pub IsDone : Outcome → Type 0
IsDone (Done next packet) = Unit {0}
IsDone (Refused e) = ⊥

-- the user data that a packet brings for a message
abbrev pub user_octets : PlainPacket → List ℕ
user_octets (user_data channel marks m ps pr user) = user
user_octets other = []

-- What is asked is done so, by a packet that can be spelled and brings no user data for a message, or it is refused,
-- and then the circuit is as before. It takes no memory.
pub record SendsBy (old new : code.Circuit) (result : Result Requested CircuitError)
    (said : CircuitSettings → Circuit → Outcome) : Type 0 where
  pub outcome : (c : CircuitSettings) (x : Circuit) → FitsCircuit c old x → Sends c new result (said c x)
  pub range : IfOk result (λ packet. IsInRange 128 (plain_requested packet))
  pub control : IfOk result (λ packet. user_octets (plain_requested packet) ≡ [])
  pub keeps : KeepsCounts old new
  pub unchanged : OnErr result (new ≡ old)
  pub kinds : IfErr result (λ e. e ≢ error.NoMemory)

-- The same of what begins a call, for which the memory of the message in part is made, where there is none yet.
pub record BeginsBy (old new : code.Circuit) (result : Result Requested CircuitError)
    (said : CircuitSettings → Circuit → Outcome) : Type 0 where
  pub outcome : (c : CircuitSettings) (x : Circuit) → FitsCircuit c old x → SendsOrLacks c new result (said c x)
  pub range : IfOk result (λ packet. IsInRange 128 (plain_requested packet))
  pub control : IfOk result (λ packet. user_octets (plain_requested packet) ≡ [])
  pub keeps : KeepsCounts old new
  pub unchanged : OnErr result (new ≡ old)
  pub lacks : IsErrOf result error.NoMemory → made_of old ≡ false
  pub accepted : IsErrOf result error.NoMemory → (c : CircuitSettings) (x : Circuit) → FitsCircuit c old x
      → IsDone (said c x)
