-- What the user asks, as a value alone, and what the circuit answers.
use Rattle.std.specs.Prelude.{◌≡◌, Bool, true, false, not, Option, Some, None, Result, Ok, Err, MatchResult}
use denote.Ref.{Bor}
use Rattle.x25_circuit.specs.declared.requested.Requested.{Requested}
use Rattle.x25_circuit.specs.declared.circuit.Circuit as circuit_code
use Rattle.x25_circuit.specs.declared.error.CircuitError.{CircuitError}
use Rattle.x25_circuit.specs.declared.error.CircuitError.TheVariants as error
use Rattle.x25_circuit.specs.declared.params.Params.{Params}
use Rattle.x25_circuit.specs.Params.{Proposal}
use Rattle.x25_circuit.specs.declared.request.Request as declared
use Rattle.x25_circuit.specs.declared.request.Request.TheVariants as code
use Rattle.x25_circuit.specs.Circuit.{CircuitSettings, Circuit}
use Rattle.x25_circuit.specs.Calling.{Outcome, Done, Refused, Request, Calls, Accepts, Clears, Sends, Interrupts}
use Rattle.x25_circuit.specs.Calling.{Resets, SaysReady, SaysNotReady, outcome}
use Rattle.x25_circuit.specs.code.FitsCircuit.{FitsCircuit, made_of}
use Rattle.x25_circuit.specs.code.Replies.{plain_sent}

-- where there is one
abbrev pub plain_answer : Option (Bor Proposal) → Option Proposal
plain_answer None = None
plain_answer (Some answer) = Some answer.now

-- those that are in force behind an answer to these
abbrev pub params_answered : Option Proposal → Params → Params
params_answered None proposed = proposed
params_answered (Some answer) proposed = answer.params

abbrev pub plain_request : declared.Request → Request
plain_request (code.Call called calling user proposal) = Calls called.now calling.now user.now proposal.now
plain_request (code.Accept answer) = Accepts (plain_answer answer)
plain_request (code.Clear cause diagnostic) = Clears cause diagnostic
plain_request (code.Send marks user) = Sends marks user.now
plain_request (code.Interrupt user) = Interrupts user.now
plain_request (code.Reset cause diagnostic) = Resets cause diagnostic
plain_request code.Ready = SaysReady
plain_request code.NotReady = SaysNotReady

-- why it is refused, if it is
abbrev pub refusal_of : Outcome → Option CircuitError
refusal_of (Done next packet) = None
refusal_of (Refused e) = Some e

-- a packet that is sent is one that there may be
abbrev pub with_packet : Result Requested CircuitError → Result (Option Requested) CircuitError
with_packet (Ok packet) = Ok (Some packet)
with_packet (Err e) = Err e

-- a call that may have a packet to send, or for which memory is missing
abbrev pub AnswersRequest : CircuitSettings → circuit_code.Circuit → Result (Option Requested) CircuitError → Outcome
    → Type 0
AnswersRequest c v result (Done next packet) =
    MatchResult result (λ p. FitsCircuit c v next × (plain_sent p ≡ packet)) (λ e. e ≡ error.NoMemory)
AnswersRequest c v result (Refused e) = result ≡ Err e

-- a message waits, and there is no packet at once
abbrev pub MayPut : Request → Option Requested → Type 0
MayPut (Sends marks user) packet = packet ≡ None
MayPut request packet = Unit {0}

-- whether a circuit asks for memory for it: a message is copied, and a call and an acceptance make the memory of
-- messages that come, where that isn't made yet
abbrev pub asks_memory : circuit_code.Circuit → Request → Bool
asks_memory v (Sends marks user) = true
asks_memory v (Calls called calling user proposal) = not (made_of v)
asks_memory v (Accepts answer) = not (made_of v)
asks_memory v request = false

-- whether any circuit does
abbrev pub may_ask_memory : Request → Bool
may_ask_memory (Sends marks user) = true
may_ask_memory (Calls called calling user proposal) = true
may_ask_memory (Accepts answer) = true
may_ask_memory request = false

-- where 70 may be answered: where memory is asked for, in place of acceptance
pub record MayLack (v : circuit_code.Circuit) (request : Request) : Type 0 where
  pub asks : asks_memory v request ≡ true
  pub accepted : (c : CircuitSettings) (x : Circuit) → FitsCircuit c v x → refusal_of (outcome c x request) ≡ None
