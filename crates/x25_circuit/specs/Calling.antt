-- The calls of the user of a circuit, and which data packet may be sent. ITU-T X.25 (10/96), sections 4.1, 4.3 and 4.4.
-- The refusals and the bounds on what waits are of the profile.
use Rattle.std.specs.Prelude.{ℕ, ◌+◌, ◌%◌, List, [], ◌∷◌, ◌++◌, length, Option, Some, None, Bool, true, false, nat_lt}
use Rattle.std.specs.Prelude.{nat_le, ◌&&◌, if◌then◌else◌}
use Rattle.std.specs.List.{list_all}
use Rattle.x25_packet.specs.declared.marks.Marks.{Marks}
use Rattle.x25_packet.specs.Digits.{digits_of_text, is_figure}
use Rattle.x25_packet.specs.Packet.{PlainPacket, call, accept, clear, user_data, interrupt, reset}
use Rattle.x25_packet.specs.Spelling.{longest_user}
use Rattle.x25_circuit.specs.declared.error.CircuitError.{CircuitError}
use Rattle.x25_circuit.specs.declared.error.CircuitError.TheVariants.{WrongState, Full, TooLong, InterruptOutstanding}
use Rattle.x25_circuit.specs.declared.error.CircuitError.TheVariants.{BadParameter}
use Rattle.x25_circuit.specs.declared.state.State.{State}
use Rattle.x25_circuit.specs.declared.state.State.TheVariants.{Free, Calling, Arriving, Open, Resetting, Clearing}
use Rattle.x25_circuit.specs.declared.params.Params.{Params}
use Rattle.x25_circuit.specs.Params.{Proposal, default_params, may_propose, may_answer, field_for}
use Rattle.x25_circuit.specs.Message.{Piece, More, Last, cut}
use Rattle.x25_circuit.specs.Circuit.{CircuitSettings, Talk, Circuit, entered, talking, outgoing, waits}
use Rattle.x25_circuit.specs.Notice.{CallRequest}
use Rattle.x25_circuit.specs.Hearing.{status}
use Rattle.x25_circuit.specs.Cause.{may_clear_for, may_reset_for}

-- the circuit after the call, and the packet to send, where there is one; or why it is refused
pub data Outcome : Type 0 where
  Done : (next : Circuit) → (packet : Option PlainPacket) → Outcome
  Refused : (error : CircuitError) → Outcome

-- The addresses of a call are texts; an acceptance without packet sizes and windows accepts those that are proposed; a
-- clear and a reset have a cause and a diagnostic.
pub data Request : Type 0 where
  Calls : (called : List ℕ) → (calling : List ℕ) → (user : List ℕ) → (proposal : Proposal) → Request
  Accepts : (answer : Option Proposal) → Request
  Clears : (cause : ℕ) → (diagnostic : ℕ) → Request
  Sends : (marks : Marks) → (user : List ℕ) → Request
  Interrupts : (user : List ℕ) → Request
  Resets : (cause : ℕ) → (diagnostic : ℕ) → Request
  SaysReady : Request
  SaysNotReady : Request

-- to another state, in which nothing is kept
abbrev pub does : Circuit → State → Params → Bool → PlainPacket → Outcome
does x state params calls packet = Done (entered x state params calls) (Some packet)

-- the state is as it was
abbrev pub keeps_on : Circuit → Talk → Option PlainPacket → Outcome
keeps_on x talk packet = Done (talking x talk) packet

-- ---- setting up and clearing

-- a text of 0 to 15 figures
abbrev pub is_address_text : List ℕ → Bool
is_address_text text = nat_le (length text) 15 && list_all is_figure text

-- the digits of the texts, the user data, and what is proposed
abbrev pub request_of : List ℕ → List ℕ → List ℕ → Params → CallRequest
request_of called calling user params = record {
  called = digits_of_text called;
  calling = digits_of_text calling;
  user = user;
  params = params;
}

-- the other end takes the defaults where nothing is said
abbrev pub call_sent : List ℕ → List ℕ → List ℕ → Proposal → PlainPacket
call_sent called calling user proposal =
    call 1 (digits_of_text called) (digits_of_text calling) (field_for default_params proposal) user

-- both addresses are texts of digits, there is no more user data than a CALL has, and what is proposed is in range
abbrev pub may_call : Bool → List ℕ → List ℕ → List ℕ → Params → Bool
may_call long_data called calling user params =
    is_address_text called && (is_address_text calling
    && (nat_le (length user) (longest_user long_data) && may_propose params))

abbrev pub call_in : CircuitSettings → Circuit → State → List ℕ → List ℕ → List ℕ → Proposal → Outcome
call_in c x Free called calling user proposal =
    if may_call c.long_data called calling user proposal.params
    then does x Calling proposal.params true (call_sent called calling user proposal) else Refused BadParameter
call_in c x state called calling user proposal = Refused WrongState

-- the other end takes what it proposed where nothing is said
abbrev pub accept_with : Circuit → Option Proposal → Outcome
accept_with x None = does x Open x.params false (accept 1 [])
accept_with x (Some answer) = if may_answer x.params answer.params
    then does x Open answer.params false (accept 1 (field_for x.params answer)) else Refused BadParameter

abbrev pub accept_in : Circuit → State → Option Proposal → Outcome
accept_in x Arriving answer = accept_with x answer
accept_in x state answer = Refused WrongState

abbrev pub clear_with : CircuitSettings → Circuit → ℕ → ℕ → Outcome
clear_with c x cause diagnostic = if may_clear_for c.role cause
    then does x Clearing default_params false (clear 1 cause diagnostic) else Refused BadParameter

abbrev pub clear_in : CircuitSettings → Circuit → State → ℕ → ℕ → Outcome
clear_in c x Free cause diagnostic = Refused WrongState
clear_in c x Clearing cause diagnostic = Refused WrongState
clear_in c x state cause diagnostic = clear_with c x cause diagnostic

-- ---- in p4 with d1

-- a message that isn't too long waits behind at most seven others
abbrev pub send_open : CircuitSettings → Circuit → Talk → Marks → List ℕ → Outcome
send_open c x t marks user =
    if nat_le (length user) c.longest
    then (if nat_lt (waits x) 8
    then keeps_on x (record {
      sent = t.sent;
      taken = t.taken;
      acked = t.acked;
      rest = t.rest
          ++ cut (outgoing x).size marks user;
      int_out = t.int_out;
      peer_ready = t.peer_ready;
      own_ready = t.own_ready;
    }) None
    else Refused Full)
    else Refused TooLong

-- 1 to 32 octets, one interrupt at a time (section 4.3.7)
abbrev pub interrupt_open : Circuit → Talk → List ℕ → Outcome
interrupt_open x t user =
    if nat_le 1 (length user) && nat_le (length user) 32
    then (if t.int_out
    then Refused InterruptOutstanding
    else keeps_on x (record {
      sent = t.sent;
      taken = t.taken;
      acked = t.acked;
      rest = t.rest;
      int_out = true;
      peer_ready = t.peer_ready;
      own_ready = t.own_ready;
    }) (Some (interrupt 1 user)))
    else Refused BadParameter

-- RR or RNR goes, also where this end was so before (section 4.4.1.5)
abbrev pub ready_open : Circuit → Talk → Bool → Outcome
ready_open x t is_ready =
    keeps_on x (record {
      sent = t.sent;
      taken = t.taken;
      acked = t.acked;
      rest = t.rest;
      int_out = t.int_out;
      peer_ready = t.peer_ready;
      own_ready = is_ready;
    })
    (Some (status is_ready (length t.taken)))

abbrev pub send_in : CircuitSettings → Circuit → State → Marks → List ℕ → Outcome
send_in c x Open marks user = send_open c x x.talk marks user
send_in c x state marks user = Refused WrongState

abbrev pub interrupt_in : Circuit → State → List ℕ → Outcome
interrupt_in x Open user = interrupt_open x x.talk user
interrupt_in x state user = Refused WrongState

-- section 4.4.3.1
abbrev pub reset_in : CircuitSettings → Circuit → State → ℕ → ℕ → Outcome
reset_in c x Open cause diagnostic = if may_reset_for c.role cause
    then does x Resetting x.params x.calls (reset 1 cause diagnostic) else Refused BadParameter
reset_in c x state cause diagnostic = Refused WrongState

abbrev pub ready_in : Circuit → State → Bool → Outcome
ready_in x Open is_ready = ready_open x x.talk is_ready
ready_in x state is_ready = Refused WrongState

-- ---- the calls

abbrev pub outcome : CircuitSettings → Circuit → Request → Outcome
outcome c x (Calls called calling user proposal) = call_in c x x.state called calling user proposal
outcome c x (Accepts answer) = accept_in x x.state answer
outcome c x (Clears cause diagnostic) = clear_in c x x.state cause diagnostic
outcome c x (Sends marks user) = send_in c x x.state marks user
outcome c x (Interrupts user) = interrupt_in x x.state user
outcome c x (Resets cause diagnostic) = reset_in c x x.state cause diagnostic
outcome c x SaysReady = ready_in x x.state true
outcome c x SaysNotReady = ready_in x x.state false

-- ---- the next data packet

pub record Pulled : Type 0 where
  pub next : Circuit
  pub packet : Option PlainPacket

abbrev pub pulls_nothing : Circuit → Pulled
pulls_nothing x = record { next = x; packet = None }

abbrev pub data_packet : ℕ → ℕ → Piece → PlainPacket
data_packet ps pr (More marks user) = user_data 1 marks true ps pr user
data_packet ps pr (Last marks user) = user_data 1 marks false ps pr user

-- It is sent where the other end is ready and fewer than the window are unacknowledged (section 4.4.1.2), with P(S) and
-- P(R).
abbrev pub pull_open : CircuitSettings → Circuit → Talk → List Piece → Pulled
pull_open c x t [] = pulls_nothing x
pull_open c x t (piece ∷ rest) =
    if t.peer_ready && nat_lt (length t.sent) (t.acked + (outgoing x).window)
    then record {
      next = talking x (record {
        sent = t.sent
            ++ piece ∷ [];
        taken = t.taken;
        acked = t.acked;
        rest = rest;
        int_out = t.int_out;
        peer_ready = t.peer_ready;
        own_ready = t.own_ready;
      });
      packet = Some (data_packet (length t.sent % 8) (length t.taken % 8) piece);
    }
    else pulls_nothing x

abbrev pub pull_in : CircuitSettings → Circuit → State → Pulled
pull_in c x Open = pull_open c x x.talk x.talk.rest
pull_in c x state = pulls_nothing x

abbrev pub pulled : CircuitSettings → Circuit → Pulled
pulled c x = pull_in c x x.state
