-- What a circuit does with a packet: the table, a function for each packet, by cases on the state. Packets of a circuit
-- name channel 1, and the channel of those taken isn't looked at.
-- ITU-T X.25 (10/96), sections 4.1, 4.3 and 4.4, and Annex C, tables C-3 and C-4. All diagnostics, and which error
-- leads to which procedure, are of the profile.
use Rattle.std.specs.Prelude.{ℕ, suc, ◌+◌, ◌%◌, List, [], ◌∷◌, ◌++◌, length, Option, Some, None, Bool, true, false}
use Rattle.std.specs.Prelude.{nat_le, ◌==◌, if◌then◌else◌, Result, Ok, Err}
use Rattle.x25_bits.specs.declared.role.Role.{Role}
use Rattle.x25_bits.specs.declared.role.Role.TheVariants.{Dte, Dce}
use Rattle.x25_packet.specs.declared.error.PacketError.{PacketError}
use Rattle.x25_packet.specs.declared.error.PacketError.TheVariants.{BadFacility, BadParameter}
use Rattle.x25_packet.specs.Error.{diagnostic_of}
use Rattle.x25_packet.specs.Packet.{PlainPacket, call, accept, clear, clear_conf, user_data, rr, rnr, interrupt}
use Rattle.x25_packet.specs.Packet.{interrupt_conf, reset, reset_conf, restart, restart_conf}
use Rattle.x25_window.specs.code.Modulo.{resolved}
use Rattle.x25_circuit.specs.declared.state.State.{State}
use Rattle.x25_circuit.specs.declared.state.State.TheVariants.{Free, Calling, Arriving, Collision, Open, Resetting}
use Rattle.x25_circuit.specs.declared.state.State.TheVariants.{Clearing}
use Rattle.x25_circuit.specs.declared.params.Params.{Params}
use Rattle.x25_circuit.specs.Params.{default_params, may_answer, said_in}
use Rattle.x25_circuit.specs.Message.{Piece, piece_of, no_part, joining, completed, piece_ground}
use Rattle.x25_circuit.specs.Circuit.{CircuitSettings, Talk, silent, Circuit, entered, talking, incoming as terms_in}
use Rattle.x25_circuit.specs.Notice.{CallRequest, PlainNotice, incoming, connected, collided, cleared, clear_done}
use Rattle.x25_circuit.specs.Notice.{was_reset, reset_done, interrupted, interrupt_done, fault, deliveries}

-- what a packet does: the circuit after it, the packet owed, and what the user is told
pub record Answer : Type 0 where
  pub next : Circuit
  pub owed : Option PlainPacket
  pub notices : List PlainNotice

-- ---- ways to answer

-- to another state, in which nothing is kept
abbrev pub goes : Circuit → State → Params → Bool → Option PlainPacket → List PlainNotice → Answer
goes x state params calls owed notices = record { next = entered x state params calls; owed = owed; notices = notices }

-- the packet is dropped
abbrev pub ignores : Circuit → Answer
ignores x = record { next = x; owed = None; notices = [] }

-- to p1, by a clear that is counted
abbrev pub clears_to : Circuit → Option PlainPacket → List PlainNotice → Answer
clears_to x owed notices = record {
  next = record {
    state = Free;
    clears = suc x.clears;
    resets = 0;
    params = default_params;
    calls = false;
    talk = silent;
  };
  owed = owed;
  notices = notices;
}

-- to d1, by a reset that is counted; packet sizes and windows stay
abbrev pub resets_to : Circuit → Option PlainPacket → List PlainNotice → Answer
resets_to x owed notices = record {
  next = record {
    state = Open;
    clears = x.clears;
    resets = suc x.resets;
    params = x.params;
    calls = x.calls;
    talk = silent;
  };
  owed = owed;
  notices = notices;
}

-- the state is as it was
abbrev pub talks : Circuit → Talk → Option PlainPacket → List PlainNotice → Answer
talks x talk owed notices = record { next = talking x talk; owed = owed; notices = notices }

-- ---- errors of procedure

-- a DTE sends 128 (0x80) in place of each cause of a DCE (profile)
abbrev pub cause_at : Role → ℕ → ℕ
cause_at Dte cause = 128
cause_at Dce cause = cause

-- the call is cleared
abbrev pub clears_for : CircuitSettings → Circuit → ℕ → ℕ → Answer
clears_for c x cause diagnostic = goes x Clearing default_params false
    (Some (clear 1 (cause_at c.role cause) diagnostic)) (fault diagnostic ∷ [])

-- the call is reset: cause 5, local procedure error
abbrev pub resets_for : CircuitSettings → Circuit → ℕ → Answer
resets_for c x diagnostic = goes x Resetting x.params x.calls (Some (reset 1 (cause_at c.role 5) diagnostic))
    (fault diagnostic ∷ [])

abbrev pub by_role : Role → ℕ → ℕ → ℕ
by_role Dte dte dce = dte
by_role Dce dte dce = dce

-- packet type invalid for p1 to p5
abbrev pub diagnostic_in : Role → State → ℕ
diagnostic_in role Free = 20
diagnostic_in role Calling = by_role role 21 22
diagnostic_in role Arriving = by_role role 22 21
diagnostic_in role Collision = 24
diagnostic_in role Open = 23
diagnostic_in role Resetting = 23
diagnostic_in role Clearing = 0

-- a packet that the state doesn't allow: cause 19 (0x13), local procedure error
abbrev pub unexpected : CircuitSettings → Circuit → State → Answer
unexpected c x state = clears_for c x 19 (diagnostic_in c.role state)

-- ---- setting up and clearing

-- CALL against a call of this end: the DTE waits for the DCE's answer, and the DCE gives its own call up, with what
-- that proposed (section 4.1.6)
abbrev pub collides : Role → Circuit → CallRequest → Answer
collides Dte x request = goes x Collision x.params true None []
collides Dce x request = goes x Arriving request.params false None (collided ∷ incoming request ∷ [])

-- CALL (sections 4.1.2 and 4.1.3)
abbrev pub row_call : CircuitSettings → Circuit → State → CallRequest → Answer
row_call c x Free request = goes x Arriving request.params false None (incoming request ∷ [])
row_call c x Calling request = collides c.role x request
row_call c x Clearing request = ignores x
row_call c x state request = unexpected c x state

-- what is answered is in force, where it may be answered (section 6.12): cause 3, invalid facility request, and
-- diagnostic 66
abbrev pub connects : CircuitSettings → Circuit → Params → Answer
connects c x answered = if may_answer x.params answered then goes x Open answered true None (connected answered ∷ [])
    else clears_for c x 3 66

-- CALL ACCEPTED (sections 4.1.4 and 4.1.5). What it doesn't say is answered as it was proposed.
abbrev pub row_accept : CircuitSettings → Circuit → State → List ℕ → Answer
row_accept c x Calling facilities = connects c x (said_in x.params facilities)
row_accept c x Collision facilities = connects c x (said_in x.params facilities)
row_accept c x Clearing facilities = ignores x
row_accept c x state facilities = unexpected c x state

-- CLEAR (sections 4.1.7 to 4.1.9). In p1 it counts and tells nothing (profile).
abbrev pub row_clear : Circuit → State → ℕ → ℕ → Answer
row_clear x Free cause diagnostic = clears_to x (Some (clear_conf 1)) []
row_clear x Clearing cause diagnostic = clears_to x None (clear_done ∷ [])
row_clear x state cause diagnostic = clears_to x (Some (clear_conf 1)) (cleared cause diagnostic ∷ [])

-- CLEAR CONFIRMATION (sections 4.1.7 and 4.1.8)
abbrev pub row_clear_conf : CircuitSettings → Circuit → State → Answer
row_clear_conf c x Clearing = clears_to x None (clear_done ∷ [])
row_clear_conf c x state = unexpected c x state

-- ---- resetting

-- RESET (sections 4.4.3.1 to 4.4.3.3)
abbrev pub row_reset : CircuitSettings → Circuit → State → ℕ → ℕ → Answer
row_reset c x Open cause diagnostic = resets_to x (Some (reset_conf 1)) (was_reset cause diagnostic ∷ [])
row_reset c x Resetting cause diagnostic = resets_to x None (reset_done ∷ [])
row_reset c x Clearing cause diagnostic = ignores x
row_reset c x state cause diagnostic = unexpected c x state

-- RESET CONFIRMATION (section 4.4.3.4)
abbrev pub row_reset_conf : CircuitSettings → Circuit → State → Answer
row_reset_conf c x Open = resets_for c x 27
row_reset_conf c x Resetting = resets_to x None (reset_done ∷ [])
row_reset_conf c x Clearing = ignores x
row_reset_conf c x state = unexpected c x state

-- ---- data, flow control and interrupts: in p4 with d1

-- the packet is done, or the call is reset for the ground
abbrev pub unless : CircuitSettings → Circuit → Option ℕ → Answer → Answer
unless c x None good = good
unless c x (Some diagnostic) good = resets_for c x diagnostic

-- A P(R) stands for the one number from the last one received that equals it modulo 8, which is at most P(S) of the
-- next packet to be sent (section 4.4.1.3); else 2.
abbrev pub number_ground : Talk → ℕ → Option ℕ
number_ground t pr = if nat_le (resolved t.acked pr) (length t.sent) then None else Some 2

-- the first ground of a data packet: its P(R); its P(S), which is the number of packets taken modulo 8 (section
-- 4.4.1.1), else 1; then its size and its qualifier
abbrev pub data_ground : ℕ → ℕ → Talk → ℕ → ℕ → Piece → Option ℕ
data_ground longest size t ps pr piece =
    if nat_le (resolved t.acked pr) (length t.sent)
    then (if ps == length t.taken % 8 then piece_ground longest size (joining no_part t.taken) piece else Some 1)
    else Some 2

-- RR or RNR with P(R) of this number
abbrev pub status : Bool → ℕ → PlainPacket
status true taken = rr 1 (taken % 8)
status false taken = rnr 1 (taken % 8)

-- each data packet is acknowledged at once (profile)
abbrev pub takes : Circuit → Talk → ℕ → Piece → Answer
takes x t pr piece =
    talks x (record {
      sent = t.sent;
      taken = t.taken
          ++ piece ∷ [];
      acked = resolved t.acked pr;
      rest = t.rest;
      int_out = t.int_out;
      peer_ready = t.peer_ready;
      own_ready = t.own_ready;
    })
    (Some (status t.own_ready (length t.taken + 1)))
    (deliveries (completed (joining no_part t.taken) piece))

-- RR and RNR (section 4.4.1.5)
abbrev pub hears_status : Circuit → Talk → Bool → ℕ → Answer
hears_status x t is_ready pr =
    talks x (record {
      sent = t.sent;
      taken = t.taken;
      acked = resolved t.acked pr;
      rest = t.rest;
      int_out = t.int_out;
      peer_ready = is_ready;
      own_ready = t.own_ready;
    }) None []

-- INTERRUPT CONFIRMATION (section 4.3.7)
abbrev pub confirms : CircuitSettings → Circuit → Talk → Bool → Answer
confirms c x t true =
    talks x (record {
      sent = t.sent;
      taken = t.taken;
      acked = t.acked;
      rest = t.rest;
      int_out = false;
      peer_ready = t.peer_ready;
      own_ready = t.own_ready;
    }) None (interrupt_done ∷ [])
confirms c x t false = resets_for c x 43

abbrev pub row_open : CircuitSettings → Circuit → Talk → PlainPacket → Answer
row_open c x t (user_data channel marks m ps pr user) =
    unless c x (data_ground c.longest (terms_in x).size t ps pr (piece_of marks m user))
    (takes x t pr (piece_of marks m user))
row_open c x t (rr channel pr) = unless c x (number_ground t pr) (hears_status x t true pr)
row_open c x t (rnr channel pr) = unless c x (number_ground t pr) (hears_status x t false pr)
row_open c x t (interrupt channel user) = talks x t (Some (interrupt_conf 1)) (interrupted user ∷ [])
row_open c x t (interrupt_conf channel) = confirms c x t t.int_out
row_open c x t other = ignores x

-- DATA, RR, RNR, INTERRUPT and INTERRUPT CONFIRMATION
abbrev pub row_data : CircuitSettings → Circuit → State → PlainPacket → Answer
row_data c x Open packet = row_open c x x.talk packet
row_data c x Resetting packet = ignores x
row_data c x Clearing packet = ignores x
row_data c x state packet = unexpected c x state

-- ---- the table

-- what a CALL doesn't say is proposed as the default
abbrev pub request_in : List ℕ → List ℕ → List ℕ → List ℕ → CallRequest
request_in called calling facilities user = record {
  called = called;
  calling = calling;
  user = user;
  params = said_in default_params facilities;
}

abbrev pub answers : CircuitSettings → Circuit → PlainPacket → Answer
answers c x (call channel called calling facilities user) = row_call c x x.state
    (request_in called calling facilities user)
answers c x (accept channel facilities) = row_accept c x x.state facilities
answers c x (clear channel cause diagnostic) = row_clear x x.state cause diagnostic
answers c x (clear_conf channel) = row_clear_conf c x x.state
answers c x (reset channel cause diagnostic) = row_reset c x x.state cause diagnostic
answers c x (reset_conf channel) = row_reset_conf c x x.state
answers c x (restart cause diagnostic) = ignores x
answers c x restart_conf = ignores x
answers c x packet = row_data c x x.state packet

-- cause 3 is invalid facility request, 19 (0x13) local procedure error
abbrev pub cause_of : PacketError → ℕ
cause_of BadFacility = 3
cause_of BadParameter = 3
cause_of error = 19

-- octets that spell no packet
abbrev pub row_undecoded : CircuitSettings → Circuit → State → PacketError → Answer
row_undecoded c x Open error = resets_for c x (diagnostic_of error)
row_undecoded c x Resetting error = ignores x
row_undecoded c x Clearing error = ignores x
row_undecoded c x state error = clears_for c x (cause_of error) (diagnostic_of error)

abbrev pub undecoded : CircuitSettings → Circuit → PacketError → Answer
undecoded c x error = row_undecoded c x x.state error

-- what came, a packet or octets that spell none
abbrev pub hears : CircuitSettings → Circuit → Result PlainPacket PacketError → Answer
hears c x (Ok packet) = answers c x packet
hears c x (Err e) = undecoded c x e
