-- The state of one logical channel at one end. ITU-T X.25 (10/96), sections 4.1, 4.3.1 and 4.4.
use Rattle.std.specs.Prelude.{ℕ, ◌-◌, ◌%◌, List, [], ◌++◌, drop, length, Bool, true, false, if◌then◌else◌, not, ◌&&◌}
use Rattle.std.specs.Prelude.{◌==◌, nat_lt, Option, Some, None}
use Rattle.x25_bits.specs.declared.role.Role.{Role}
use Rattle.x25_circuit.specs.declared.state.State.{State}
use Rattle.x25_circuit.specs.declared.state.State.TheVariants.{Free, Open}
use Rattle.x25_circuit.specs.declared.params.Params.{Params}
use Rattle.x25_circuit.specs.declared.awaits.Awaits.{Awaits}
use Rattle.x25_circuit.specs.Awaits.{awaited_in, is_any}
use Rattle.x25_circuit.specs.Params.{Terms, default_params, called_terms, calling_terms}
use Rattle.x25_circuit.specs.Message.{Piece, wholes, asked_in}

-- which end this is, whether the user data of a CALL may be long, and the most octets of a message, which are 65,535 at
-- most (profile)
pub record CircuitSettings : Type 0 where
  pub role : Role
  pub long_data : Bool
  pub longest : ℕ

-- What belongs to the present stretch, from a call or a reset on: the data packets sent, of which P(S) of the next is
-- the number; those taken, of which P(R) is the number; how many of those sent the other end acknowledged; the packets
-- that wait, as the messages are cut; whether an interrupt of this end isn't confirmed yet; whether the other end is
-- ready to receive, and whether this end is.
pub record Talk : Type 0 where
  pub sent : List Piece
  pub taken : List Piece
  pub acked : ℕ
  pub rest : List Piece
  pub int_out : Bool
  pub peer_ready : Bool
  pub own_ready : Bool

-- the state after a call was set up or reset (section 4.4.3), and outside of p4 with d1, where nothing is kept
abbrev pub silent : Talk
silent = record { sent = []; taken = []; acked = 0; rest = []; int_out = false; peer_ready = true; own_ready = true }

-- With the numbers of clears done, and of resets done since the last of these (profile); with packet sizes and windows,
-- which are proposed by this end until its call is accepted, proposed by the other end where that one called, and in
-- force from there on; and whether this end called. Where there is no call, these two are the defaults and false.
pub record Circuit : Type 0 where
  pub state : State
  pub clears : ℕ
  pub resets : ℕ
  pub params : Params
  pub calls : Bool
  pub talk : Talk

-- a channel that was never used
abbrev pub begun : Circuit
begun = record { state = Free; clears = 0; resets = 0; params = default_params; calls = false; talk = silent }

-- in this state, in which nothing is kept
abbrev pub entered : Circuit → State → Params → Bool → Circuit
entered x state params calls = record {
  state = state;
  clears = x.clears;
  resets = x.resets;
  params = params;
  calls = calls;
  talk = silent;
}

-- p1 with everything dropped; the counts are as they were
abbrev pub forgotten : Circuit → Circuit
forgotten x = entered x Free default_params false

-- both counts are 0
abbrev pub zeroed : Circuit → Circuit
zeroed x = record { state = x.state; clears = 0; resets = 0; params = x.params; calls = x.calls; talk = x.talk }

-- in the same state
abbrev pub talking : Circuit → Talk → Circuit
talking x talk = record {
  state = x.state;
  clears = x.clears;
  resets = x.resets;
  params = x.params;
  calls = x.calls;
  talk = talk;
}

-- ---- the terms of data packets

-- of those that this end sends
abbrev pub outgoing : Circuit → Terms
outgoing x = if x.calls then calling_terms x.params else called_terms x.params

-- of those that it takes
abbrev pub incoming : Circuit → Terms
incoming x = if x.calls then called_terms x.params else calling_terms x.params

-- ---- what a circuit tells

abbrev pub is_free_in : State → Bool
is_free_in Free = true
is_free_in state = false

abbrev pub is_open_in : State → Bool
is_open_in Open = true
is_open_in state = false

-- p1
abbrev pub is_free : Circuit → Bool
is_free x = is_free_in x.state

-- p4 with d1
abbrev pub is_open : Circuit → Bool
is_open x = is_open_in x.state

-- how many messages wait: each until its last packet was sent
abbrev pub waits : Circuit → ℕ
waits x = wholes x.talk.rest

-- the answer that this end awaits
abbrev pub awaited_by : Circuit → Awaits
awaited_by x = awaited_in x.state x.talk.int_out

-- a data packet isn't acknowledged, and the other end is ready to receive
abbrev pub is_unacknowledged : Circuit → Bool
is_unacknowledged x = (is_open x && x.talk.peer_ready) && nat_lt x.talk.acked (length x.talk.sent)

-- P(S) of the first of these, for which T25 counts
abbrev pub unacknowledged : Circuit → Option ℕ
unacknowledged x = if is_unacknowledged x then Some (x.talk.acked % 8) else None

-- nothing is under way: no answer is awaited, no message waits, and no data packet isn't acknowledged
abbrev pub is_idle : Circuit → Bool
is_idle x = not (is_any (awaited_by x)) && ((waits x == 0) && not (is_unacknowledged x))

-- how many messages haven't the confirmation yet that was asked of them: they wait, or their last packet isn't
-- acknowledged (section 4.4.1.4)
abbrev pub unconfirmed : Circuit → ℕ
unconfirmed x = asked_in (drop x.talk.acked (x.talk.sent ++ x.talk.rest))

-- how many messages more may wait, of eight at most (profile)
abbrev pub message_room : Circuit → ℕ
message_room x = if is_open x then 8 - waits x else 0
