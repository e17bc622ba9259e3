-- What a circuit tells counts its clears and resets, where no CLEAR comes in p1; and so what a layer tells counts its restarts.
use Rattle.x25_layer.proofs.Names.{◌≡◌, ℕ, List, [], ◌∷◌, ◌++◌, length, Option, Some, None, Bool, true, false, nat_lt, nat_le, ◌&&◌, if◌then◌else◌, refl, Role}
use Rattle.x25_layer.proofs.Names.{Dte, Dce, PlainPacket, call, accept, clear, clear_conf, user_data, rr, rnr, interrupt, interrupt_conf, reset, reset_conf}
use Rattle.x25_layer.proofs.Names.{restart, restart_conf, Marks, BadParameter, State, Free, Calling, Arriving, Collision, Open, Resetting, Clearing, Params}
use Rattle.x25_layer.proofs.Names.{Proposal, default_params, may_answer, field_for, said_in, Message, Piece, piece_of, no_part, joining, completed}
use Rattle.x25_layer.proofs.Names.{CircuitSettings, Talk, Circuit, outgoing, is_free, is_free_in, waits, CallRequest, PlainNotice, connected, deliveries}
use Rattle.x25_layer.proofs.Names.{Answer, answers, goes, clears_for, request_in, collides, unless, takes, hears_status, confirms, Outcome, Done, Refused}
use Rattle.x25_layer.proofs.Names.{Request, Calls, Accepts, Clears, Sends, Interrupts, Resets, SaysReady, SaysNotReady, does, call_sent, may_call, outcome}
use Rattle.x25_layer.proofs.Names.{may_clear_for, may_reset_for, Pulled, pull_open, pull_in, pulled, Name, named_by}
use Rattle.x25_circuit.specs.Calling.{keeps_on, call_in, accept_with, accept_in, clear_with, clear_in, send_in, interrupt_in, reset_in, ready_in}
use Rattle.x25_circuit.specs.{Circuit.{incoming as terms_in}, Hearing.{data_ground}, Message.{cut}}
use Rattle.x25_circuit.specs.Hearing.{number_ground, connects, row_call, row_accept, row_clear, row_clear_conf, row_reset, row_reset_conf, row_open, row_data}
use Rattle.x25_circuit.specs.declared.error.CircuitError.TheVariants.{Full, TooLong, InterruptOutstanding}

-- the name of the stretch of a circuit
abbrev pub name_in : ℕ → Circuit → Name
name_in restarts x = record { restarts = restarts; clears = x.clears; resets = x.resets }

abbrev pub named_by_all : Name → List PlainNotice → Name
named_by_all n [] = n
named_by_all n (notice ∷ notices) = named_by_all (named_by n notice) notices

-- what is told counts what was done
abbrev Counts : ℕ → Circuit → Answer → Type 0
Counts restarts x a = name_in restarts a.next ≡ named_by_all (name_in restarts x) a.notices

deliveries_count : (n : Name) (ms : List Message) → n ≡ named_by_all n (deliveries ms)
deliveries_count n [] = refl
deliveries_count n (m ∷ ms) = deliveries_count n ms

-- a CLEAR doesn't come in p1
abbrev pub ClearsNotFree : Circuit → PlainPacket → Type 0
ClearsNotFree x (clear channel cause diagnostic) = is_free x ≡ false
ClearsNotFree x p = Unit {0}

module _ (c : CircuitSettings) (e : ℕ) (x : Circuit) where
  collides_count : (role : Role) (request : CallRequest) → Counts e x (collides role x request)
  collides_count Dte request = refl
  collides_count Dce request = refl

  call_count : (s : State) (request : CallRequest) → Counts e x (row_call c x s request)
  call_count Calling request = collides_count c.role request
  call_count s request = refl

  connects_count : (answered : Params) → Counts e x (connects c x answered)
  connects_count answered = by (may_answer x.params answered)
    where
      by : (b : Bool) → Counts e x (if b then goes x Open answered true None (connected answered ∷ []) else clears_for c x 3 66)
      by true = refl
      by false = refl

  accept_count : (s : State) (facilities : List ℕ) → Counts e x (row_accept c x s facilities)
  accept_count Calling facilities = connects_count (said_in x.params facilities)
  accept_count Collision facilities = connects_count (said_in x.params facilities)
  accept_count s facilities = refl

  clear_count : (s : State) (cause diagnostic : ℕ) → is_free_in s ≡ false → Counts e x (row_clear x s cause diagnostic)
  clear_count Free cause diagnostic not_free = absurd (never not_free)
    where
      never : true ≡ false → ⊥
      never same = cc
  clear_count s cause diagnostic not_free = refl

  clear_conf_count : (s : State) → Counts e x (row_clear_conf c x s)
  clear_conf_count Clearing = refl
  clear_conf_count s = refl

  reset_count : (s : State) (cause diagnostic : ℕ) → Counts e x (row_reset c x s cause diagnostic)
  reset_count Open cause diagnostic = refl
  reset_count s cause diagnostic = refl

  reset_conf_count : (s : State) → Counts e x (row_reset_conf c x s)
  reset_conf_count Open = refl
  reset_conf_count s = refl

  unless_count : (ground : Option ℕ) (good : Answer) → Counts e x good → Counts e x (unless c x ground good)
  unless_count None good h = h
  unless_count (Some diagnostic) good h = refl

  confirms_count : (t : Talk) (b : Bool) → Counts e x (confirms c x t b)
  confirms_count t true = refl
  confirms_count t false = refl

  open_count : (t : Talk) (p : PlainPacket) → Counts e x (row_open c x t p)
  open_count t (user_data channel q m ps pr user) =
      unless_count (data_ground c.longest (terms_in x).size t ps pr (piece_of q m user)) (takes x t pr (piece_of q m user))
      (deliveries_count (name_in e x) (completed (joining no_part t.taken) (piece_of q m user)))
  open_count t (rr channel pr) = unless_count (number_ground t pr) (hears_status x t true pr) refl
  open_count t (rnr channel pr) = unless_count (number_ground t pr) (hears_status x t false pr) refl
  open_count t (interrupt_conf channel) = confirms_count t t.int_out
  open_count t p = refl

  data_count : (s : State) (p : PlainPacket) → Counts e x (row_data c x s p)
  data_count Open p = open_count x.talk p
  data_count s p = refl

  pub circuit_counts : (p : PlainPacket) → ClearsNotFree x p → Counts e x (answers c x p)
  circuit_counts (call channel called calling facilities user) ok = call_count x.state (request_in called calling facilities user)
  circuit_counts (accept channel facilities) ok = accept_count x.state facilities
  circuit_counts (clear channel cause diagnostic) ok = clear_count x.state cause diagnostic ok
  circuit_counts (clear_conf channel) ok = clear_conf_count x.state
  circuit_counts (reset channel cause diagnostic) ok = reset_count x.state cause diagnostic
  circuit_counts (reset_conf channel) ok = reset_conf_count x.state
  circuit_counts (restart cause diagnostic) ok = refl
  circuit_counts restart_conf ok = refl
  circuit_counts p ok = data_count x.state p

-- ---- calls of the user, and pulls, count nothing

abbrev pub KeepsName : Circuit → Outcome → Type 0
KeepsName x (Done next packet) = (e : ℕ) → name_in e next ≡ name_in e x
KeepsName x (Refused error) = Unit {0}

keeps_if : (x : Circuit) (b : Bool) (u v : Outcome) → KeepsName x u → KeepsName x v → KeepsName x (if b then u else v)
keeps_if x true u v h g = h
keeps_if x false u v h g = g

module _ (c : CircuitSettings) (x : Circuit) where
  call_keeps : (s : State) (called calling user : List ℕ) (proposal : Proposal) → KeepsName x (call_in c x s called calling user proposal)
  call_keeps Free called calling user proposal =
      keeps_if x (may_call c.long_data called calling user proposal.params) (does x Calling proposal.params true (call_sent called calling user proposal))
      (Refused BadParameter) (λ e. refl) tt
  call_keeps s called calling user params = tt

  answer_keeps : (answer : Option Proposal) → KeepsName x (accept_with x answer)
  answer_keeps None = λ e. refl
  answer_keeps (Some answer) = keeps_if x (may_answer x.params answer.params) (does x Open answer.params false (accept 1 (field_for x.params answer)))
      (Refused BadParameter) (λ e. refl) tt

  accept_keeps : (s : State) (answer : Option Proposal) → KeepsName x (accept_in x s answer)
  accept_keeps Arriving answer = answer_keeps answer
  accept_keeps s answer = tt

  clear_with_keeps : (cause diagnostic : ℕ) → KeepsName x (clear_with c x cause diagnostic)
  clear_with_keeps cause diagnostic = keeps_if x (may_clear_for c.role cause) (does x Clearing default_params false (clear 1 cause diagnostic))
      (Refused BadParameter) (λ e. refl) tt

  clear_keeps : (s : State) (cause diagnostic : ℕ) → KeepsName x (clear_in c x s cause diagnostic)
  clear_keeps Free cause diagnostic = tt
  clear_keeps Clearing cause diagnostic = tt
  clear_keeps s cause diagnostic = clear_with_keeps cause diagnostic

  -- a message more waits; and an interrupt is out
  abbrev sends : Talk → Marks → List ℕ → Outcome
  sends t q user =
      keeps_on x (record {
        sent = t.sent;
        taken = t.taken;
        acked = t.acked;
        rest = t.rest ++ cut (outgoing x).size q user;
        int_out = t.int_out;
        peer_ready = t.peer_ready;
        own_ready = t.own_ready;
      }) None

  abbrev interrupts : Talk → List ℕ → Outcome
  interrupts t user =
      keeps_on x (record {
        sent = t.sent;
        taken = t.taken;
        acked = t.acked;
        rest = t.rest;
        int_out = true;
        peer_ready = t.peer_ready;
        own_ready = t.own_ready;
      }) (Some (interrupt 1 user))

  send_keeps : (s : State) (q : Marks) (user : List ℕ) → KeepsName x (send_in c x s q user)
  send_keeps Open q user =
      keeps_if x (nat_le (length user) c.longest) (if nat_lt (waits x) 8 then sends x.talk q user else Refused Full) (Refused TooLong)
      (keeps_if x (nat_lt (waits x) 8) (sends x.talk q user) (Refused Full) (λ e. refl) tt) tt
  send_keeps s q user = tt

  interrupt_keeps : (s : State) (user : List ℕ) → KeepsName x (interrupt_in x s user)
  interrupt_keeps Open user =
      keeps_if x (nat_le 1 (length user) && nat_le (length user) 32) (if x.talk.int_out then Refused InterruptOutstanding else interrupts x.talk user)
      (Refused BadParameter)
      (keeps_if x x.talk.int_out (Refused InterruptOutstanding) (interrupts x.talk user) tt (λ e. refl)) tt
  interrupt_keeps s user = tt

  reset_keeps : (s : State) (cause diagnostic : ℕ) → KeepsName x (reset_in c x s cause diagnostic)
  reset_keeps Open cause diagnostic = keeps_if x (may_reset_for c.role cause) (does x Resetting x.params x.calls (reset 1 cause diagnostic))
      (Refused BadParameter) (λ e. refl) tt
  reset_keeps s cause diagnostic = tt

  ready_keeps : (s : State) (is_ready : Bool) → KeepsName x (ready_in x s is_ready)
  ready_keeps Open is_ready = λ e. refl
  ready_keeps s is_ready = tt

  pub outcome_keeps : (request : Request) → KeepsName x (outcome c x request)
  outcome_keeps (Calls called calling user params) = call_keeps x.state called calling user params
  outcome_keeps (Accepts answer) = accept_keeps x.state answer
  outcome_keeps (Clears cause diagnostic) = clear_keeps x.state cause diagnostic
  outcome_keeps (Sends q user) = send_keeps x.state q user
  outcome_keeps (Interrupts user) = interrupt_keeps x.state user
  outcome_keeps (Resets cause diagnostic) = reset_keeps x.state cause diagnostic
  outcome_keeps SaysReady = ready_keeps x.state true
  outcome_keeps SaysNotReady = ready_keeps x.state false

  pull_if : (e : ℕ) (b : Bool) (u v : Pulled) → name_in e u.next ≡ name_in e x → name_in e v.next ≡ name_in e x
      → (let p : Pulled = if b then u else v in name_in e p.next) ≡ name_in e x
  pull_if e true u v h g = h
  pull_if e false u v h g = g

  pull_open_keeps : (e : ℕ) (t : Talk) (rest : List Piece) → name_in e (pull_open c x t rest).next ≡ name_in e x
  pull_open_keeps e t [] = refl
  pull_open_keeps e t (piece ∷ rest) = pull_if e _ _ _ refl refl

  pull_in_keeps : (e : ℕ) (s : State) → name_in e (pull_in c x s).next ≡ name_in e x
  pull_in_keeps e Open = pull_open_keeps e x.talk x.talk.rest
  pull_in_keeps e s = refl

  pub pulled_keeps : (e : ℕ) → name_in e (pulled c x).next ≡ name_in e x
  pulled_keeps e = pull_in_keeps e x.state
