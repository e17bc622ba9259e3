-- What a step leaves of a stretch that is open after it: it goes on, or has just begun.
use Rattle.x25_world.proofs.Names.{◌≡◌, ◌⊎◌, inl, inr, ℕ, suc, ◌≤◌, List, [], ◌∷◌, ◌++◌, length, Option, Some, None, Bool, true, false, nat_lt, nat_le, ◌&&◌}
use Rattle.x25_world.proofs.Names.{if◌then◌else◌, refl, sym, ap, ◌∙◌, arith, append-nil, Role, Dte, Dce, PlainPacket, call, accept, clear, user_data, Marks}
use Rattle.x25_world.proofs.Names.{State, Free, Calling, Arriving, Open, Clearing, BadParameter, Proposal, default_params, may_answer, field_for, may_clear_for}
use Rattle.x25_world.proofs.Names.{Piece, Talk, silent, Circuit, is_open, is_open_in, waits, Answer, answers, Done, Calls, outcome}
use Rattle.x25_circuit.specs.Calling.{Outcome, Refused, Request, Accepts, Clears, Sends, Interrupts, Resets, SaysReady, SaysNotReady, does, keeps_on, call_sent}
use Rattle.x25_circuit.specs.Calling.{may_call, call_in, accept_with, accept_in, clear_in, send_in, interrupt_in, reset_in, ready_in, Pulled, pulls_nothing}
use Rattle.x25_circuit.specs.{Calling.{pull_open, pull_in, pulled}, Cause.{may_reset_for}, Circuit.{CircuitSettings, talking, outgoing, incoming as terms_in}}
use Rattle.x25_circuit.specs.Hearing.{goes, clears_for, request_in, collides, connects, row_call, row_accept, row_clear, row_clear_conf, row_reset}
use Rattle.x25_circuit.specs.Hearing.{row_reset_conf, unless, takes, hears_status, confirms, row_open, row_data, data_ground, number_ground}
use Rattle.x25_circuit.specs.{Message.{piece_of, cut}, Notice.{CallRequest, connected}, Params.{said_in}}
use Rattle.x25_circuit.specs.declared.{error.CircuitError.TheVariants.{Full, TooLong, InterruptOutstanding}, params.Params.{Params}}
use Rattle.x25_circuit.specs.declared.state.State.TheVariants.{Collision, Resetting}
use Rattle.x25_packet.specs.Packet.{clear_conf, rr, rnr, interrupt, interrupt_conf, reset, reset_conf}
use Rattle.x25_window.specs.code.Modulo.{resolved}

pub never : {A : Type 0} → false ≡ true → A
never e = absurd (cc)

-- nothing is kept of it yet, and it wasn't open, or has another name
pub record Begins (x y : Circuit) : Type 0 where
  pub silent : y.talk ≡ silent
  pub new : (is_open x ≡ false) ⊎ (y.resets ≡ suc x.resets)

pub record Same (x y : Circuit) : Type 0 where
  pub opened : is_open x ≡ true
  pub clears : y.clears ≡ x.clears
  pub resets : y.resets ≡ x.resets

-- by a packet that comes: no less is acknowledged
pub record Hears (x y : Circuit) : Type 0 where
  pub same : Same x y
  pub acked : x.talk.acked ≤ y.talk.acked
  pub sent : y.talk.sent ≡ x.talk.sent
  pub rest : y.talk.rest ≡ x.talk.rest

-- by a call of the user, or a pull: no less is sent
pub record Goes (x y : Circuit) : Type 0 where
  pub same : Same x y
  pub acked : y.talk.acked ≡ x.talk.acked
  pub more : List Piece
  pub sent : y.talk.sent ≡ x.talk.sent ++ more

abbrev pub AfterPacket : Circuit → Circuit → Type 0
AfterPacket x y = is_open y ≡ true → Begins x y ⊎ Hears x y

abbrev pub AfterCall : Circuit → Circuit → Type 0
AfterCall x y = is_open y ≡ true → Begins x y ⊎ Goes x y

pub stays_heard : (x : Circuit) → AfterPacket x x
stays_heard x is = inr (record { same = record { opened = is; clears = refl; resets = refl }; acked = omega arith; sent = refl; rest = refl })

pub stays_called : (x : Circuit) → AfterCall x x
stays_called x is = inr (record { same = record { opened = is; clears = refl; resets = refl }; acked = refl; more = []; sent = sym (append-nil x.talk.sent) })

-- ---- packets

module _ (c : CircuitSettings) (x : Circuit) where
  abbrev Heard : Answer → Type 0
  Heard a = AfterPacket x a.next

  collides_heard : (role : Role) (request : CallRequest) → Heard (collides role x request)
  collides_heard Dte request = λ is. never is
  collides_heard Dce request = λ is. never is

  call_heard : (s : State) (request : CallRequest) → Heard (row_call c x s request)
  call_heard Calling request = collides_heard c.role request
  call_heard Clearing request = stays_heard x
  call_heard s request = λ is. never is

  connects_heard : is_open x ≡ false → (answered : Params) → Heard (connects c x answered)
  connects_heard not_open answered = by (may_answer x.params answered)
    where
      by : (b : Bool) → Heard (if b then goes x Open answered true None (connected answered ∷ []) else clears_for c x 3 66)
      by true = λ is. inl (record { silent = refl; new = inl not_open })
      by false = λ is. never is

  accept_heard : (s : State) → x.state ≡ s → (facilities : List ℕ) → Heard (row_accept c x s facilities)
  accept_heard Calling at facilities = connects_heard (ap is_open_in at) (said_in x.params facilities)
  accept_heard Collision at facilities = connects_heard (ap is_open_in at) (said_in x.params facilities)
  accept_heard Clearing at facilities = stays_heard x
  accept_heard s at facilities = λ is. never is

  clear_heard : (s : State) (cause diagnostic : ℕ) → Heard (row_clear x s cause diagnostic)
  clear_heard Free cause diagnostic = λ is. never is
  clear_heard s cause diagnostic = λ is. never is

  clear_conf_heard : (s : State) → Heard (row_clear_conf c x s)
  clear_conf_heard Free = λ is. never is
  clear_conf_heard s = λ is. never is

  reset_heard : (s : State) (cause diagnostic : ℕ) → Heard (row_reset c x s cause diagnostic)
  reset_heard Open cause diagnostic = λ is. inl (record { silent = refl; new = inr refl })
  reset_heard Resetting cause diagnostic = λ is. inl (record { silent = refl; new = inr refl })
  reset_heard Clearing cause diagnostic = stays_heard x
  reset_heard s cause diagnostic = λ is. never is

  reset_conf_heard : (s : State) → Heard (row_reset_conf c x s)
  reset_conf_heard Resetting = λ is. inl (record { silent = refl; new = inr refl })
  reset_conf_heard Clearing = stays_heard x
  reset_conf_heard s = λ is. never is

  unless_heard : (ground : Option ℕ) (good : Answer) → Heard good → Heard (unless c x ground good)
  unless_heard None good h = h
  unless_heard (Some diagnostic) good h = λ is. never is

  confirms_heard : (b : Bool) → Heard (confirms c x x.talk b)
  confirms_heard true = λ is. inr (record { same = record { opened = is; clears = refl; resets = refl }; acked = omega arith; sent = refl; rest = refl })
  confirms_heard false = λ is. never is

  acked_more : (pr : ℕ) → x.talk.acked ≤ resolved x.talk.acked pr
  acked_more pr = omega arith

  open_heard : (p : PlainPacket) → Heard (row_open c x x.talk p)
  open_heard (user_data channel q m ps pr user) =
      unless_heard (data_ground c.longest (terms_in x).size x.talk ps pr (piece_of q m user)) (takes x x.talk pr (piece_of q m user))
      (λ is. inr (record { same = record { opened = is; clears = refl; resets = refl }; acked = acked_more pr; sent = refl; rest = refl }))
  open_heard (rr channel pr) =
      unless_heard (number_ground x.talk pr) (hears_status x x.talk true pr)
      (λ is. inr (record { same = record { opened = is; clears = refl; resets = refl }; acked = acked_more pr; sent = refl; rest = refl }))
  open_heard (rnr channel pr) =
      unless_heard (number_ground x.talk pr) (hears_status x x.talk false pr)
      (λ is. inr (record { same = record { opened = is; clears = refl; resets = refl }; acked = acked_more pr; sent = refl; rest = refl }))
  open_heard (interrupt channel user) = λ is. inr
      (record { same = record { opened = is; clears = refl; resets = refl }; acked = omega arith; sent = refl; rest = refl })
  open_heard (interrupt_conf channel) = confirms_heard x.talk.int_out
  open_heard other = stays_heard x

  data_heard : (s : State) (p : PlainPacket) → Heard (row_data c x s p)
  data_heard Open p = open_heard p
  data_heard Resetting p = stays_heard x
  data_heard Clearing p = stays_heard x
  data_heard s p = λ is. never is

  pub packet_heard : (p : PlainPacket) → Heard (answers c x p)
  packet_heard (call channel called calling facilities user) = call_heard x.state (request_in called calling facilities user)
  packet_heard (accept channel facilities) = accept_heard x.state refl facilities
  packet_heard (clear channel cause diagnostic) = clear_heard x.state cause diagnostic
  packet_heard (clear_conf channel) = clear_conf_heard x.state
  packet_heard (reset channel cause diagnostic) = reset_heard x.state cause diagnostic
  packet_heard (reset_conf channel) = reset_conf_heard x.state
  packet_heard (user_data channel q m ps pr user) = data_heard x.state (user_data channel q m ps pr user)
  packet_heard (rr channel pr) = data_heard x.state (rr channel pr)
  packet_heard (rnr channel pr) = data_heard x.state (rnr channel pr)
  packet_heard (interrupt channel user) = data_heard x.state (interrupt channel user)
  packet_heard (interrupt_conf channel) = data_heard x.state (interrupt_conf channel)
  packet_heard p = stays_heard x

-- ---- calls of the user, and pulls

abbrev pub AfterOutcome : Circuit → Outcome → Type 0
AfterOutcome x (Done next packet) = AfterCall x next
AfterOutcome x (Refused error) = Unit {0}

called_if : (x : Circuit) (b : Bool) (u v : Outcome) → AfterOutcome x u → AfterOutcome x v → AfterOutcome x (if b then u else v)
called_if x true u v h g = h
called_if x false u v h g = g

module _ (c : CircuitSettings) (x : Circuit) where
  abbrev more_sent : List Piece → Talk
  more_sent rest = record {
    sent = x.talk.sent;
    taken = x.talk.taken;
    acked = x.talk.acked;
    rest = rest;
    int_out = x.talk.int_out;
    peer_ready = x.talk.peer_ready;
    own_ready = x.talk.own_ready;
  }

  talks_on : (t : Talk) → t.acked ≡ x.talk.acked → t.sent ≡ x.talk.sent → AfterCall x (talking x t)
  talks_on t acked sent is = inr (record {
    same = record { opened = is; clears = refl; resets = refl };
    acked = acked;
    more = [];
    sent = sent
        ∙ sym (append-nil x.talk.sent);
  })

  call_called : (s : State) (called calling user : List ℕ) (proposal : Proposal) → AfterOutcome x (call_in c x s called calling user proposal)
  call_called Free called calling user proposal =
      called_if x (may_call c.long_data called calling user proposal.params) (does x Calling proposal.params true (call_sent called calling user proposal))
      (Refused BadParameter) (λ is. never is) tt
  call_called s called calling user params = tt

  answer_called : is_open x ≡ false → (answer : Option Proposal) → AfterOutcome x (accept_with x answer)
  answer_called not_open None = λ is. inl (record { silent = refl; new = inl not_open })
  answer_called not_open (Some answer) =
      called_if x (may_answer x.params answer.params) (does x Open answer.params false (accept 1 (field_for x.params answer))) (Refused BadParameter)
      (λ is. inl (record { silent = refl; new = inl not_open })) tt

  accept_called : (s : State) → x.state ≡ s → (answer : Option Proposal) → AfterOutcome x (accept_in x s answer)
  accept_called Arriving at answer = answer_called (ap is_open_in at) answer
  accept_called s at answer = tt

  clear_called : (s : State) (cause diagnostic : ℕ) → AfterOutcome x (clear_in c x s cause diagnostic)
  clear_called Free cause diagnostic = tt
  clear_called Clearing cause diagnostic = tt
  clear_called s cause diagnostic = called_if x (may_clear_for c.role cause) (does x Clearing default_params false (clear 1 cause diagnostic))
      (Refused BadParameter) (λ is. never is) tt

  abbrev sends : Marks → List ℕ → Outcome
  sends q user = keeps_on x (more_sent (x.talk.rest ++ cut (outgoing x).size q user)) None

  abbrev interrupts : List ℕ → Outcome
  interrupts user =
      keeps_on x (record {
        sent = x.talk.sent;
        taken = x.talk.taken;
        acked = x.talk.acked;
        rest = x.talk.rest;
        int_out = true;
        peer_ready = x.talk.peer_ready;
        own_ready = x.talk.own_ready;
      }) (Some (interrupt 1 user))

  send_called : (s : State) (q : Marks) (user : List ℕ) → AfterOutcome x (send_in c x s q user)
  send_called Open q user =
      called_if x (nat_le (length user) c.longest) (if nat_lt (waits x) 8 then sends q user else Refused Full) (Refused TooLong)
      (called_if x (nat_lt (waits x) 8) (sends q user) (Refused Full) (talks_on (more_sent (x.talk.rest ++ cut (outgoing x).size q user)) refl refl) tt) tt
  send_called s q user = tt

  interrupt_called : (s : State) (user : List ℕ) → AfterOutcome x (interrupt_in x s user)
  interrupt_called Open user =
      called_if x (nat_le 1 (length user) && nat_le (length user) 32) (if x.talk.int_out then Refused InterruptOutstanding else interrupts user)
      (Refused BadParameter)
      (called_if x x.talk.int_out (Refused InterruptOutstanding) (interrupts user) tt (talks_on _ refl refl)) tt
  interrupt_called s user = tt

  reset_called : (s : State) (cause diagnostic : ℕ) → AfterOutcome x (reset_in c x s cause diagnostic)
  reset_called Open cause diagnostic = called_if x (may_reset_for c.role cause) (does x Resetting x.params x.calls (reset 1 cause diagnostic))
      (Refused BadParameter) (λ is. never is) tt
  reset_called s cause diagnostic = tt

  ready_called : (s : State) (is_ready : Bool) → AfterOutcome x (ready_in x s is_ready)
  ready_called Open is_ready = talks_on _ refl refl
  ready_called s is_ready = tt

  pub outcome_called : (request : Request) → AfterOutcome x (outcome c x request)
  outcome_called (Calls called calling user params) = call_called x.state called calling user params
  outcome_called (Accepts answer) = accept_called x.state refl answer
  outcome_called (Clears cause diagnostic) = clear_called x.state cause diagnostic
  outcome_called (Sends q user) = send_called x.state q user
  outcome_called (Interrupts user) = interrupt_called x.state user
  outcome_called (Resets cause diagnostic) = reset_called x.state cause diagnostic
  outcome_called SaysReady = ready_called x.state true
  outcome_called SaysNotReady = ready_called x.state false

  pull_if : (b : Bool) (u v : Pulled) → AfterCall x u.next → AfterCall x v.next → (let p : Pulled = if b then u else v in AfterCall x p.next)
  pull_if true u v h g = h
  pull_if false u v h g = g

  pull_open_called : (rest : List Piece) → AfterCall x (pull_open c x x.talk rest).next
  pull_open_called [] = stays_called x
  pull_open_called (piece ∷ rest) =
      pull_if _ _ (pulls_nothing x) (λ is. inr
      (record { same = record { opened = is; clears = refl; resets = refl }; acked = refl; more = piece ∷ []; sent = refl })) (stays_called x)

  pull_in_called : (s : State) → AfterCall x (pull_in c x s).next
  pull_in_called Open = pull_open_called x.talk.rest
  pull_in_called s = stays_called x

  pub pulled_called : AfterCall x (pulled c x).next
  pulled_called = pull_in_called x.state
