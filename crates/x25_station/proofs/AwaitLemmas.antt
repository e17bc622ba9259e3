-- What a step makes of an answer that is awaited on a channel: it is awaited still, or fewer steps are left, and that is
-- told.
use Rattle.x25_station.proofs.Names.{◌≡◌, ℕ, zero, suc, ◌<◌, ◌≤◌, ◌==◌, ◌⊎◌, inl, inr, List, [], ◌∷◌, map, Bool, true, false, ◌&&◌, ◌||◌, if◌then◌else◌, nat_lt}
use Rattle.x25_station.proofs.Names.{Option, Some, None, Result, Ok, Err, refl, sym, ap, subst, ◌∙◌, arith, true≢false, eqb-true, eq-eqb, list_any, Role, Dte}
use Rattle.x25_station.proofs.Names.{Dce, awaited_in, reset_in, ready_in, may_clear_for, may_restart_for, CircuitSettings, Circuit, Done, Request, Calls}
use Rattle.x25_station.proofs.Names.{Accepts, Clears, Sends, Interrupts, call_in, accept_in, clear_in, send_in, interrupt_in, outcome, Pulled, pull_in}
use Rattle.x25_station.proofs.Names.{pull_open, pulled, Resets, SaysReady, SaysNotReady, Answer, answers, undecoded, Piece, CallRequest, PlainNotice, connected}
use Rattle.x25_station.proofs.Names.{Proposal, may_answer, said_in, Awaits, Params, State, Free, Calling, Collision, Open, Resetting, Clearing, Name}
use Rattle.x25_station.proofs.Names.{LayerRequest, Asks, Dials, Restarts, PullsAll, LayerOutcome, Accepted, Declined, where_room, if_at_once, puts_at_once}
use Rattle.x25_station.proofs.Names.{outcome_on, dialled, restarted_for, outcome_ready, outcome_in, layer_outcome, free_channel, layer_pulled, LayerSettings}
use Rattle.x25_station.proofs.Names.{Layer, LayerAnswer, is_channel, is_ready, put_at, notices_on, answers_on, drops, restarting_from, answers_ready}
use Rattle.x25_station.proofs.Names.{answers_restarting, answers_in, undecoded_in, undecoded_at, answer_to, LinkView, Putting, with_pulled, pull_one, round}
use Rattle.x25_station.proofs.Names.{rounds_of, rounds, backlog, Asked, Told, name_of, shown, Up, PlainPacket, call, accept, clear, clear_conf, reset}
use Rattle.x25_station.proofs.Names.{reset_conf, restart, restart_conf, channel_in, channel_of, PacketError, Marks, StationEntry, of_channel, restart_asked}
use Rattle.x25_station.proofs.Names.{was_restarted, restart_confirmed, at_fault, station_told, station_asked, is_answered_on, is_left_on, rank_in, rank_of}
use Rattle.x25_station.proofs.Names.{◌+◌, ◌-◌, nat_le, length, Arriving, awaited_by, incoming, piece_of, may_reset_for, user_data, rr, rnr, interrupt, interrupt_conf}
use Rattle.x25_layer.specs.laws.Rounds.{at_turn, rest_of_round}
use Rattle.x25_circuit.specs.{Calling.{Outcome as CircuitOutcome, Refused as CircuitRefused}, Circuit.{waits}}
use Rattle.x25_circuit.specs.declared.awaits.Awaits.TheVariants.{Nothing, Acceptance, ResetConfirmation, ClearConfirmation, InterruptConfirmation}
use Rattle.x25_packet.specs.Error.{diagnostic_of}
use Rattle.x25_layer.specs.laws.Transcript.{Said}
use Rattle.x25_station.specs.laws.{EndLaw.{is_answer, is_answer_in, leaves_in}, WayOutLaw.{is_call}}
use Rattle.x25_circuit.specs.declared.error.CircuitError.TheVariants as circuit_error
use Rattle.x25_circuit.specs.Hearing as table
use Rattle.x25_layer.specs.declared.error.LayerError.TheVariants as error

-- ---- the circuits that await an answer

pub data Kind : Type 0 where
  in_call : Kind
  in_collision : Kind
  in_reset : Kind
  in_clear : Kind
  in_interrupt : Kind

abbrev pub state_of : Kind → State
state_of in_call = Calling
state_of in_collision = Collision
state_of in_reset = Resetting
state_of in_clear = Clearing
state_of in_interrupt = Open

abbrev pub awaits_of : Kind → Awaits
awaits_of in_call = Acceptance
awaits_of in_collision = Acceptance
awaits_of in_reset = ResetConfirmation
awaits_of in_clear = ClearConfirmation
awaits_of in_interrupt = InterruptConfirmation

pub record IsKind (x : Circuit) : Type 0 where
  pub kind : Kind
  pub is : x.state ≡ state_of kind
  pub awaits : awaited_by x ≡ awaits_of kind

none_low : {A : Type 0} (n : ℕ) → suc n ≤ 0 → A
none_low n low = absurd (omega (arith, low))

pub kind_of : (x : Circuit) (n : ℕ) → suc n ≤ rank_in (awaited_by x) → IsKind x
kind_of x n high = at x.state x.talk.int_out refl refl high
  where
    awaits : (s : State) (out : Bool) → x.state ≡ s → x.talk.int_out ≡ out → awaited_by x ≡ awaited_in s out
    awaits s out is is_out = ap (λ (r : State). awaited_in r x.talk.int_out) is ∙ ap (awaited_in s) is_out

    at : (s : State) (out : Bool) → x.state ≡ s → x.talk.int_out ≡ out → suc n ≤ rank_in (awaited_in s out) → IsKind x
    at Calling out is is_out low = record { kind = in_call; is = is; awaits = awaits Calling out is is_out }
    at Collision out is is_out low = record { kind = in_collision; is = is; awaits = awaits Collision out is is_out }
    at Resetting out is is_out low = record { kind = in_reset; is = is; awaits = awaits Resetting out is is_out }
    at Clearing out is is_out low = record { kind = in_clear; is = is; awaits = awaits Clearing out is is_out }
    at Open true is is_out low = record { kind = in_interrupt; is = is; awaits = awaits Open true is is_out }
    at Open false is is_out low = none_low n low
    at Free out is is_out low = none_low n low
    at Arriving out is is_out low = none_low n low

-- ---- a circuit: what is awaited of it, what is awaited then, and what is said there

-- it is left for another answer, or what was awaited is answered
abbrev Ends : Awaits → Circuit → List Said → Type 0
Ends awaits y said = ((2 ≤ rank_in (awaited_by y)) × (list_any leaves_in said ≡ true)) ⊎ (list_any (is_answer_in awaits) said ≡ true)

abbrev Next : Awaits → Circuit → List Said → Type 0
Next awaits y said = (awaited_by y ≡ awaits) ⊎ ((rank_in (awaited_by y) < rank_in awaits) × (is_call (awaited_by y) ≡ false) × Ends awaits y said)

abbrev told : List PlainNotice → List Said
told notices = map (λ (notice : PlainNotice). Told notice) notices

abbrev AnswerNext : Awaits → Answer → Type 0
AnswerNext awaits a = Next awaits a.next (told a.notices)

by_if : (awaits : Awaits) (b : Bool) (u v : Answer) → AnswerNext awaits u → AnswerNext awaits v
    → (let a : Answer = if b then u else v in AnswerNext awaits a)
by_if awaits true u v p q = p
by_if awaits false u v p q = q

module _ (c : CircuitSettings) (x : Circuit) where
  -- an error of procedure: it is cleared
  unexpected_next : (k : Kind) → AnswerNext (awaits_of k) (table.unexpected c x (state_of k))
  unexpected_next in_call = inr (omega arith, refl, inl (omega arith, refl))
  unexpected_next in_collision = inr (omega arith, refl, inl (omega arith, refl))
  unexpected_next in_reset = inr (omega arith, refl, inl (omega arith, refl))
  unexpected_next in_clear = inl refl
  unexpected_next in_interrupt = inr (omega arith, refl, inl (omega arith, refl))

  -- or reset
  resets_next : (diagnostic : ℕ) → AnswerNext InterruptConfirmation (table.resets_for c x diagnostic)
  resets_next diagnostic = inr (omega arith, refl, inl (omega arith, refl))

  collision_next : (r : Role) (request : CallRequest) → AnswerNext Acceptance (table.collides r x request)
  collision_next Dte request = inl refl
  collision_next Dce request = inr (omega arith, refl, inr refl)

  call_next : (k : Kind) → awaited_by x ≡ awaits_of k → (request : CallRequest) → AnswerNext (awaits_of k) (table.row_call c x (state_of k) request)
  call_next in_call awaits request = collision_next c.role request
  call_next in_collision awaits request = unexpected_next in_collision
  call_next in_reset awaits request = unexpected_next in_reset
  call_next in_clear awaits request = inl awaits
  call_next in_interrupt awaits request = unexpected_next in_interrupt

  connects_next : (answered : Params) → AnswerNext Acceptance (table.connects c x answered)
  connects_next answered = by_if Acceptance (may_answer x.params answered) (table.goes x Open answered true None (connected answered ∷ []))
      (table.clears_for c x 3 66) (inr (omega arith, refl, inr refl)) (inr (omega arith, refl, inl (omega arith, refl)))

  accept_next : (k : Kind) → awaited_by x ≡ awaits_of k → (facilities : List ℕ)
      → AnswerNext (awaits_of k) (table.row_accept c x (state_of k) facilities)
  accept_next in_call awaits facilities = connects_next (said_in x.params facilities)
  accept_next in_collision awaits facilities = connects_next (said_in x.params facilities)
  accept_next in_reset awaits facilities = unexpected_next in_reset
  accept_next in_clear awaits facilities = inl awaits
  accept_next in_interrupt awaits facilities = unexpected_next in_interrupt

  clear_next : (k : Kind) (cause diagnostic : ℕ) → AnswerNext (awaits_of k) (table.row_clear x (state_of k) cause diagnostic)
  clear_next in_call cause diagnostic = inr (omega arith, refl, inr refl)
  clear_next in_collision cause diagnostic = inr (omega arith, refl, inr refl)
  clear_next in_reset cause diagnostic = inr (omega arith, refl, inr refl)
  clear_next in_clear cause diagnostic = inr (omega arith, refl, inr refl)
  clear_next in_interrupt cause diagnostic = inr (omega arith, refl, inr refl)

  clear_conf_next : (k : Kind) → AnswerNext (awaits_of k) (table.row_clear_conf c x (state_of k))
  clear_conf_next in_call = unexpected_next in_call
  clear_conf_next in_collision = unexpected_next in_collision
  clear_conf_next in_reset = unexpected_next in_reset
  clear_conf_next in_clear = inr (omega arith, refl, inr refl)
  clear_conf_next in_interrupt = unexpected_next in_interrupt

  reset_next : (k : Kind) → awaited_by x ≡ awaits_of k → (cause diagnostic : ℕ)
      → AnswerNext (awaits_of k) (table.row_reset c x (state_of k) cause diagnostic)
  reset_next in_call awaits cause diagnostic = unexpected_next in_call
  reset_next in_collision awaits cause diagnostic = unexpected_next in_collision
  reset_next in_reset awaits cause diagnostic = inr (omega arith, refl, inr refl)
  reset_next in_clear awaits cause diagnostic = inl awaits
  reset_next in_interrupt awaits cause diagnostic = inr (omega arith, refl, inr refl)

  reset_conf_next : (k : Kind) → awaited_by x ≡ awaits_of k → AnswerNext (awaits_of k) (table.row_reset_conf c x (state_of k))
  reset_conf_next in_call awaits = unexpected_next in_call
  reset_conf_next in_collision awaits = unexpected_next in_collision
  reset_conf_next in_reset awaits = inr (omega arith, refl, inr refl)
  reset_conf_next in_clear awaits = inl awaits
  reset_conf_next in_interrupt awaits = resets_next 27

  -- of an interrupt in p4 with d1
  module _ (is : x.state ≡ Open) (awaits : awaited_by x ≡ InterruptConfirmation) where
    unless_next : (ground : Option ℕ) (good : Answer) → AnswerNext InterruptConfirmation good
        → AnswerNext InterruptConfirmation (table.unless c x ground good)
    unless_next None good next = next
    unless_next (Some diagnostic) good next = resets_next diagnostic

    confirms_next : (out : Bool) → AnswerNext InterruptConfirmation (table.confirms c x x.talk out)
    confirms_next true =
        let low : rank_in (awaited_in x.state false) < 5 = subst (λ (s : State). rank_in (awaited_in s false) < 5) (sym is) (omega arith) in
        inr (low, subst (λ (s : State). is_call (awaited_in s false) ≡ false) (sym is) refl, inr refl)
    confirms_next false = resets_next 43

    open_next : (packet : PlainPacket) → AnswerNext InterruptConfirmation (table.row_open c x x.talk packet)
    open_next (user_data channel marks m ps pr user) =
        unless_next (table.data_ground c.longest (incoming x).size x.talk ps pr (piece_of marks m user)) _ (inl awaits)
    open_next (rr channel pr) = unless_next (table.number_ground x.talk pr) _ (inl awaits)
    open_next (rnr channel pr) = unless_next (table.number_ground x.talk pr) _ (inl awaits)
    open_next (interrupt channel user) = inl awaits
    open_next (interrupt_conf channel) = confirms_next x.talk.int_out
    open_next packet = inl awaits

  data_next : (k : Kind) → x.state ≡ state_of k → awaited_by x ≡ awaits_of k → (packet : PlainPacket)
      → AnswerNext (awaits_of k) (table.row_data c x (state_of k) packet)
  data_next in_call is awaits packet = unexpected_next in_call
  data_next in_collision is awaits packet = unexpected_next in_collision
  data_next in_reset is awaits packet = inl awaits
  data_next in_clear is awaits packet = inl awaits
  data_next in_interrupt is awaits packet = open_next is awaits packet

  undecoded_next : (k : Kind) → awaited_by x ≡ awaits_of k → (e : PacketError) → AnswerNext (awaits_of k) (table.row_undecoded c x (state_of k) e)
  undecoded_next in_call awaits e = inr (omega arith, refl, inl (omega arith, refl))
  undecoded_next in_collision awaits e = inr (omega arith, refl, inl (omega arith, refl))
  undecoded_next in_reset awaits e = inl awaits
  undecoded_next in_clear awaits e = inl awaits
  undecoded_next in_interrupt awaits e = resets_next (diagnostic_of e)

  -- the row of the state in which it is
  by_row : (row : State → Answer) (k : IsKind x) → AnswerNext (awaits_of k.kind) (row (state_of k.kind)) → AnswerNext (awaited_by x) (row x.state)
  by_row row k next = subst (λ (awaits : Awaits). AnswerNext awaits (row x.state)) (sym k.awaits)
      (subst (λ (s : State). AnswerNext (awaits_of k.kind) (row s)) (sym k.is) next)

  hears_next : IsKind x → (packet : PlainPacket) → AnswerNext (awaited_by x) (answers c x packet)
  hears_next k (call channel called calling facilities user) =
      by_row (λ s. table.row_call c x s (table.request_in called calling facilities user)) k (call_next k.kind k.awaits _)
  hears_next k (accept channel facilities) = by_row (λ s. table.row_accept c x s facilities) k (accept_next k.kind k.awaits facilities)
  hears_next k (clear channel cause diagnostic) = by_row (λ s. table.row_clear x s cause diagnostic) k (clear_next k.kind cause diagnostic)
  hears_next k (clear_conf channel) = by_row (λ s. table.row_clear_conf c x s) k (clear_conf_next k.kind)
  hears_next k (reset channel cause diagnostic) = by_row (λ s. table.row_reset c x s cause diagnostic) k (reset_next k.kind k.awaits cause diagnostic)
  hears_next k (reset_conf channel) = by_row (λ s. table.row_reset_conf c x s) k (reset_conf_next k.kind k.awaits)
  hears_next k (restart cause diagnostic) = inl refl
  hears_next k restart_conf = inl refl
  hears_next k packet = by_row (λ s. table.row_data c x s packet) k (data_next k.kind k.is k.awaits _)

  cannot_read : IsKind x → (e : PacketError) → AnswerNext (awaited_by x) (undecoded c x e)
  cannot_read k e = by_row (λ s. table.row_undecoded c x s e) k (undecoded_next k.kind k.awaits e)

-- ---- what its user asks: nothing is accepted but that it be cleared, and of an interrupt that it be reset, and what
-- leaves it as it is

abbrev OutcomeNext : Awaits → List Said → CircuitOutcome → Type 0
OutcomeNext awaits said (Done next packet) = Next awaits next said
OutcomeNext awaits said (CircuitRefused e) = Unit {0}

module _ (c : CircuitSettings) (x : Circuit) (said : List Said) where
  no_call : (called calling user : List ℕ) (proposal : Proposal) (k : Kind)
      → OutcomeNext (awaits_of k) said (call_in c x (state_of k) called calling user proposal)
  no_call called calling user proposal in_call = tt
  no_call called calling user proposal in_collision = tt
  no_call called calling user proposal in_reset = tt
  no_call called calling user proposal in_clear = tt
  no_call called calling user proposal in_interrupt = tt

  no_acceptance : (answer : Option Proposal) (k : Kind) → OutcomeNext (awaits_of k) said (accept_in x (state_of k) answer)
  no_acceptance answer in_call = tt
  no_acceptance answer in_collision = tt
  no_acceptance answer in_reset = tt
  no_acceptance answer in_clear = tt
  no_acceptance answer in_interrupt = tt

  given : (awaits : Awaits) (b : Bool) (u v : CircuitOutcome) → OutcomeNext awaits said u → OutcomeNext awaits said v
      → OutcomeNext awaits said (if b then u else v)
  given awaits true u v next other = next
  given awaits false u v next other = other

  cleared : (cause diagnostic : ℕ) → list_any leaves_in said ≡ true → (k : Kind)
      → OutcomeNext (awaits_of k) said (clear_in c x (state_of k) cause diagnostic)
  cleared cause diagnostic is in_call = given Acceptance (may_clear_for c.role cause) _ _ (inr (omega arith, refl, inl (omega arith, is))) tt
  cleared cause diagnostic is in_collision = given Acceptance (may_clear_for c.role cause) _ _ (inr (omega arith, refl, inl (omega arith, is))) tt
  cleared cause diagnostic is in_reset = given ResetConfirmation (may_clear_for c.role cause) _ _ (inr (omega arith, refl, inl (omega arith, is))) tt
  cleared cause diagnostic is in_clear = tt
  cleared cause diagnostic is in_interrupt = given InterruptConfirmation (may_clear_for c.role cause) _ _ (inr (omega arith, refl, inl (omega arith, is))) tt

  was_reset_by : (cause diagnostic : ℕ) → list_any leaves_in said ≡ true → (k : Kind)
      → OutcomeNext (awaits_of k) said (reset_in c x (state_of k) cause diagnostic)
  was_reset_by cause diagnostic is in_call = tt
  was_reset_by cause diagnostic is in_collision = tt
  was_reset_by cause diagnostic is in_reset = tt
  was_reset_by cause diagnostic is in_clear = tt
  was_reset_by cause diagnostic is in_interrupt =
      given InterruptConfirmation (may_reset_for c.role cause) _ _ (inr (omega arith, refl, inl (omega arith, is))) tt

  message_waits : (q : Marks) (user : List ℕ) (k : Kind) → awaited_by x ≡ awaits_of k → OutcomeNext (awaits_of k) said (send_in c x (state_of k) q user)
  message_waits q user in_call awaits = tt
  message_waits q user in_collision awaits = tt
  message_waits q user in_reset awaits = tt
  message_waits q user in_clear awaits = tt
  message_waits q user in_interrupt awaits =
      given InterruptConfirmation (nat_le (length user) c.longest) _ _
      (given InterruptConfirmation (nat_lt (waits x) 8) _ _ (inl awaits) tt) tt

  one_interrupt : (user : List ℕ) (k : Kind) → x.state ≡ state_of k → OutcomeNext (awaits_of k) said (interrupt_in x (state_of k) user)
  one_interrupt user in_call is = tt
  one_interrupt user in_collision is = tt
  one_interrupt user in_reset is = tt
  one_interrupt user in_clear is = tt
  one_interrupt user in_interrupt is =
      let out : awaited_in x.state true ≡ InterruptConfirmation = ap (λ (s : State). awaited_in s true) is in
      given InterruptConfirmation (nat_le 1 (length user) && nat_le (length user) 32) _ _
      (given InterruptConfirmation x.talk.int_out _ _ tt (inl out)) tt

  ready_said : (ready : Bool) (k : Kind) → awaited_by x ≡ awaits_of k → OutcomeNext (awaits_of k) said (ready_in x (state_of k) ready)
  ready_said ready in_call awaits = tt
  ready_said ready in_collision awaits = tt
  ready_said ready in_reset awaits = tt
  ready_said ready in_clear awaits = tt
  ready_said ready in_interrupt awaits = inl awaits

  asked : (row : State → CircuitOutcome) (k : IsKind x) → OutcomeNext (awaits_of k.kind) said (row (state_of k.kind))
      → OutcomeNext (awaited_by x) said (row x.state)
  asked row k next = subst (λ (awaits : Awaits). OutcomeNext awaits said (row x.state)) (sym k.awaits)
      (subst (λ (s : State). OutcomeNext (awaits_of k.kind) said (row s)) (sym k.is) next)

  calls_next : IsKind x → (called calling user : List ℕ) (proposal : Proposal)
      → OutcomeNext (awaited_by x) said (outcome c x (Calls called calling user proposal))
  calls_next k called calling user proposal = asked (λ s. call_in c x s called calling user proposal) k (no_call called calling user proposal k.kind)

-- as it is shown beside a circuit
abbrev says : Circuit → Request → List Said
says y request = Asked (shown y request) ∷ []

asks_next : (c : CircuitSettings) (x y : Circuit) → IsKind x → (request : Request) → OutcomeNext (awaited_by x) (says y request) (outcome c x request)
asks_next c x y k (Calls called calling user proposal) = calls_next c x (says y (Calls called calling user proposal)) k called calling user proposal
asks_next c x y k (Accepts answer) = let said = says y (Accepts answer) in asked c x said (λ s. accept_in x s answer) k (no_acceptance c x said answer k.kind)
asks_next c x y k (Clears cause diagnostic) = let said = says y (Clears cause diagnostic) in
    asked c x said (λ s. clear_in c x s cause diagnostic) k (cleared c x said cause diagnostic refl k.kind)
asks_next c x y k (Sends q user) = let said = says y (Sends q user) in
    asked c x said (λ s. send_in c x s q user) k (message_waits c x said q user k.kind k.awaits)
asks_next c x y k (Interrupts user) = let said = says y (Interrupts user) in
    asked c x said (λ s. interrupt_in x s user) k (one_interrupt c x said user k.kind k.is)
asks_next c x y k (Resets cause diagnostic) = let said = says y (Resets cause diagnostic) in
    asked c x said (λ s. reset_in c x s cause diagnostic) k (was_reset_by c x said cause diagnostic refl k.kind)
asks_next c x y k SaysReady = let said = says y SaysReady in asked c x said (λ s. ready_in x s true) k (ready_said c x said true k.kind k.awaits)
asks_next c x y k SaysNotReady = let said = says y SaysNotReady in asked c x said (λ s. ready_in x s false) k (ready_said c x said false k.kind k.awaits)

-- ---- what is said on a channel, by entries

record AreSaid (h : ℕ) (said : List Said) (entries : List StationEntry) : Type 0 where
  leaves : list_any leaves_in said ≡ true → list_any (is_left_on h) entries ≡ true
  answers : (awaits : Awaits) → list_any (is_answer_in awaits) said ≡ true → list_any (is_answered_on h awaits) entries ≡ true

left_told : (l : Layer) (h : ℕ) (notices : List PlainNotice) → list_any (is_left_on h) (station_told l (notices_on h notices))
    ≡ list_any leaves_in (told notices)
left_told l h [] = refl
left_told l h (notice ∷ notices) =
    ap (λ (b : Bool). (b && leaves_in (Told notice)) || list_any (is_left_on h) (station_told l (notices_on h notices))) (eq-eqb h h refl)
    ∙ ap (λ (b : Bool). leaves_in (Told notice) || b) (left_told l h notices)

answered_told : (l : Layer) (h : ℕ) (awaits : Awaits) (notices : List PlainNotice) → list_any (is_answered_on h awaits) (station_told l (notices_on h notices))
    ≡ list_any (is_answer_in awaits) (told notices)
answered_told l h awaits [] = refl
answered_told l h awaits (notice ∷ notices) =
    ap (λ (b : Bool). (b && is_answer awaits notice) || list_any (is_answered_on h awaits) (station_told l (notices_on h notices))) (eq-eqb h h refl)
    ∙ ap (λ (b : Bool). is_answer awaits notice || b) (answered_told l h awaits notices)

all_told : (l : Layer) (h : ℕ) (notices : List PlainNotice) → AreSaid h (told notices) (station_told l (notices_on h notices))
all_told l h notices = record { leaves = λ is. left_told l h notices ∙ is; answers = λ awaits is. answered_told l h awaits notices ∙ is }

one_asked : (h : ℕ) (name : Name) (request : Request)
    → AreSaid h (Asked request ∷ []) (of_channel (record { channel = h; name = name; said = Asked request }) ∷ [])
one_asked h name request = record {
  leaves = λ is. ap (λ (b : Bool). (b && leaves_in (Asked request)) || false) (eq-eqb h h refl) ∙ is;
  answers = λ awaits is. absurd (true≢false (sym is));
}

none_said : (h : ℕ) (entries : List StationEntry) → AreSaid h [] entries
none_said h entries = record { leaves = λ is. absurd (true≢false (sym is)); answers = λ awaits is. absurd (true≢false (sym is)) }

-- ---- a layer: whether a restart is under way, and what is awaited on a channel, which is configured or not

abbrev pub awaits_on : Bool → Awaits → Awaits
awaits_on b awaits = if b then awaits else Nothing

-- the entries tell that it is left for another, or answered
abbrev pub EndsOn : ℕ → Awaits → ℕ → List StationEntry → Type 0
EndsOn h awaits left entries = ((2 ≤ left) × (list_any (is_left_on h) entries ≡ true)) ⊎ (list_any (is_answered_on h awaits) entries ≡ true)

abbrev Moves : ℕ → Bool → Bool → Awaits → Bool → Awaits → List StationEntry → Type 0
Moves h b r a r' a' entries = ((r' ≡ r) × (awaits_on b a' ≡ awaits_on b a))
    ⊎ ((rank_of Up r' (awaits_on b a') < rank_of Up r (awaits_on b a)) × (is_call (awaits_on b a') ≡ false)
    × EndsOn h (awaits_on b a) (rank_of Up r' (awaits_on b a')) entries)

abbrev pub LayerMoves : LayerSettings → ℕ → Layer → Layer → List StationEntry → Type 0
LayerMoves c h l m entries =
    Moves h (is_channel c.channels h) l.restarting (awaited_by (l.circuits h)) m.restarting (awaited_by (m.circuits h)) entries

circuit_moves : (h : ℕ) (b : Bool) (x y : Circuit) (said : List Said) (entries : List StationEntry) → 2 ≤ rank_of Up false (awaits_on b (awaited_by x))
    → AreSaid h said entries → (IsKind x → Next (awaited_by x) y said) → Moves h b false (awaited_by x) false (awaited_by y) entries
circuit_moves h false x y said entries high are next = inl (refl, refl)
circuit_moves h true x y said entries high are next = from (next (kind_of x 1 high))
  where
    ended : Ends (awaited_by x) y said → EndsOn h (awaited_by x) (rank_in (awaited_by y)) entries
    ended (inl z) = inl (z.0, are.leaves z.1)
    ended (inr is) = inr (are.answers (awaited_by x) is)

    from : Next (awaited_by x) y said → Moves h true false (awaited_by x) false (awaited_by y) entries
    from (inl e) = inl (refl, e)
    from (inr z) = inr (z.0, z.1, ended z.2)

-- a restart is done, or begins
restarted_moves : (h : ℕ) (b r : Bool) (a : Awaits) (entries : List StationEntry) → 2 ≤ rank_of Up r (awaits_on b a)
    → list_any (is_answered_on h (awaits_on b a)) entries ≡ true → Moves h b r a false Nothing entries
restarted_moves h false r a entries high is = inr (omega (arith, high), refl, inr is)
restarted_moves h true r a entries high is = inr (omega (arith, high), refl, inr is)

above : (a : Awaits) → 2 ≤ rank_in a → 2 < rank_in a
above Nothing high = absurd (none_low 1 high)
above a high = omega arith

restarting_moves : (h : ℕ) (b : Bool) (a : Awaits) (entries : List StationEntry) → 2 ≤ rank_of Up false (awaits_on b a) → list_any (is_left_on h) entries
    ≡ true → Moves h b false a true Nothing entries
restarting_moves h false a entries high is = none_low 1 high
restarting_moves h true a entries high is = inr (above a high, refl, inl (omega arith, is))

module _ (c : LayerSettings) (h : ℕ) where
  abbrev configured : Bool
  configured = is_channel c.channels h

  abbrev IsHigh : Bool → (ℕ → Circuit) → Type 0
  IsHigh r circuits = 2 ≤ rank_of Up r (awaits_on configured (awaited_by (circuits h)))

  -- the circuit of a channel becomes another
  put_moves : (circuits : ℕ → Circuit) (k : ℕ) (next : Circuit) (said : List Said) (entries : List StationEntry) → IsHigh false circuits
      → AreSaid k said entries → (IsKind (circuits k) → Next (awaited_by (circuits k)) next said)
      → Moves h configured false (awaited_by (circuits h)) false (awaited_by (put_at circuits k next h)) entries
  put_moves circuits k next said entries high are moved = test (h == k) refl
    where
      test : (b : Bool) → (h == k) ≡ b
          → (let x : Circuit = if b then next else circuits h in Moves h configured false (awaited_by (circuits h)) false (awaited_by x) entries)
      test true is =
          let at_h : k ≡ h = sym (eqb-true h k is) in
          circuit_moves h configured (circuits h) next said entries high (subst (λ (n : ℕ). AreSaid n said entries) at_h are)
          (subst (λ (n : ℕ). IsKind (circuits n) → Next (awaited_by (circuits n)) next said) at_h moved)
      test false is = inl (refl, refl)

  -- ---- what comes

  abbrev AnswerMoves : Bool → (ℕ → Circuit) → LayerAnswer → Type 0
  AnswerMoves r circuits a =
      Moves h configured r (awaited_by (circuits h)) a.next.restarting (awaited_by (a.next.circuits h)) (station_told a.next a.notices)

  on_moves : (restarts : ℕ) (circuits : ℕ → Circuit) (k : ℕ) (a : Answer) (b : Bool) → IsHigh false circuits
      → (IsKind (circuits k) → AnswerNext (awaited_by (circuits k)) a)
      → (let x : LayerAnswer = if b then answers_on restarts circuits k a else drops false restarts circuits in AnswerMoves false circuits x)
  on_moves restarts circuits k a true high moved =
      let next : Layer = is_ready restarts (put_at circuits k a.next) in
      put_moves circuits k a.next (told a.notices) (station_told next (notices_on k a.notices)) high (all_told next k a.notices) moved
  on_moves restarts circuits k a false high moved = inl (refl, refl)

  channel_moves : (restarts : ℕ) (circuits : ℕ → Circuit) (packet : PlainPacket) → IsHigh false circuits
      → (let k : ℕ = channel_of packet in let x : LayerAnswer = if is_channel c.channels k
      then answers_on restarts circuits k (answers c.circuit (circuits k) packet) else drops false restarts circuits in
      AnswerMoves false circuits x)
  channel_moves restarts circuits packet high =
      let k : ℕ = channel_of packet in
      on_moves restarts circuits k (answers c.circuit (circuits k) packet) (is_channel c.channels k) high (λ is. hears_next c.circuit (circuits k) is packet)

  ready_moves : (restarts : ℕ) (circuits : ℕ → Circuit) (packet : PlainPacket) → IsHigh false circuits
      → AnswerMoves false circuits (answers_ready c restarts circuits packet)
  ready_moves restarts circuits (restart cause diagnostic) high =
      restarted_moves h configured false (awaited_by (circuits h)) (was_restarted cause diagnostic ∷ []) high refl
  ready_moves restarts circuits restart_conf high = restarting_moves h configured (awaited_by (circuits h)) (at_fault 17 ∷ []) high refl
  ready_moves restarts circuits packet high = channel_moves restarts circuits packet high

  held_moves : (restarts : ℕ) (circuits : ℕ → Circuit) (packet : PlainPacket) → IsHigh true circuits
      → AnswerMoves true circuits (answers_restarting restarts circuits packet)
  held_moves restarts circuits (restart cause diagnostic) high =
      restarted_moves h configured true (awaited_by (circuits h)) (was_restarted cause diagnostic ∷ []) high refl
  held_moves restarts circuits restart_conf high = restarted_moves h configured true (awaited_by (circuits h)) (restart_confirmed ∷ []) high refl
  held_moves restarts circuits packet high = inl (refl, refl)

  packet_moves : (r : Bool) (restarts : ℕ) (circuits : ℕ → Circuit) (packet : PlainPacket) → IsHigh r circuits
      → AnswerMoves r circuits (answers_in c r restarts circuits packet)
  packet_moves true restarts circuits packet high = held_moves restarts circuits packet high
  packet_moves false restarts circuits packet high = ready_moves restarts circuits packet high

  undecoded_moves : (r : Bool) (restarts : ℕ) (circuits : ℕ → Circuit) (k : ℕ) (e : PacketError) → IsHigh r circuits
      → AnswerMoves r circuits (undecoded_in c r restarts circuits k e)
  undecoded_moves true restarts circuits k e high = inl (refl, refl)
  undecoded_moves false restarts circuits k e high =
      on_moves restarts circuits k (undecoded c.circuit (circuits k) e) (is_channel c.channels k) high (λ is. cannot_read c.circuit (circuits k) is e)

  pub answer_moves : (l : Layer) (octets : List ℕ) (read : Result PlainPacket PacketError) → IsHigh l.restarting l.circuits
      → (let a : LayerAnswer = answer_to c l octets read in LayerMoves c h l a.next (station_told a.next a.notices))
  answer_moves l octets (Ok packet) high = packet_moves l.restarting l.restarts l.circuits packet high
  answer_moves l octets (Err e) high = on (channel_in octets)
    where
      on : (o : Option ℕ) → (let a : LayerAnswer = undecoded_at c l e o in LayerMoves c h l a.next (station_told a.next a.notices))
      on None = inl (refl, refl)
      on (Some k) = undecoded_moves l.restarting l.restarts l.circuits k e high

  -- ---- what the user asks

  abbrev pub OutcomeMoves : Bool → Layer → LayerRequest → LayerOutcome → Type 0
  OutcomeMoves r l request (Accepted next packet) = Moves h configured r (awaited_by (l.circuits h)) next.restarting (awaited_by (next.circuits h))
      (station_asked c l next request)
  OutcomeMoves r l request (Declined e) = Unit {0}

  module _ (l : Layer) (request : LayerRequest) where
    room_moves : (full : Bool) (o : LayerOutcome) → OutcomeMoves false l request o → OutcomeMoves false l request (where_room full o)
    room_moves true o moved = tt
    room_moves false o moved = moved

    at_once_moves : (once full : Bool) (o : LayerOutcome) → OutcomeMoves false l request o → OutcomeMoves false l request (if_at_once once full o)
    at_once_moves true full o moved = room_moves full o moved
    at_once_moves false full o moved = moved

    if_moves : (b : Bool) (u v : LayerOutcome) → OutcomeMoves false l request u → OutcomeMoves false l request v
        → OutcomeMoves false l request (if b then u else v)
    if_moves true u v p q = p
    if_moves false u v p q = q

    -- the circuit of a channel does what is asked, and this is said there
    on_asked : (k : ℕ) (said : Layer → List Said) (o : CircuitOutcome) → IsHigh false l.circuits
        → ((next : Layer) → AreSaid k (said next) (station_asked c l next request))
        → (IsKind (l.circuits k) → (next : Layer) → OutcomeNext (awaited_by (l.circuits k)) (said next) o)
        → OutcomeMoves false l request (outcome_on l.restarts l.circuits k o)
    on_asked k said (Done next packet) high are moved =
        let m : Layer = is_ready l.restarts (put_at l.circuits k next) in
        put_moves l.circuits k next (said m) (station_asked c l m request) high (are m) (λ is. moved is m)
    on_asked k said (CircuitRefused e) high are moved = tt

  ready_asked : (full : Bool) (l : Layer) (request : LayerRequest) → IsHigh false l.circuits
      → OutcomeMoves false l request (outcome_ready c full l.restarts l.circuits request)
  ready_asked full l (Asks k request) high =
      let asks : LayerRequest = Asks k request in
      if_moves l asks (is_channel c.channels k) _ (Declined error.NoSuchChannel)
      (at_once_moves l asks (puts_at_once request) full _
      (on_asked l asks k (λ next. says (next.circuits k) request) (outcome c.circuit (l.circuits k) request) high
      (λ next. one_asked k (name_of next k) (shown (next.circuits k) request))
      (λ is next. asks_next c.circuit (l.circuits k) (next.circuits k) is request))) tt
  ready_asked full l (Dials called calling user proposal) high = on (free_channel c.circuit.role l.circuits c.channels)
    where
      dials : LayerRequest
      dials = Dials called calling user proposal

      on : (o : Option ℕ) → OutcomeMoves false l dials (dialled c full l.restarts l.circuits o called calling user proposal)
      on None = tt
      on (Some k) =
          let o : CircuitOutcome = outcome c.circuit (l.circuits k) (Calls called calling user proposal) in
          room_moves l dials full (outcome_on l.restarts l.circuits k o)
          (on_asked l dials k (λ next. []) o high (λ next. none_said k (station_asked c l next dials))
          (λ is next. calls_next c.circuit (l.circuits k) [] is called calling user proposal))
  ready_asked full l (Restarts cause diagnostic) high =
      let restarts : LayerRequest = Restarts cause diagnostic in
      room_moves l restarts full (restarted_for c.circuit.role l.restarts l.circuits cause diagnostic)
      (if_moves l restarts (may_restart_for c.circuit.role cause) (Accepted (restarting_from l.restarts l.circuits) (Some (restart cause diagnostic)))
      (Declined (error.Circuit circuit_error.BadParameter))
      (restarting_moves h configured (awaited_by (l.circuits h)) (restart_asked cause diagnostic ∷ []) high refl) tt)
  ready_asked full l PullsAll high = inl (refl, refl)

  in_asked : (full r : Bool) (l : Layer) (request : LayerRequest) → IsHigh r l.circuits
      → OutcomeMoves r l request (outcome_in c full r l.restarts l.circuits request)
  in_asked full true l request high = tt
  in_asked full false l request high = ready_asked full l request high

  pub asked_moves : (full : Bool) (l : Layer) (request : LayerRequest) → IsHigh l.restarting l.circuits
      → OutcomeMoves l.restarting l request (layer_outcome c full l request)
  asked_moves full l request high = in_asked full l.restarting l request high

-- ---- pulls change nothing that is awaited

abbrev pub SameAwaited : Layer → Layer → Type 0
SameAwaited l m = (m.restarting ≡ l.restarting) × ((k : ℕ) → awaited_by (m.circuits k) ≡ awaited_by (l.circuits k))

same_state : (s : State) (b : Bool) (u v : Pulled) → u.next.state ≡ s → v.next.state ≡ s → (let p : Pulled = if b then u else v in p.next.state) ≡ s
same_state s true u v p q = p
same_state s false u v p q = q

same_out : (out b : Bool) (u v : Pulled) → u.next.talk.int_out ≡ out → v.next.talk.int_out ≡ out
    → (let p : Pulled = if b then u else v in p.next.talk.int_out) ≡ out
same_out out true u v p q = p
same_out out false u v p q = q

pulled_awaits : (c : CircuitSettings) (x : Circuit) → awaited_by (pulled c x).next ≡ awaited_by x
pulled_awaits c x = both (pulled c x).next (at x.state) (out_at x.state)
  where
    both : (y : Circuit) → y.state ≡ x.state → y.talk.int_out ≡ x.talk.int_out → awaited_by y ≡ awaited_by x
    both y state out = ap (λ (s : State). awaited_in s y.talk.int_out) state ∙ ap (awaited_in x.state) out

    open_state : (pieces : List Piece) → (pull_open c x x.talk pieces).next.state ≡ x.state
    open_state [] = refl
    open_state (p ∷ pieces) = same_state x.state _ _ _ refl refl

    open_out : (pieces : List Piece) → (pull_open c x x.talk pieces).next.talk.int_out ≡ x.talk.int_out
    open_out [] = refl
    open_out (p ∷ pieces) = same_out x.talk.int_out _ _ _ refl refl

    at : (s : State) → (pull_in c x s).next.state ≡ x.state
    at Open = open_state x.talk.rest
    at s = refl

    out_at : (s : State) → (pull_in c x s).next.talk.int_out ≡ x.talk.int_out
    out_at Open = open_out x.talk.rest
    out_at s = refl

pulled_same : (c : LayerSettings) (l : Layer) (h : ℕ) → SameAwaited l (layer_pulled c l h).next
pulled_same c l h = (refl, λ k. test k (k == h) refl)
  where
    test : (k : ℕ) (b : Bool) → (k == h) ≡ b → (let x : Circuit = if b then (pulled c.circuit (l.circuits h)).next else l.circuits k in awaited_by x)
        ≡ awaited_by (l.circuits k)
    test k true is = pulled_awaits c.circuit (l.circuits h) ∙ ap (λ (n : ℕ). awaited_by (l.circuits n)) (sym (eqb-true k h is))
    test k false is = refl

same_trans : (l m n : Layer) → SameAwaited l m → SameAwaited m n → SameAwaited l n
same_trans l m n p q = (q.0 ∙ p.0, λ k. q.1 k ∙ p.1 k)

one_same : (link : LinkView) (c : LayerSettings) (h : ℕ) (s : Putting) → SameAwaited s.layer (pull_one link c h s).layer
one_same link c h s = test (nat_lt (link.waits s.put) 8)
  where
    given : (o : Option PlainPacket) → SameAwaited s.layer (with_pulled h s (layer_pulled c s.layer h) o).layer
    given None = (refl, λ k. refl)
    given (Some packet) = pulled_same c s.layer h

    test : (b : Bool) → (let n : Putting = if b then with_pulled h s (layer_pulled c s.layer h) (layer_pulled c s.layer h).packet else s in
        SameAwaited s.layer n.layer)
    test true = given (layer_pulled c s.layer h).packet
    test false = (refl, λ k. refl)

round_same : (link : LinkView) (c : LayerSettings) (b n : ℕ) (s : Putting) → SameAwaited s.layer (round link c b n s).layer
round_same link c b zero s = (refl, λ k. refl)
round_same link c b (suc n) s =
    same_trans s.layer (round link c b n s).layer (pull_one link c (b + suc n) (round link c b n s)).layer (round_same link c b n s)
    (one_same link c (b + suc n) (round link c b n s))

rounds_of_same : (n : ℕ) (link : LinkView) (c : LayerSettings) (s : Putting) → SameAwaited s.layer (rounds_of n link c s).layer
rounds_of_same zero link c s = (refl, λ k. refl)
rounds_of_same (suc n) link c s =
    same_trans s.layer (round link c 0 c.channels.count s).layer (rounds_of n link c (round link c 0 c.channels.count s)).layer
    (round_same link c 0 c.channels.count s) (rounds_of_same n link c (round link c 0 c.channels.count s))

pub rounds_same : (link : LinkView) (c : LayerSettings) (s : Putting) → SameAwaited s.layer (rounds link c s).layer
rounds_same link c s =
    let rest : Putting = rest_of_round link c s in
    same_trans s.layer rest.layer (rounds link c s).layer (round_same link c link.turn (c.channels.count - link.turn) (at_turn link.turn s))
    (rounds_of_same (backlog rest.layer.circuits c.channels.count) link c rest)

pub moves_on : (c : LayerSettings) (h : ℕ) (l m n : Layer) (entries : List StationEntry) → LayerMoves c h l m entries → SameAwaited m n
    → LayerMoves c h l n entries
moves_on c h l m n entries moved same =
    subst (λ (r : Bool). Moves h (is_channel c.channels h) l.restarting (awaited_by (l.circuits h)) r (awaited_by (n.circuits h)) entries) (sym same.0)
    (subst (λ (a : Awaits). Moves h (is_channel c.channels h) l.restarting (awaited_by (l.circuits h)) m.restarting a entries) (sym (same.1 h)) moved)
