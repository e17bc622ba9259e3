-- What a circuit gives fits, and what waits in it is cut into packets that fit.
use Rattle.x25_station.proofs.Names.{◌≡◌, ℕ, zero, suc, ◌+◌, ◌-◌, ◌%◌, ◌<◌, ◌≤◌, List, [], ◌∷◌, ◌++◌, length, take, drop, Option, Some, None, Bool, true, false}
use Rattle.x25_station.proofs.Names.{nat_lt, nat_le, ◌==◌, if◌then◌else◌, refl, sym, subst, arith, and_parts, leb-true, le-leb, length-map, list_all, Role, Dte}
use Rattle.x25_station.proofs.Names.{Dce, Done, Request, Calls, Accepts, Clears, Sends, Interrupts, call_in, accept_in, clear_in, send_in, interrupt_in}
use Rattle.x25_station.proofs.Names.{outcome, Pulled, pull_open, pull_in, pulled, Resets, SaysReady, SaysNotReady, does, is_address_text, may_call, reset_in}
use Rattle.x25_station.proofs.Names.{ready_in, pulls_nothing, data_packet, may_clear_for, CircuitSettings, Talk, Circuit, outgoing, talking, incoming, Piece}
use Rattle.x25_station.proofs.Names.{no_part, joining, piece_of, More, Last, Partial, cut_from, cut, CallRequest, connected, Proposal, default_params}
use Rattle.x25_station.proofs.Names.{may_answer, said_in, field_for, Params, State, Free, Calling, Arriving, Collision, Open, Resetting, Clearing, Asks}
use Rattle.x25_station.proofs.Names.{is_digit, is_figure, IsAddress, IsFacilityField, with_q, restart_conf, PlainPacket, call, accept, clear, clear_conf}
use Rattle.x25_station.proofs.Names.{user_data, rr, rnr, interrupt, interrupt_conf, reset, reset_conf, restart, longest_user, HasChannel, Marks, may_ask}
use Rattle.std.proofs.{Common.{length-drop}, lemmas.Bool.{and_from, leb-false}, lemmas.List.{length-take}, lemmas.List.Elements.{All-take, All-drop}}
use Rattle.std.specs.Prelude.{◌&&◌}
use Rattle.x25_circuit.specs.{Calling.{Outcome, Refused, call_sent, accept_with, clear_with}, Cause.{may_reset_for}, Circuit.{waits}}
use Rattle.x25_circuit.specs.{Message.{may_have_q, ground_of, piece_ground, q_of, user_of}, Params.{may_propose, called_terms, calling_terms}}
use Rattle.x25_circuit.specs.laws.ParamsLaws.{FieldIsAllowed, SaidIsAllowed, AnswerIsAllowed, TermsAreAllowed, AreTerms}
use Rattle.x25_packet.specs.Digits.{digits_of_text}
use Rattle.x25_station.{proofs.FieldLemmas.{Fits}, proofs.Names.{may_mark, AreOctets, resolved}, specs.laws.ReadLaw.{AsksOctets}}
use Rattle.x25_circuit.specs.declared.error.CircuitError.TheVariants as error
use Rattle.x25_circuit.specs.Hearing as table

abbrev marks_of : Piece → Marks
marks_of (More q user) = q
marks_of (Last q user) = q

-- confirmation is asked where packets are read in all their forms
abbrev PieceFits : Bool → Piece → Type 0
PieceFits wide p = (length (user_of p) ≤ 4096) × AreOctets (user_of p) × (may_mark wide (marks_of p) ≡ true)

abbrev pub AreCut : Bool → List Piece → Type 0
AreCut wide [] = Unit {0}
AreCut wide (p ∷ ps) = PieceFits wide p × AreCut wide ps

-- what waits fits, and packet sizes and windows are such as may be proposed
abbrev pub CircuitFits : Bool → Circuit → Type 0
CircuitFits wide x = AreCut wide x.talk.rest × (may_propose x.params ≡ true)

-- what is said of packet sizes and windows stays within bounds
pub record Agreed : Type 0 where
  pub said : SaidIsAllowed
  pub field : FieldIsAllowed
  pub answer : AnswerIsAllowed
  pub terms : TermsAreAllowed

module _ (wide long_data : Bool) where
  abbrev pub MayGive : Option PlainPacket → Type 0
  MayGive None = Unit {0}
  MayGive (Some p) = HasChannel p × Fits wide long_data p

  cut_append : (a b : List Piece) → AreCut wide a → AreCut wide b → AreCut wide (a ++ b)
  cut_append [] b f g = g
  cut_append (p ∷ a) b f g = (f.0, cut_append a b f.1 g)

  cut_from_fits : (size n : ℕ) (q : Marks) (user : List ℕ) → 1 ≤ size → size ≤ 4096 → length user ≤ n → AreOctets user → may_mark wide q ≡ true
      → AreCut wide (cut_from n size q user)
  cut_from_fits size zero q user least most short octets may = ((omega (arith, short), octets, may), tt)
  cut_from_fits size (suc n) q user least most short octets may =
      test (λ low. cut_from_fits size n q (drop size user) least most low (All-drop (λ (o : ℕ). o < 256) size user octets) may) (nat_le (length user) size) refl
    where
      test : (length (drop size user) ≤ n → AreCut wide (cut_from n size q (drop size user))) → (b : Bool) → nat_le (length user) size ≡ b
          → AreCut wide (if b then Last q user ∷ [] else More (with_q q.q) (take size user) ∷ cut_from n size q (drop size user))
      test rest true is =
          let high : length user ≤ size = leb-true _ _ is in
          ((omega (arith, high, most), octets, may), tt)
      test rest false is =
          let long : size < length user = leb-false _ _ is in
          let a : length (drop size user) ≡ length user - size = length-drop size user in
          let b : length (take size user) ≤ 4096 = omega (arith, length-take size user, most) in
          ((b, All-take (λ (o : ℕ). o < 256) size user octets, refl), rest (omega (arith, a, short, long, least)))

  -- ---- what a packet brings

  pub record AnswerFits (a : table.Answer) : Type 0 where
    pub next : CircuitFits wide a.next
    pub owed : MayGive a.owed

  cause_low : (r : Role) (n : ℕ) → n < 256 → table.cause_at r n < 256
  cause_low Dte n low = omega arith
  cause_low Dce n low = low

  by_role_low : (r : Role) (a b : ℕ) → a < 256 → b < 256 → table.by_role r a b < 256
  by_role_low Dte a b p q = p
  by_role_low Dce a b p q = q

  diagnostic_low : (r : Role) (s : State) → table.diagnostic_in r s < 256
  diagnostic_low r Calling = by_role_low r 21 22 (omega arith) (omega arith)
  diagnostic_low r Arriving = by_role_low r 22 21 (omega arith) (omega arith)
  diagnostic_low r s = omega arith

  clears_for_fits : (c : CircuitSettings) (x : Circuit) (cause diagnostic : ℕ) → cause < 256 → diagnostic < 256
      → AnswerFits (table.clears_for c x cause diagnostic)
  clears_for_fits c x cause diagnostic p q = record { next = (tt, refl); owed = (tt, (cause_low c.role cause p, q)) }

  resets_for_fits : (c : CircuitSettings) (x : Circuit) (diagnostic : ℕ) → diagnostic < 256 → CircuitFits wide x → AnswerFits (table.resets_for c x diagnostic)
  resets_for_fits c x diagnostic q f = record { next = (tt, f.1); owed = (tt, (cause_low c.role 5 (omega arith), q)) }

  unexpected_fits : (c : CircuitSettings) (x : Circuit) (s : State) → AnswerFits (table.unexpected c x s)
  unexpected_fits c x s = clears_for_fits c x 19 (table.diagnostic_in c.role s) (omega arith) (diagnostic_low c.role s)

  ignores_fits : (x : Circuit) → CircuitFits wide x → AnswerFits (table.ignores x)
  ignores_fits x f = record { next = f; owed = tt }

  collides_fits : (r : Role) (x : Circuit) (request : CallRequest) → CircuitFits wide x → may_propose request.params ≡ true
      → AnswerFits (table.collides r x request)
  collides_fits Dte x request f may = record { next = (tt, f.1); owed = tt }
  collides_fits Dce x request f may = record { next = (tt, may); owed = tt }

  call_fits : (c : CircuitSettings) (x : Circuit) (s : State) (request : CallRequest) → CircuitFits wide x → may_propose request.params ≡ true
      → AnswerFits (table.row_call c x s request)
  call_fits c x Free request f may = record { next = (tt, may); owed = tt }
  call_fits c x Calling request f may = collides_fits c.role x request f may
  call_fits c x Clearing request f may = ignores_fits x f
  call_fits c x s request f may = unexpected_fits c x s

  answer_if : (b : Bool) (u v : table.Answer) → AnswerFits u → AnswerFits v → AnswerFits (if b then u else v)
  answer_if true u v p q = p
  answer_if false u v p q = q

  connects_fits : (c : CircuitSettings) (x : Circuit) (answered : Params) → may_propose answered ≡ true → AnswerFits (table.connects c x answered)
  connects_fits c x answered may =
      answer_if (may_answer x.params answered) (table.goes x Open answered true None (connected answered ∷ [])) (table.clears_for c x 3 66)
      (record { next = (tt, may); owed = tt })
      (clears_for_fits c x 3 66 (omega arith) (omega arith))

  accept_fits : Agreed → (c : CircuitSettings) (x : Circuit) (s : State) (facilities : List ℕ) → CircuitFits wide x
      → AnswerFits (table.row_accept c x s facilities)
  accept_fits laws c x Calling facilities f = connects_fits c x (said_in x.params facilities) (laws.said x.params facilities f.1)
  accept_fits laws c x Collision facilities f = connects_fits c x (said_in x.params facilities) (laws.said x.params facilities f.1)
  accept_fits laws c x Clearing facilities f = ignores_fits x f
  accept_fits laws c x s facilities f = unexpected_fits c x s

  clear_fits : (x : Circuit) (s : State) (cause diagnostic : ℕ) → AnswerFits (table.row_clear x s cause diagnostic)
  clear_fits x Clearing cause diagnostic = record { next = (tt, refl); owed = tt }
  clear_fits x s cause diagnostic = record { next = (tt, refl); owed = (tt, tt) }

  clear_conf_fits : (c : CircuitSettings) (x : Circuit) (s : State) → AnswerFits (table.row_clear_conf c x s)
  clear_conf_fits c x Clearing = record { next = (tt, refl); owed = tt }
  clear_conf_fits c x s = unexpected_fits c x s

  reset_fits : (c : CircuitSettings) (x : Circuit) (s : State) (cause diagnostic : ℕ) → CircuitFits wide x → AnswerFits (table.row_reset c x s cause diagnostic)
  reset_fits c x Open cause diagnostic f = record { next = (tt, f.1); owed = (tt, tt) }
  reset_fits c x Resetting cause diagnostic f = record { next = (tt, f.1); owed = tt }
  reset_fits c x Clearing cause diagnostic f = ignores_fits x f
  reset_fits c x s cause diagnostic f = unexpected_fits c x s

  reset_conf_fits : (c : CircuitSettings) (x : Circuit) (s : State) → CircuitFits wide x → AnswerFits (table.row_reset_conf c x s)
  reset_conf_fits c x Open f = resets_for_fits c x 27 (omega arith) f
  reset_conf_fits c x Resetting f = record { next = (tt, f.1); owed = tt }
  reset_conf_fits c x Clearing f = ignores_fits x f
  reset_conf_fits c x s f = unexpected_fits c x s

  -- a ground is 1, 2, 39 or 83

  abbrev LowGround : Option ℕ → Type 0
  LowGround None = Unit {0}
  LowGround (Some n) = n < 256

  ground_if : (b : Bool) (u v : Option ℕ) → LowGround u → LowGround v → LowGround (if b then u else v)
  ground_if true u v p q = p
  ground_if false u v p q = q

  unless_fits : (c : CircuitSettings) (x : Circuit) (o : Option ℕ) (a : table.Answer) → LowGround o → CircuitFits wide x → AnswerFits a
      → AnswerFits (table.unless c x o a)
  unless_fits c x None a low g f = f
  unless_fits c x (Some n) a low g f = resets_for_fits c x n low g

  mod_low : (n : ℕ) → n % 8 < 8
  mod_low n = omega arith

  status_gives : (b : Bool) (n : ℕ) → MayGive (Some (table.status b n))
  status_gives true n = (tt, mod_low n)
  status_gives false n = (tt, mod_low n)

  confirms_fits : (c : CircuitSettings) (x : Circuit) (b : Bool) → CircuitFits wide x → AnswerFits (table.confirms c x x.talk b)
  confirms_fits c x true f = record { next = f; owed = tt }
  confirms_fits c x false f = resets_for_fits c x 43 (omega arith) f

  number_low : (t : Talk) (pr : ℕ) → LowGround (table.number_ground t pr)
  number_low t pr = ground_if _ None (Some 2) tt (omega arith)

  ground_low : (longest size : ℕ) (j : Partial) (n : ℕ) (q : Bool) → LowGround (ground_of longest size j n q)
  ground_low longest size j n q =
      ground_if (nat_le n size) (if nat_le (length j.user + n) longest then (if may_have_q j.begun q then None else Some 83) else Some 39) (Some 39)
      (ground_if (nat_le (length j.user + n) longest) (if may_have_q j.begun q then None else Some 83) (Some 39)
      (ground_if (may_have_q j.begun q) None (Some 83) tt (omega arith)) (omega arith))
      (omega arith)

  data_low : (longest size : ℕ) (t : Talk) (ps pr : ℕ) (piece : Piece) → LowGround (table.data_ground longest size t ps pr piece)
  data_low longest size t ps pr piece =
      ground_if (nat_le (resolved t.acked pr) (length t.sent))
      (if ps == length t.taken % 8 then piece_ground longest size (joining no_part t.taken) piece else Some 1) (Some 2)
      (ground_if (ps == length t.taken % 8) (piece_ground longest size (joining no_part t.taken) piece) (Some 1)
      (ground_low longest size (joining no_part t.taken) (length (user_of piece)) (q_of piece)) (omega arith))
      (omega arith)

  open_fits : (c : CircuitSettings) (x : Circuit) (p : PlainPacket) → CircuitFits wide x → AnswerFits (table.row_open c x x.talk p)
  open_fits c x (user_data h q m ps pr user) f =
      unless_fits c x (table.data_ground c.longest (incoming x).size x.talk ps pr (piece_of q m user)) (table.takes x x.talk pr (piece_of q m user))
      (data_low c.longest (incoming x).size x.talk ps pr (piece_of q m user)) f
      (record { next = f; owed = status_gives x.talk.own_ready (length x.talk.taken + 1) })
  open_fits c x (rr h pr) f = unless_fits c x (table.number_ground x.talk pr) (table.hears_status x x.talk true pr) (number_low x.talk pr) f
      (record { next = f; owed = tt })
  open_fits c x (rnr h pr) f = unless_fits c x (table.number_ground x.talk pr) (table.hears_status x x.talk false pr) (number_low x.talk pr) f
      (record { next = f; owed = tt })
  open_fits c x (interrupt h user) f = record { next = f; owed = (tt, tt) }
  open_fits c x (interrupt_conf h) f = confirms_fits c x x.talk.int_out f
  open_fits c x p f = ignores_fits x f

  data_fits : (c : CircuitSettings) (x : Circuit) (s : State) (p : PlainPacket) → CircuitFits wide x → AnswerFits (table.row_data c x s p)
  data_fits c x Open p f = open_fits c x p f
  data_fits c x Resetting p f = ignores_fits x f
  data_fits c x Clearing p f = ignores_fits x f
  data_fits c x s p f = unexpected_fits c x s

  pub answers_fit : Agreed → (c : CircuitSettings) (x : Circuit) (p : PlainPacket) → CircuitFits wide x → AnswerFits (table.answers c x p)
  answers_fit laws c x (call h called calling facilities user) f =
      call_fits c x x.state (table.request_in called calling facilities user) f (laws.said default_params facilities refl)
  answers_fit laws c x (accept h facilities) f = accept_fits laws c x x.state facilities f
  answers_fit laws c x (clear h cause diagnostic) f = clear_fits x x.state cause diagnostic
  answers_fit laws c x (clear_conf h) f = clear_conf_fits c x x.state
  answers_fit laws c x (reset h cause diagnostic) f = reset_fits c x x.state cause diagnostic f
  answers_fit laws c x (reset_conf h) f = reset_conf_fits c x x.state f
  answers_fit laws c x (restart cause diagnostic) f = ignores_fits x f
  answers_fit laws c x restart_conf f = ignores_fits x f
  answers_fit laws c x p f = data_fits c x x.state p f

  -- ---- calls of the user

  abbrev pub OutcomeFits : Outcome → Type 0
  OutcomeFits (Done next packet) = CircuitFits wide next × MayGive packet
  OutcomeFits (Refused e) = Unit {0}

  outcome_if : (b : Bool) (u v : Outcome) → (b ≡ true → OutcomeFits u) → OutcomeFits v → OutcomeFits (if b then u else v)
  outcome_if true u v p q = p refl
  outcome_if false u v p q = q

  digits_low : (text : List ℕ) → list_all is_figure text ≡ true → list_all is_digit (digits_of_text text) ≡ true
  digits_low [] all = refl
  digits_low (a ∷ text) all =
      let parts = and_parts (is_figure a) (list_all is_figure text) all in
      let most : a ≤ 57 = leb-true a 57 (and_parts (nat_le 48 a) (nat_le a 57) parts.0).1 in
      let low : a - 48 ≤ 9 = omega (arith, most) in
      and_from (is_digit (a - 48)) (list_all is_digit (digits_of_text text)) (le-leb (a - 48) 9 low) (digits_low text parts.1)

  address_fits : (text : List ℕ) → is_address_text text ≡ true → IsAddress (digits_of_text text)
  address_fits text is =
      let parts = and_parts (nat_le (length text) 15) (list_all is_figure text) is in
      let short : length text ≤ 15 = leb-true (length text) 15 parts.0 in
      record { short = subst (λ (n : ℕ). n ≤ 15) (sym (length-map text (λ c. c - 48))) short; decimal = digits_low text parts.1 }

  call_in_fits : Agreed → (c : CircuitSettings) → c.long_data ≡ long_data → (x : Circuit) (s : State) (called calling user : List ℕ) (proposal : Proposal)
      → AreOctets user → OutcomeFits (call_in c x s called calling user proposal)
  call_in_fits laws c same x Free called calling user proposal octets = outcome_if (may_call c.long_data called calling user proposal.params)
      (does x Calling proposal.params true (call_sent called calling user proposal)) (Refused error.BadParameter) fits tt
    where
      fits : may_call c.long_data called calling user proposal.params ≡ true
          → OutcomeFits (does x Calling proposal.params true (call_sent called calling user proposal))
      fits is =
          let parts = and_parts (is_address_text called)
          (is_address_text calling && (nat_le (length user) (longest_user c.long_data) && may_propose proposal.params)) is in
          let more = and_parts (is_address_text calling) (nat_le (length user) (longest_user c.long_data) && may_propose proposal.params) parts.1 in
          let last = and_parts (nat_le (length user) (longest_user c.long_data)) (may_propose proposal.params) more.1 in (
            (tt, last.1),
            (
              tt,
              (
                address_fits called parts.0,
                address_fits calling more.0,
                laws.field default_params proposal last.1,
                subst (λ (b : Bool). length user ≤ longest_user b) same (leb-true (length user) (longest_user c.long_data) last.0),
                octets,
              ),
            ),
          )
  call_in_fits laws c same x Calling called calling user proposal octets = tt
  call_in_fits laws c same x Arriving called calling user proposal octets = tt
  call_in_fits laws c same x Collision called calling user proposal octets = tt
  call_in_fits laws c same x Open called calling user proposal octets = tt
  call_in_fits laws c same x Resetting called calling user proposal octets = tt
  call_in_fits laws c same x Clearing called calling user proposal octets = tt

  no_field : IsFacilityField []
  no_field = (record { packet_size = None; window_size = None }, record { sizes = tt; windows = tt }, refl)

  accept_with_fits : Agreed → (x : Circuit) (answer : Option Proposal) → CircuitFits wide x → OutcomeFits (accept_with x answer)
  accept_with_fits laws x None f = ((tt, f.1), (tt, no_field))
  accept_with_fits laws x (Some answer) f = outcome_if (may_answer x.params answer.params)
      (does x Open answer.params false (accept 1 (field_for x.params answer))) (Refused error.BadParameter) fits tt
    where
      fits : may_answer x.params answer.params ≡ true → OutcomeFits (does x Open answer.params false (accept 1 (field_for x.params answer)))
      fits is =
          let may = laws.answer x.params answer.params f.1 is in
          ((tt, may), (tt, laws.field x.params answer may))

  accept_in_fits : Agreed → (x : Circuit) (s : State) (answer : Option Proposal) → CircuitFits wide x → OutcomeFits (accept_in x s answer)
  accept_in_fits laws x Arriving answer f = accept_with_fits laws x answer f
  accept_in_fits laws x s answer f = tt

  clear_with_fits : (c : CircuitSettings) (x : Circuit) (cause diagnostic : ℕ) → (cause < 256) × (diagnostic < 256)
      → OutcomeFits (clear_with c x cause diagnostic)
  clear_with_fits c x cause diagnostic octets = outcome_if (may_clear_for c.role cause) (does x Clearing default_params false (clear 1 cause diagnostic))
      (Refused error.BadParameter) (λ may. ((tt, refl), (tt, octets))) tt

  clear_in_fits : (c : CircuitSettings) (x : Circuit) (s : State) (cause diagnostic : ℕ) → (cause < 256) × (diagnostic < 256)
      → OutcomeFits (clear_in c x s cause diagnostic)
  clear_in_fits c x Free cause diagnostic octets = tt
  clear_in_fits c x Clearing cause diagnostic octets = tt
  clear_in_fits c x s cause diagnostic octets = clear_with_fits c x cause diagnostic octets

  -- of the data packets that an end sends
  outgoing_is : (x : Circuit) → AreTerms (called_terms x.params) × AreTerms (calling_terms x.params) → AreTerms (outgoing x)
  outgoing_is x both = test x.calls
    where
      test : (b : Bool) → AreTerms (if b then calling_terms x.params else called_terms x.params)
      test true = both.1
      test false = both.0

  send_in_fits : Agreed → (c : CircuitSettings) (x : Circuit) (s : State) (q : Marks) (user : List ℕ) → CircuitFits wide x → AreOctets user → may_mark wide q
      ≡ true → OutcomeFits (send_in c x s q user)
  send_in_fits laws c x Open q user f octets may =
      outcome_if (nat_le (length user) c.longest) _ (Refused error.TooLong)
      (λ _. outcome_if (nat_lt (waits x) 8) _ (Refused error.Full) (λ _. ((cut_append x.talk.rest (cut (outgoing x).size q user) f.0 cut_fits, f.1), tt))
      tt) tt
    where
      cut_fits : AreCut wide (cut (outgoing x).size q user)
      cut_fits =
          let are = outgoing_is x (laws.terms x.params f.1) in
          cut_from_fits (outgoing x).size (length user) q user (omega (arith, are.size_least)) are.size_most (omega arith) octets may
  send_in_fits laws c x Free q user f octets may = tt
  send_in_fits laws c x Calling q user f octets may = tt
  send_in_fits laws c x Arriving q user f octets may = tt
  send_in_fits laws c x Collision q user f octets may = tt
  send_in_fits laws c x Resetting q user f octets may = tt
  send_in_fits laws c x Clearing q user f octets may = tt

  int_if : (b : Bool) (u : Outcome) → OutcomeFits u → OutcomeFits (if b then Refused error.InterruptOutstanding else u)
  int_if true u f = tt
  int_if false u f = f

  interrupt_in_fits : (x : Circuit) (s : State) (user : List ℕ) → CircuitFits wide x → AreOctets user → OutcomeFits (interrupt_in x s user)
  interrupt_in_fits x Open user f octets = outcome_if (nat_le 1 (length user) && nat_le (length user) 32) _ (Refused error.BadParameter)
      (λ is. int_if x.talk.int_out _ (fits is)) tt
    where
      fits : (nat_le 1 (length user) && nat_le (length user) 32) ≡ true → CircuitFits wide x × MayGive (Some (interrupt 1 user))
      fits is =
          let parts = and_parts (nat_le 1 (length user)) (nat_le (length user) 32) is in
          (f, (tt, (leb-true 1 (length user) parts.0, leb-true (length user) 32 parts.1, octets)))
  interrupt_in_fits x Free user f octets = tt
  interrupt_in_fits x Calling user f octets = tt
  interrupt_in_fits x Arriving user f octets = tt
  interrupt_in_fits x Collision user f octets = tt
  interrupt_in_fits x Resetting user f octets = tt
  interrupt_in_fits x Clearing user f octets = tt

  reset_in_fits : (c : CircuitSettings) (x : Circuit) (s : State) (cause diagnostic : ℕ) → CircuitFits wide x → (cause < 256) × (diagnostic < 256)
      → OutcomeFits (reset_in c x s cause diagnostic)
  reset_in_fits c x Open cause diagnostic f octets = outcome_if (may_reset_for c.role cause) (does x Resetting x.params x.calls (reset 1 cause diagnostic))
      (Refused error.BadParameter) (λ may. ((tt, f.1), (tt, octets))) tt
  reset_in_fits c x s cause diagnostic f octets = tt

  ready_in_fits : (x : Circuit) (s : State) (b : Bool) → CircuitFits wide x → OutcomeFits (ready_in x s b)
  ready_in_fits x Open b f = (f, status_gives b (length x.talk.taken))
  ready_in_fits x s b f = tt

  pub outcome_fits : Agreed → (c : CircuitSettings) → c.long_data ≡ long_data → (x : Circuit) (h : ℕ) (request : Request) → CircuitFits wide x
      → AsksOctets request → may_ask wide (Asks h request) ≡ true → OutcomeFits (outcome c x request)
  outcome_fits laws c same x h (Calls called calling user proposal) f octets may = call_in_fits laws c same x x.state called calling user proposal octets
  outcome_fits laws c same x h (Accepts answer) f octets may = accept_in_fits laws x x.state answer f
  outcome_fits laws c same x h (Clears cause diagnostic) f octets may = clear_in_fits c x x.state cause diagnostic octets
  outcome_fits laws c same x h (Sends q user) f octets may = send_in_fits laws c x x.state q user f octets may
  outcome_fits laws c same x h (Interrupts user) f octets may = interrupt_in_fits x x.state user f octets
  outcome_fits laws c same x h (Resets cause diagnostic) f octets may = reset_in_fits c x x.state cause diagnostic f octets
  outcome_fits laws c same x h SaysReady f octets may = ready_in_fits x x.state true f
  outcome_fits laws c same x h SaysNotReady f octets may = ready_in_fits x x.state false f

  -- ---- pulls

  pub record PulledFits (p : Pulled) : Type 0 where
    pub next : CircuitFits wide p.next
    pub packet : MayGive p.packet

  data_gives : (ps pr : ℕ) (piece : Piece) → PieceFits wide piece → MayGive (Some (data_packet (ps % 8) (pr % 8) piece))
  data_gives ps pr (More q user) f = (tt, (mod_low ps, mod_low pr, f.0, f.1, f.2))
  data_gives ps pr (Last q user) f = (tt, (mod_low ps, mod_low pr, f.0, f.1, f.2))

  pulled_if : (b : Bool) (u v : Pulled) → PulledFits u → PulledFits v → PulledFits (if b then u else v)
  pulled_if true u v p q = p
  pulled_if false u v p q = q

  nothing_fits : (x : Circuit) → CircuitFits wide x → PulledFits (pulls_nothing x)
  nothing_fits x f = record { next = f; packet = tt }

  pull_open_fits : (c : CircuitSettings) (x : Circuit) (t : Talk) (rest : List Piece) → CircuitFits wide x → AreCut wide rest
      → PulledFits (pull_open c x t rest)
  pull_open_fits c x t [] f g = nothing_fits x f
  pull_open_fits c x t (piece ∷ rest) f g = pulled_if (t.peer_ready && nat_lt (length t.sent) (t.acked + (outgoing x).window)) sent (pulls_nothing x)
      (record { next = (g.1, f.1); packet = data_gives (length t.sent) (length t.taken) piece g.0 }) (nothing_fits x f)
    where
      sent : Pulled
      sent = record {
        next = talking x (record {
          sent = t.sent ++ piece ∷ [];
          taken = t.taken;
          acked = t.acked;
          rest = rest;
          int_out = t.int_out;
          peer_ready = t.peer_ready;
          own_ready = t.own_ready;
        });
        packet = Some (data_packet (length t.sent % 8) (length t.taken % 8) piece);
      }

  pub pulled_fits : (c : CircuitSettings) (x : Circuit) → CircuitFits wide x → PulledFits (pulled c x)
  pulled_fits c x f = at x.state
    where
      at : (s : State) → PulledFits (pull_in c x s)
      at Open = pull_open_fits c x x.talk x.talk.rest f f.0
      at Free = nothing_fits x f
      at Calling = nothing_fits x f
      at Arriving = nothing_fits x f
      at Collision = nothing_fits x f
      at Resetting = nothing_fits x f
      at Clearing = nothing_fits x f
