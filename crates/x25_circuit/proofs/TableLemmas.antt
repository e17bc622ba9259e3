-- The rows of the table for the states that a packet has in common.
use Rattle.x25_circuit.proofs.Names.{◌≡◌, ◌≢◌, ℕ, [], ◌∷◌, List, length, Option, Some, None, refl, sym, ap, ◌∙◌, Bool, true, false, ◌<◌, ◌≤◌, ◌++◌}
use Rattle.x25_circuit.proofs.Names.{le-leb, PacketError, Marks, State, Open, Params, CircuitSettings, Circuit, outgoing, with_rest, cut, Refused, lt-ltb}
use Rattle.x25_circuit.proofs.Names.{Role, call_in, waits, row_undecoded, row_clear, collided, Proposal, may_answer, said_in, Says}
use Rattle.x25_circuit.proofs.Names.{notices_of, Calling, Arriving, Collision}
use Rattle.std.proofs.lemmas.Bool.{lt-leb}
use Rattle.x25_bits.specs.declared.role.Role.TheVariants.{Dte, Dce}
use Rattle.x25_circuit.specs.Calling.{keeps_on, does, accept_in, accept_with, clear_in, clear_with, ready_in, ready_open, send_in, send_open}
use Rattle.x25_circuit.specs.Hearing.{row_reset, row_reset_conf, row_data, goes, collides, connects, clears_for, clears_to, unexpected, cause_of, row_call}
use Rattle.x25_circuit.specs.{Hearing.{row_accept, row_clear_conf}, Notice.{CallRequest, cleared, connected, incoming, PlainNotice}, Params.{field_for}}
use Rattle.x25_circuit.specs.{code.Replies.{is_message, tells_message, plain_notice}, declared.notice.Notice.{Notice}, declared.notice.Reply.{Reply}}
use Rattle.x25_circuit.specs.declared.state.State.TheVariants.{Free, Resetting, Clearing}
use Rattle.x25_packet.specs.{Error.{diagnostic_of}, Packet.{PlainPacket, accept, clear_conf}}
use Rattle.x25_circuit.specs.declared.error.CircuitError.TheVariants as error
use Rattle.x25_circuit.specs.declared.notice.Notice.TheVariants as notice

-- what tells no message says the same beside any
pub said_beside : (message : List ℕ) (reply : Reply) (owed : Option PlainPacket) (told : List PlainNotice) → tells_message reply.notice ≡ false
    → Says [] reply owed told → Says message reply owed told
said_beside message reply owed told none says = record { owed = says.owed; notices = by reply.collided reply.notice none ∙ says.notices }
  where
    same : (n : Notice) → is_message n ≡ false → plain_notice message n ≡ plain_notice [] n
    same (notice.Delivered marks) none = absurd (cc)
    same n none = refl

    by : (b : Bool) (o : Option Notice) → tells_message o ≡ false → notices_of message b o ≡ notices_of [] b o
    by true None none = refl
    by false None none = refl
    by true (Some n) none = ap (λ (p : PlainNotice). collided ∷ p ∷ []) (same n none)
    by false (Some n) none = ap (λ (p : PlainNotice). p ∷ []) (same n none)

pub collides_at_dte : (r : Role) (x : Circuit) (request : CallRequest) → r ≡ Dte → collides r x request ≡ goes x Collision x.params true None []
collides_at_dte r x request e = ap (λ (s : Role). collides s x request) e

pub collides_at_dce : (r : Role) (x : Circuit) (request : CallRequest) → r ≡ Dce → collides r x request
    ≡ goes x Arriving request.params false None (collided ∷ incoming request ∷ [])
collides_at_dce r x request e = ap (λ (s : Role). collides s x request) e

pub answer_connects : (c : CircuitSettings) (x : Circuit) (answered : Params) → may_answer x.params answered ≡ true → connects c x answered
    ≡ goes x Open answered true None (connected answered ∷ [])
answer_connects c x answered e = rw e refl

pub answer_clears : (c : CircuitSettings) (x : Circuit) (answered : Params) → may_answer x.params answered ≡ false → connects c x answered ≡ clears_for c x 3 66
answer_clears c x answered e = rw e refl

-- the code has the values that are known
pub answer_in_force : (c : CircuitSettings) (x : Circuit) (known answered : Params) (field : List ℕ) → known ≡ x.params → answered ≡ said_in known field
    → may_answer known answered ≡ true
    → connects c x (said_in x.params field) ≡ goes x Open answered true None (connected answered ∷ [])
answer_in_force c x known answered field e f g =
    ap (λ (p : Params). connects c x (said_in p field)) (sym e) ∙ ap (connects c x) (sym f)
    ∙ answer_connects c x answered (ap (λ (p : Params). may_answer p answered) (sym e) ∙ g)

pub answer_out_of_range : (c : CircuitSettings) (x : Circuit) (known answered : Params) (field : List ℕ) → known ≡ x.params → answered ≡ said_in known field
    → may_answer known answered ≡ false
    → connects c x (said_in x.params field) ≡ clears_for c x 3 66
answer_out_of_range c x known answered field e f g =
    ap (λ (p : Params). connects c x (said_in p field)) (sym e) ∙ ap (connects c x) (sym f)
    ∙ answer_clears c x answered (ap (λ (p : Params). may_answer p answered) (sym e) ∙ g)

pub answer_accepts : (x : Circuit) (answer : Proposal) → may_answer x.params answer.params ≡ true → accept_with x (Some answer)
    ≡ does x Open answer.params false (accept 1 (field_for x.params answer))
answer_accepts x answer e = rw e refl

pub call_strays : (c : CircuitSettings) (x : Circuit) (s : State) (request : CallRequest) → s ≢ Free → s ≢ Calling → s ≢ Clearing → row_call c x s request
    ≡ unexpected c x s
call_strays c x Free request f g h = absurd (f refl)
call_strays c x Calling request f g h = absurd (g refl)
call_strays c x Clearing request f g h = absurd (h refl)
call_strays c x s request f g h = refl

pub accept_strays : (c : CircuitSettings) (x : Circuit) (s : State) (facilities : List ℕ) → s ≢ Calling → s ≢ Collision → s ≢ Clearing
    → row_accept c x s facilities ≡ unexpected c x s
accept_strays c x Calling facilities f g h = absurd (f refl)
accept_strays c x Collision facilities f g h = absurd (g refl)
accept_strays c x Clearing facilities f g h = absurd (h refl)
accept_strays c x s facilities f g h = refl

pub clear_told : (x : Circuit) (s : State) (cause diagnostic : ℕ) → s ≢ Clearing → s ≢ Free → row_clear x s cause diagnostic
    ≡ clears_to x (Some (clear_conf 1)) (cleared cause diagnostic ∷ [])
clear_told x Free cause diagnostic f g = absurd (g refl)
clear_told x Clearing cause diagnostic f g = absurd (f refl)
clear_told x s cause diagnostic f g = refl

pub clear_conf_strays : (c : CircuitSettings) (x : Circuit) (s : State) → s ≢ Clearing → row_clear_conf c x s ≡ unexpected c x s
clear_conf_strays c x Clearing f = absurd (f refl)
clear_conf_strays c x s f = refl

pub reset_strays : (c : CircuitSettings) (x : Circuit) (s : State) (cause diagnostic : ℕ) → s ≢ Open → s ≢ Resetting → s ≢ Clearing
    → row_reset c x s cause diagnostic ≡ unexpected c x s
reset_strays c x Open cause diagnostic f g h = absurd (f refl)
reset_strays c x Resetting cause diagnostic f g h = absurd (g refl)
reset_strays c x Clearing cause diagnostic f g h = absurd (h refl)
reset_strays c x s cause diagnostic f g h = refl

pub reset_conf_strays : (c : CircuitSettings) (x : Circuit) (s : State) → s ≢ Open → s ≢ Resetting → s ≢ Clearing → row_reset_conf c x s ≡ unexpected c x s
reset_conf_strays c x Open f g h = absurd (f refl)
reset_conf_strays c x Resetting f g h = absurd (g refl)
reset_conf_strays c x Clearing f g h = absurd (h refl)
reset_conf_strays c x s f g h = refl

pub data_strays : (c : CircuitSettings) (x : Circuit) (s : State) (packet : PlainPacket) → s ≢ Open → s ≢ Resetting → s ≢ Clearing → row_data c x s packet
    ≡ unexpected c x s
data_strays c x Open packet f g h = absurd (f refl)
data_strays c x Resetting packet f g h = absurd (g refl)
data_strays c x Clearing packet f g h = absurd (h refl)
data_strays c x s packet f g h = refl

pub undecoded_clears : (c : CircuitSettings) (x : Circuit) (s : State) (e : PacketError) → s ≢ Open → s ≢ Resetting → s ≢ Clearing → row_undecoded c x s e
    ≡ clears_for c x (cause_of e) (diagnostic_of e)
undecoded_clears c x Open e f g h = absurd (f refl)
undecoded_clears c x Resetting e f g h = absurd (g refl)
undecoded_clears c x Clearing e f g h = absurd (h refl)
undecoded_clears c x s e f g h = refl

pub clear_done : (c : CircuitSettings) (x : Circuit) (s : State) (cause diagnostic : ℕ) → s ≢ Free → s ≢ Clearing → clear_in c x s cause diagnostic
    ≡ clear_with c x cause diagnostic
clear_done c x Free cause diagnostic f g = absurd (f refl)
clear_done c x Clearing cause diagnostic f g = absurd (g refl)
clear_done c x s cause diagnostic f g = refl

pub ready_at : (x : Circuit) (s : State) (b : Bool) → s ≡ Open → ready_in x s b ≡ ready_open x x.talk b
ready_at x s b e = ap (λ (r : State). ready_in x r b) e

pub send_at : (c : CircuitSettings) (x : Circuit) (s : State) (marks : Marks) (user : List ℕ) → s ≡ Open → send_in c x s marks user
    ≡ send_open c x x.talk marks user
send_at c x s marks user e = ap (λ (r : State). send_in c x r marks user) e

pub call_at : (c : CircuitSettings) (x : Circuit) (s : State) (called calling user : List ℕ) (proposal : Proposal) → s ≡ Free
    → call_in c x s called calling user proposal ≡ call_in c x Free called calling user proposal
call_at c x s called calling user proposal e = ap (λ (r : State). call_in c x r called calling user proposal) e

pub accept_at : (x : Circuit) (s : State) (answer : Option Proposal) → s ≡ Arriving → accept_in x s answer ≡ accept_with x answer
accept_at x s answer e = ap (λ (r : State). accept_in x r answer) e

pub send_long : (c : CircuitSettings) (x : Circuit) (marks : Marks) (user : List ℕ) → c.longest < length user → send_open c x x.talk marks user
    ≡ Refused error.TooLong
send_long c x marks user long = rw (lt-leb _ _ long) refl

pub send_full : (c : CircuitSettings) (x : Circuit) (marks : Marks) (user : List ℕ) → length user ≤ c.longest → waits x ≡ 8 → send_open c x x.talk marks user
    ≡ Refused error.Full
send_full c x marks user short e = rw (le-leb _ _ short, e) refl

pub send_waits : (c : CircuitSettings) (x : Circuit) (marks : Marks) (user : List ℕ) → length user ≤ c.longest → waits x < 8
    → send_open c x x.talk marks user ≡ keeps_on x (with_rest (x.talk.rest ++ cut (outgoing x).size marks user) x.talk) None
send_waits c x marks user short e = rw (le-leb _ _ short, lt-ltb _ _ e) refl
