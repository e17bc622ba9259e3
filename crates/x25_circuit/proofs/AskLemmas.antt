-- What is asked for in one call.
use Rattle.x25_circuit.proofs.Names.{◌≡◌, ◌≢◌, Result, Ok, Err, None, Some, refl, sym, ap, CircuitSettings, Refused, refusal_of, NoMemory}
use Rattle.std.proofs.Common.{IfErr, OnErr}
use Rattle.x25_circuit.specs.{Calling.{Outcome, Done}, Request.{AnswersRequest, with_packet}, code.FitsCircuit.{Sends, SendsOrLacks, IsDone}}
use Rattle.x25_circuit.specs.declared.{error.CircuitError.{CircuitError}, requested.Requested.{Requested}}
use Rattle.x25_circuit.specs.declared.circuit.Circuit as code

-- a call with a packet to send is one that may have a packet
pub asked : (c : CircuitSettings) (v : code.Circuit) (r : Result Requested CircuitError) (o : Outcome) → Sends c v r o → AnswersRequest c v (with_packet r) o
asked c v (Ok p) (Done next packet) h = (h.0, sym h.1)
asked c v (Err e) (Done next packet) h = absurd h
asked c v (Ok p) (Refused e) h = absurd (cc)
asked c v (Err f) (Refused e) h = ap with_packet h

-- and so is one for which memory may be missing
pub asked_or_lacks : (c : CircuitSettings) (v : code.Circuit) (r : Result Requested CircuitError) (o : Outcome) → SendsOrLacks c v r o
    → AnswersRequest c v (with_packet r) o
asked_or_lacks c v (Ok p) (Done next packet) h = (h.0, sym h.1)
asked_or_lacks c v (Err e) (Done next packet) h = h
asked_or_lacks c v (Ok p) (Refused e) h = absurd (cc)
asked_or_lacks c v (Err f) (Refused e) h = ap with_packet h

pub err_is : {T : Type 0} (e f : CircuitError) → ◌≡◌ {A = Result T CircuitError} (Err e) (Err f) → e ≡ f
err_is e f same = cc

-- a call that takes no memory isn't refused any
pub not_memory : (r : Result Requested CircuitError) → IfErr r (λ e. e ≢ NoMemory) → with_packet r ≡ Err NoMemory → ⊥
not_memory (Ok p) other is = cc
not_memory (Err e) other is = other (err_is e NoMemory is)

-- where it is refused so, the call was
pub lacked : (r : Result Requested CircuitError) → with_packet r ≡ Err NoMemory → r ≡ Err NoMemory
lacked (Ok p) is = cc
lacked (Err e) is = ap (λ (f : CircuitError). Err f) (err_is e NoMemory is)

pub not_refused : (o : Outcome) → IsDone o → refusal_of o ≡ None
not_refused (Done next packet) accepted = refl
not_refused (Refused e) accepted = absurd accepted

-- a refusal that is told is that of the definition
pub is_refused : (o : Outcome) (e : CircuitError) → Some e ≡ refusal_of o → o ≡ Refused e
is_refused (Done next packet) e is = absurd (cc)
is_refused (Refused f) e is = cc

pub all_err : {T E P : Type 0} (r : Result T E) → P → OnErr r P
all_err (Ok x) p = tt
all_err (Err e) p = p

pub is_done : (o : Outcome) → refusal_of o ≡ None → IsDone o
is_done (Done next packet) none = tt
is_done (Refused e) none = absurd (cc)

-- an accepted call for which memory is missing
pub lacks : (c : CircuitSettings) (v : code.Circuit) (r : Result Requested CircuitError) (o : Outcome) → IsDone o → r ≡ Err NoMemory → SendsOrLacks c v r o
lacks c v r (Done next packet) accepted e = rw e refl
lacks c v r (Refused f) accepted e = absurd accepted
