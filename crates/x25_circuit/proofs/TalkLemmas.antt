-- What a circuit's variables stand for after a small change.
use Rattle.x25_circuit.proofs.Names.{◌≡◌, ℕ, ◌+◌, ◌≤◌, Bool, true, false, not, if◌then◌else◌, List, [], ◌++◌, drop, length, refl, sym, ap, subst, ◌∙◌, ◌==◌}
use Rattle.x25_circuit.proofs.Names.{◌%◌, nat_le, Option, Some, None, resolved, Held, Marks, Transfer, Piece, piece_of, ground_of, Partial, no_part, joined}
use Rattle.x25_circuit.proofs.Names.{joining, wholes, cut_all, asked_in, has_memory, waiting, eqb-true, CircuitSettings, Talk, Circuit, outgoing, Params}
use Rattle.x25_circuit.proofs.Names.{length_push, with_acked, with_rest, FitsNumbers, FitsTalk, FitsCircuit, incoming, ShownPartial, IsFacilityField}
use Rattle.std.proofs.{Common.{IsTrue}, Props.{props}}
use Rattle.x25_circuit.proofs.MessageLemmas.{wholes_all, joining_push}
use Rattle.x25_circuit.specs.{Hearing.{data_ground}, Message.{piece_ground}, Params.{calling_terms, called_terms}}
use Rattle.x25_circuit.specs.{code.Changes.{with_taken, with_peer, with_own}, declared.queue.Queue.{Queue}}
use Rattle.x25_window.specs.{Receiver.{FitsTaken}, declared.receiver.Receiver.{Receiver}}
use Rattle.x25_circuit.specs.declared.circuit.Circuit as code

pub with_transfer : (c : CircuitSettings) (v : code.Circuit) (x : Circuit) (u : Transfer) (made : has_memory v.state ≡ true → u.partial.made ≡ true) (t : Talk)
    → FitsCircuit c v x
    → FitsTalk (outgoing x).size u t → u.partial.longest ≡ v.transfer.partial.longest
    → FitsCircuit c (record v { transfer = u; made = made }) (record x { talk = t })
with_transfer c v x u made t fits talk kept = record {
  role = fits.role;
  long_data = fits.long_data;
  longest = kept ∙ fits.longest;
  state = fits.state;
  clears = fits.clears;
  resets = fits.resets;
  params = fits.params;
  calls = fits.calls;
  talk = talk;
}

-- the most octets of the packets that it takes
pub taken_size : (c : CircuitSettings) (v : code.Circuit) (x : Circuit) (n : ℕ) → FitsCircuit c v x
    → n ≡ (if not v.calls then calling_terms v.flow.params else called_terms v.flow.params).size → n ≡ (incoming x).size
taken_size c v x n fits is = is ∙ at v.calls ∙ ap (λ (b : Bool). (if b then called_terms v.flow.params else calling_terms v.flow.params).size) fits.calls
    ∙ ap (λ (p : Params). (if x.calls then called_terms p else calling_terms p).size) fits.params
  where
    at : (b : Bool) → (if not b then calling_terms v.flow.params else called_terms v.flow.params).size
        ≡ (if b then called_terms v.flow.params else calling_terms v.flow.params).size
    at true = refl
    at false = refl

pub same_longest : (p q : ShownPartial) → p ≡ q → p.longest ≡ q.longest
same_longest p q same = ap (λ (r : ShownPartial). r.longest) same

-- a transfer that was left as it is
pub same_transfer : (c : CircuitSettings) (v : code.Circuit) (x : Circuit) (u : Transfer) (made : has_memory v.state ≡ true → u.partial.made ≡ true)
    → FitsCircuit c v x → u ≡ v.transfer
    → FitsCircuit c (record v { transfer = u; made = made }) x
same_transfer c v x u made fits same = with_transfer c v x u made x.talk fits
    (subst (λ (w : Transfer). FitsTalk (outgoing x).size w x.talk) (sym same) fits.talk) (ap (λ (w : Transfer). w.partial.longest) same)

-- a circuit of which the transfer was left as it is
pub kept_circuit : (v : code.Circuit) (u : Transfer) (made : has_memory v.state ≡ true → u.partial.made ≡ true) → u ≡ v.transfer
    → ◌≡◌ {A = code.Circuit} (record v { transfer = u; made = made }) v
kept_circuit v u made same = subst (λ (w : Transfer). (kept : has_memory v.state ≡ true → w.partial.made ≡ true)
    → ◌≡◌ {A = code.Circuit} (record v { transfer = w; made = kept }) v) (sym same) here made
  where
    once : IsProp (has_memory v.state ≡ true → v.transfer.partial.made ≡ true)
    once = hlevel props

    here : (kept : has_memory v.state ≡ true → v.transfer.partial.made ≡ true) → ◌≡◌ {A = code.Circuit} (record v { made = kept }) v
    here kept = ap (λ (k : has_memory v.state ≡ true → v.transfer.partial.made ≡ true). record v { made = k }) (once kept v.made)

pub own_fits : (size : ℕ) (v : Transfer) (t : Talk) (b : Bool) → FitsTalk size v t → FitsTalk size (record v { own_ready = b }) (with_own b t)
own_fits size v t b fits = record {
  numbers = fits.numbers;
  taken = fits.taken;
  rest = fits.rest;
  part = fits.part;
  short = fits.short;
  unconfirmed = fits.unconfirmed;
  int_out = fits.int_out;
  peer_ready = fits.peer_ready;
  own_ready = refl;
}

pub peer_fits : (size : ℕ) (v : Transfer) (t : Talk) (b : Bool) → FitsTalk size v t → FitsTalk size (record v { peer_ready = b }) (with_peer b t)
peer_fits size v t b fits = record {
  numbers = fits.numbers;
  taken = fits.taken;
  rest = fits.rest;
  part = fits.part;
  short = fits.short;
  unconfirmed = fits.unconfirmed;
  int_out = fits.int_out;
  peer_ready = refl;
  own_ready = fits.own_ready;
}

pub taken_more : (r : Receiver) (b : Bool) (n : ℕ) → IsTrue b → FitsTaken r (if b then n + 1 else n) → FitsTaken r (n + 1)
taken_more r true n h fits = fits
taken_more r false n h fits = absurd (cc)

pub piece_ground_of : (longest size : ℕ) (j : Partial) (marks : Marks) (m : Bool) (user : List ℕ) → piece_ground longest size j (piece_of marks m user)
    ≡ ground_of longest size j (length user) marks.q
piece_ground_of longest size j marks true user = refl
piece_ground_of longest size j marks false user = refl

pub queue_fits : (size : ℕ) (v : Transfer) (t : Talk) (queue : Queue) (rest : List Piece) (unconfirmed : ℕ) → FitsTalk size v t → rest
    ≡ cut_all size (waiting queue)
    → unconfirmed ≡ asked_in (drop t.acked (t.sent ++ rest)) → FitsTalk size (record v { queue = queue; unconfirmed = unconfirmed }) (with_rest rest t)
queue_fits size v t queue rest unconfirmed fits cut asked = record {
  numbers = fits.numbers;
  taken = fits.taken;
  rest = cut;
  part = fits.part;
  short = fits.short;
  unconfirmed = asked;
  int_out = fits.int_out;
  peer_ready = fits.peer_ready;
  own_ready = fits.own_ready;
}

pub acked_fits : (size : ℕ) (v : Transfer) (t : Talk) (sender : Held Bool) (n unconfirmed : ℕ) → FitsTalk size v t → FitsNumbers sender n t.sent
    → unconfirmed ≡ asked_in (drop n (t.sent ++ t.rest)) → FitsTalk size (record v { sender = sender; unconfirmed = unconfirmed }) (with_acked n t)
acked_fits size v t sender n unconfirmed fits numbers asked = record {
  numbers = numbers;
  taken = fits.taken;
  rest = fits.rest;
  part = fits.part;
  short = fits.short;
  unconfirmed = asked;
  int_out = fits.int_out;
  peer_ready = fits.peer_ready;
  own_ready = fits.own_ready;
}

-- whether memory is made is no part of what is stood for
pub partial_fits : (size : ℕ) (v : Transfer) (t : Talk) (p : ShownPartial) → FitsTalk size v t → p.part ≡ v.partial.part → p.longest ≡ v.partial.longest
    → FitsTalk size (record v { partial = p }) t
partial_fits size v t p fits same longest = record {
  numbers = fits.numbers;
  taken = fits.taken;
  rest = fits.rest;
  part = same ∙ fits.part;
  short = subst (λ (j : Partial). length j.user ≤ p.longest) (sym same) (subst (λ (n : ℕ). length v.partial.part.user ≤ n) (sym longest) fits.short);
  unconfirmed = fits.unconfirmed;
  int_out = fits.int_out;
  peer_ready = fits.peer_ready;
  own_ready = fits.own_ready;
}

-- a packet more is taken
pub taken_fits : (size : ℕ) (v : Transfer) (t : Talk) (receiver : Receiver) (p : ShownPartial) (piece : Piece) → FitsTalk size v t
    → FitsTaken receiver (length t.taken + 1)
    → p.part ≡ joined v.partial.part piece → length p.part.user ≤ p.longest → FitsTalk size (record v { receiver = receiver; partial = p }) (with_taken piece t)
taken_fits size v t receiver p piece fits taken joins short = record {
  numbers = fits.numbers;
  taken = subst (FitsTaken receiver) (sym (length_push t.taken piece)) taken;
  rest = fits.rest;
  part = joins ∙ ap (λ (j : Partial). joined j piece) fits.part
      ∙ sym (joining_push no_part t.taken piece);
  short = short;
  unconfirmed = fits.unconfirmed;
  int_out = fits.int_out;
  peer_ready = fits.peer_ready;
  own_ready = fits.own_ready;
}

pub waits_are : (size : ℕ) (v : Transfer) (t : Talk) → FitsTalk size v t → wholes t.rest ≡ length (waiting v.queue)
waits_are size v t fits = ap wholes fits.rest ∙ wholes_all size (waiting v.queue)

-- ---- the grounds of a data packet

is_so : (b : Bool) → false ≡ not b → b ≡ true
is_so true e = refl
is_so false e = e

is_no : (b : Bool) → true ≡ not b → b ≡ false
is_no true e = e
is_no false e = refl

pub same_number : (m n : ℕ) → false ≡ not (m == n) → m ≡ n
same_number m n e = eqb-true m n (is_so (m == n) e)

-- where its P(R) is valid, and its P(S) isn't the one wanted
pub number_refused : (longest size ps pr wanted : ℕ) (t : Talk) (piece : Piece) → nat_le (resolved t.acked pr) (length t.sent) ≡ true
    → wanted ≡ length t.taken % 8 → true ≡ not (ps == wanted) → data_ground longest size t ps pr piece ≡ Some 1
number_refused longest size ps pr wanted t piece valid number differs = rw (valid, sym number, is_no (ps == wanted) differs) refl

-- where both are
pub data_ground_is : (longest size most least ps pr wanted : ℕ) (t : Talk) (marks : Marks) (m : Bool) (user : List ℕ) (j : Partial) (ground : Option ℕ)
    → most ≡ longest → least ≡ size → nat_le (resolved t.acked pr) (length t.sent) ≡ true → wanted ≡ length t.taken % 8 → false ≡ not (ps == wanted)
    → j ≡ joining no_part t.taken → ground ≡ ground_of most least j (length user) marks.q → data_ground longest size t ps pr (piece_of marks m user) ≡ ground
data_ground_is longest size most least ps pr wanted t marks m user j ground f e valid number same part is =
    let alike : ground_of most least j (length user) marks.q ≡ ground_of longest size (joining no_part t.taken) (length user) marks.q = rw (f, e, part) refl in
    rw (valid, sym number, is_so (ps == wanted) same) (piece_ground_of longest size (joining no_part t.taken) marks m user ∙ sym alike ∙ sym is)

-- no facilities are a facility field
pub no_field : IsFacilityField []
no_field = (record { packet_size = None; window_size = None }, record { sizes = tt; windows = tt }, refl)
