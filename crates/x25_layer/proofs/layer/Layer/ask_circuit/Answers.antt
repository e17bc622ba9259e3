use Rattle.x25_layer.proofs.Names.{ℕ, suc, ◌-◌, ◌∙◌, Err, refl, sym, ap, subst, length-set, outcome, plain_request, FitsCircuit, CircuitError, HasCountsLeft}
use Rattle.x25_layer.proofs.{BusyLemmas.{true_false}, CallLemmas.{found_at, asks_ok, asks_err, asks_some, memory_is, err_is, layer_kept}}
use Rattle.x25_layer.proofs.{FitLemmas.{all_changed, counts_left}, HearLemmas.{read_there, place_of}, Names.{IsOutside, IsIdle}}
use Rattle.x25_circuit.specs.declared.circuit.Circuit as circuit_code
use Rattle.x25_layer.proofs.layer.Layer.ask_circuit.Goals as goal

pub returns-in-Ok-clause-outcome : goal.returns-in-Ok-clause-outcome
returns-in-Ok-clause-outcome c = λ s l fits.
    let at = found_at s c.args.self.now l c.args.channel c.from-place.result c.index_mut.result.now fits c.requires c.from-place.ensures
    c.index_mut.ensures.value in
    asks_ok s c.args.self.now _ l c.args.channel (c.from-place.result - 1) c.ask.new.self c.in-Ok.packet
    (outcome s.circuit (l.circuits c.args.channel) (plain_request c.args.request)) fits at.0
    (record { role = refl; long_data = refl; ranges = refl; restarting = refl; restarts = refl }) refl
    (c.in-Ok.ensures.outcome s.circuit (l.circuits c.args.channel) at.1)

pub returns-in-Err-clause-outcome : goal.returns-in-Err-clause-outcome
returns-in-Err-clause-outcome c = λ s l fits.
    let at = found_at s c.args.self.now l c.args.channel c.from-place.result c.index_mut.result.now fits c.requires c.from-place.ensures
    c.index_mut.ensures.value in
    rw c.of_circuit.ensures
    (asks_err s c.args.self.now l c.args.channel c.ask.new.self c.in-Err.error (outcome s.circuit (l.circuits c.args.channel) (plain_request c.args.request))
    (c.in-Err.ensures.outcome s.circuit (l.circuits c.args.channel) at.1)
    (λ none. (c.in-Err.ensures.memory (ap (λ (e : CircuitError). Err e) none)).accepted s.circuit (l.circuits c.args.channel) at.1))

pub returns-in-Err-clause-missing : goal.returns-in-Err-clause-missing
returns-in-Err-clause-missing c = λ is.
    asks_some c.index_mut.result.now (plain_request c.args.request)
    (c.in-Err.ensures.memory (ap (λ (e : CircuitError). Err e) (memory_is c.in-Err.error (sym c.of_circuit.ensures ∙ err_is _ _ is)))).asks

pub returns-in-Err-clause-fits : goal.returns-in-Err-clause-fits
returns-in-Err-clause-fits c = λ s l fits.
    let at = found_at s c.args.self.now l c.args.channel c.from-place.result c.index_mut.result.now fits c.requires c.from-place.ensures
    c.index_mut.ensures.value in
    layer_kept s c.args.self.now _ l c.args.channel (c.from-place.result - 1) c.ask.new.self fits at.0
    (record { role = refl; long_data = refl; ranges = refl; restarting = refl; restarts = refl }) refl
    (subst (λ (v : circuit_code.Circuit). FitsCircuit s.circuit v (l.circuits c.args.channel)) (sym c.in-Err.ensures.unchanged) at.1)

pub invariant_of-self-clause-circuits_left : goal.invariant_of-self-clause-circuits_left
invariant_of-self-clause-circuits_left c = λ is.
    let have = c.args.self.now.circuits_left is in
    let here = have (c.from-place.result - 1) c.index_mut.result.now
    (read_there c.args.self.now.circuits.items c.args.channel c.from-place.result c.index_mut.result.now c.requires c.from-place.ensures
    c.index_mut.ensures.value) in
    all_changed (λ (k : ℕ) (v : circuit_code.Circuit). HasCountsLeft v) c.args.self.now.circuits.items (c.from-place.result - 1) c.ask.new.self have
    (counts_left _ c.ask.new.self c.ask.ensures.clears c.ask.ensures.resets here)

pub invariant_of-self-clause-still : goal.invariant_of-self-clause-still
invariant_of-self-clause-still c =
    all_changed (λ (k : ℕ) (v : circuit_code.Circuit). IsOutside c.note.new.self.words.items (suc k) → IsIdle v) c.args.self.now.circuits.items
    (c.from-place.result - 1) c.ask.new.self
    (λ k v at out. c.args.self.now.still k v at (c.note.ensures.others (suc k) out))
    (λ out. absurd (true_false (c.note.ensures.this
    (subst (λ (h : ℕ). IsOutside c.note.new.self.words.items h) (place_of _ c.args.channel c.from-place.result c.requires c.from-place.ensures) out))))

pub invariant_of-self-clause-places : goal.invariant_of-self-clause-places
invariant_of-self-clause-places c = c.note.ensures.places ∙ c.args.self.now.places
    ∙ sym (length-set c.args.self.now.circuits.items (c.from-place.result - 1) c.ask.new.self)
