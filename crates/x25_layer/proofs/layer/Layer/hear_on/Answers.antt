use Rattle.x25_layer.proofs.Names.{rules, ◌≡◌, ◌∙◌, ℕ, suc, ◌-◌, ◌^◌, ◌&&◌, nat_lt, length, length-set, true, refl, sym, subst, arith, clears_of, resets_of}
use Rattle.x25_layer.proofs.Names.{plain_read, HasCountsLeft, is_number, IsOutside, IsIdle}
use Rattle.std.proofs.lemmas.Bool.{ltb-true}
use Rattle.x25_layer.proofs.{BusyLemmas.{idle_is, not_busy}, FitLemmas.{all_changed, rest_changed, both}}
use Rattle.x25_layer.proofs.HearLemmas.{read_there, place_of, heard_there, told_nothing, told_something, no_message}
use Rattle.x25_circuit.specs.declared.circuit.Circuit as circuit_code
use Rattle.x25_layer.proofs.layer.Layer.hear_on.Goals as goal

pub hear-packet-requires-clause-clears : goal.hear-packet-requires-clause-clears
hear-packet-requires-clause-clears c =
    let within : is_number (length c.args.self.now.circuits.items) c.args.channel ≡ true = search rules in
    (c.requires.left (c.from-place.result - 1) c.index_mut-circuit.result.now
    (read_there c.args.self.now.circuits.items c.args.channel c.from-place.result c.index_mut-circuit.result.now within c.from-place.ensures
    c.index_mut-circuit.ensures.value)).clears

pub hear-packet-requires-clause-resets : goal.hear-packet-requires-clause-resets
hear-packet-requires-clause-resets c =
    let within : is_number (length c.args.self.now.circuits.items) c.args.channel ≡ true = search rules in
    (c.requires.left (c.from-place.result - 1) c.index_mut-circuit.result.now
    (read_there c.args.self.now.circuits.items c.args.channel c.from-place.result c.index_mut-circuit.result.now within c.from-place.ensures
    c.index_mut-circuit.ensures.value)).resets

pub returns-then-is_none-collided : goal.returns-then-is_none-collided
returns-then-is_none-collided c =
    let within : is_number (length c.args.self.now.circuits.items) c.args.channel ≡ true = search rules in
    heard_there c.args.self.now _ c.args.channel c.from-place.result c.index_mut-circuit.result.now c.hear-packet.new.self (plain_read c.args.read.now)
    c.hear-packet.result _ _ _ within c.from-place.ensures c.index_mut-circuit.ensures.value c.if-self.false
    (record { role = refl; long_data = refl; ranges = refl; restarting = refl; restarts = refl }) refl c.hear-packet.ensures c.spell_owed.ensures.put
    (told_nothing _ c.args.channel c.is_none-2.result _ _ c.is_none-2.ensures c.if-is_none-collided.true)
    (λ _. refl) c.spell_owed.ensures.short
    (λ _. no_message c.is_none-2.result _ _ c.is_none-2.ensures c.if-is_none-collided.true)

pub returns : goal.returns
returns c =
    let within : is_number (length c.args.self.now.circuits.items) c.args.channel ≡ true = search rules in
    heard_there c.args.self.now _ c.args.channel c.from-place.result c.index_mut-circuit.result.now c.hear-packet.new.self (plain_read c.args.read.now)
    c.hear-packet.result _ _ _ within c.from-place.ensures c.index_mut-circuit.ensures.value c.if-self.false
    (record { role = refl; long_data = refl; ranges = refl; restarting = refl; restarts = refl }) refl c.hear-packet.ensures c.spell_owed.ensures.put
    refl
    (λ empty. absurd (told_something c.args.channel c.is_none-2.result _ _ c.is_none-2.ensures c.if-is_none-collided.false empty)) c.spell_owed.ensures.short
    (λ none. none)

-- ---- what is known of all circuits

pub invariant_of-self-clause-still : goal.invariant_of-self-clause-still
invariant_of-self-clause-still c =
    let within : is_number (length c.args.self.now.circuits.items) c.args.channel ≡ true = search rules in
    let on = place_of (length c.args.self.now.circuits.items) c.args.channel c.from-place.result within c.from-place.ensures in
    rest_changed (λ (k : ℕ) (v : circuit_code.Circuit). IsOutside c.note.new.self.words.items (suc k) → IsIdle v) c.args.self.now.circuits.items
    (c.from-place.result - 1) c.hear-packet.new.self
    (λ k v differs at out. c.args.self.now.still k v at (c.note.ensures.others (suc k) out))
    (λ out. idle_is c.hear-packet.new.self c.is_idle.result c.is_idle.ensures.value c.is_idle.ensures.none
    (not_busy _ (c.note.ensures.this (subst (λ (h : ℕ). IsOutside c.note.new.self.words.items h) on out))))

are_left : (clears resets : ℕ) (v : circuit_code.Circuit) → (nat_lt clears (2 ^ 64 - 1) && nat_lt resets (2 ^ 64 - 1)) ≡ true → clears ≡ clears_of v
    → resets ≡ resets_of v → HasCountsLeft v
are_left clears resets v is same alike =
    let both = both (nat_lt clears (2 ^ 64 - 1)) _ is in
    let low = ltb-true clears (2 ^ 64 - 1) both.0 in
    let few = ltb-true resets (2 ^ 64 - 1) both.1 in
    record { clears = omega (arith, low, same); resets = omega (arith, few, alike) }

pub invariant_of-self-clause-circuits_left : goal.invariant_of-self-clause-circuits_left
invariant_of-self-clause-circuits_left c = λ is.
    let known = both c.args.self.now.counts_left _ is in
    let counts = c.counts-clears.ensures in
    all_changed (λ (k : ℕ) (v : circuit_code.Circuit). HasCountsLeft v) c.args.self.now.circuits.items (c.from-place.result - 1)
    c.hear-packet.new.self (c.args.self.now.circuits_left known.0)
    (are_left _ _ c.hear-packet.new.self known.1 counts.clears_held counts.resets_held)

pub invariant_of-self-clause-places : goal.invariant_of-self-clause-places
invariant_of-self-clause-places c = c.note.ensures.places ∙ c.args.self.now.places
    ∙ sym (length-set c.args.self.now.circuits.items (c.from-place.result - 1) c.hear-packet.new.self)
