use Rattle.x25_layer.proofs.Names.{rules, ◌≡◌, ◌∙◌, ℕ, zero, suc, ◌+◌, ◌-◌, ◌<◌, ◌^◌, length, Bool, true, false, ◌||◌, Some, slice_get, sym, ap, ap₂, arith}
use Rattle.x25_layer.proofs.Names.{slice_get_within, slice_get-get_or, Circuit, clears_of, resets_of, HasCountsLeft, is_most, full_up_to}
use Rattle.std.proofs.lemmas.Bool.{eqb-false, or_parts}
use Rattle.x25_layer.proofs.FitLemmas.{below_next}
use Rattle.x25_circuit.specs.declared.circuit.Circuit as circuit_code
use Rattle.x25_layer.proofs.full.any_full.Goals as goal

full_more : (f : ℕ → Circuit) (k n : ℕ) → full_up_to f n ≡ true → full_up_to f (k + n) ≡ true
full_more f zero n full = let same : zero + n ≡ n = omega arith in rw same full
full_more f (suc k) n full =
    let next : suc k + n ≡ suc (k + n) = omega arith in
    rw next (ap (λ (b : Bool). b || (is_most (f (suc (k + n))).clears || is_most (f (suc (k + n))).resets)) (full_more f k n full))

full_found : (f : ℕ → Circuit) (i n : ℕ) → i < n → full_up_to f i ≡ false → (is_most (f (suc i)).clears || is_most (f (suc i)).resets) ≡ true → full_up_to f n
    ≡ true
full_found f i n low before here =
    let rest : n ≡ (n - suc i) + suc i = omega (arith, low) in
    ap (λ (m : ℕ). full_up_to f m) rest
    ∙ full_more f (n - suc i) (suc i) (ap (λ (b : Bool). b || (is_most (f (suc i)).clears || is_most (f (suc i)).resets)) before ∙ here)

most : (a b x y : ℕ) → a ≡ x → b ≡ y → (is_most a || is_most b) ≡ (is_most x || is_most y)
most a b x y p q = ap₂ (λ (n m : ℕ). is_most n || is_most m) p q

are_left : (clears resets : ℕ) (v : circuit_code.Circuit) → (is_most clears || is_most resets) ≡ false → clears < 2 ^ 64 → resets < 2 ^ 64
    → clears ≡ clears_of v → resets ≡ resets_of v → HasCountsLeft v
are_left clears resets v is low few same alike =
    let parts = or_parts (is_most clears) (is_most resets) is in
    let c = eqb-false clears (2 ^ 64 - 1) parts.0 in
    let r = eqb-false resets (2 ^ 64 - 1) parts.1 in
    record { clears = omega (arith, c, low, same); resets = omega (arith, r, few, alike) }

pub loop-circuit-preserved : goal.loop-circuit-preserved
loop-circuit-preserved c =
    let i : ℕ = c.loop-circuit.circuit-index in
    let low : i < length c.args.circuits.now = c.loop-circuit-test.true in
    let read = slice_get-get_or c.args.circuits.now i c.circuit-item.result low in
    let found : slice_get c.args.circuits.now i ≡ Some c.circuit-item.result = read ∙ ap (λ (y : circuit_code.Circuit). Some y) (sym c.circuit-item.is) in
    record {
      value = λ s f fits.
          let next : suc i ≡ i + 1 = omega arith in
          let here = most _ _ _ _ (c.counts-clears.ensures.clears s.circuit (f (suc i)) (fits i c.circuit-item.result found))
          (c.counts-clears.ensures.resets s.circuit (f (suc i)) (fits i c.circuit-item.result found)) in
          sym (ap (λ (n : ℕ). full_up_to f n) next)
          ∙ ap (λ (b : Bool). b || (is_most (f (suc i)).clears || is_most (f (suc i)).resets)) (c.loop-circuit.invariant.value s f fits)
          ∙ sym here ∙ c.if-clears-resets.false;
      left = below_next HasCountsLeft c.args.circuits.now i c.circuit-item.result found c.loop-circuit.invariant.left
          (are_left _ _ c.circuit-item.result c.if-clears-resets.false (search rules) (search rules)
          c.counts-clears.ensures.clears_held c.counts-clears.ensures.resets_held);
    }

pub returns-then-clears-resets-clause-value : goal.returns-then-clears-resets-clause-value
returns-then-clears-resets-clause-value c = λ s f fits.
    let i : ℕ = c.loop-circuit.circuit-index in
    let low : i < length c.args.circuits.now = c.loop-circuit-test.true in
    let read = slice_get-get_or c.args.circuits.now i c.circuit-item.result low in
    let found : slice_get c.args.circuits.now i ≡ Some c.circuit-item.result = read ∙ ap (λ (y : circuit_code.Circuit). Some y) (sym c.circuit-item.is) in
    let here = most _ _ _ _ (c.counts-clears.ensures.clears s.circuit (f (suc i)) (fits i c.circuit-item.result found))
    (c.counts-clears.ensures.resets s.circuit (f (suc i)) (fits i c.circuit-item.result found)) in
    sym (full_found f i (length c.args.circuits.now) low (c.loop-circuit.invariant.value s f fits) (sym here ∙ c.if-clears-resets.true))

pub returns-clause-value : goal.returns-clause-value
returns-clause-value c = λ s f fits.
    let all : c.loop-circuit.circuit-index ≡ length c.args.circuits.now = omega arith in
    sym (ap (λ (n : ℕ). full_up_to f n) (sym all) ∙ c.loop-circuit.invariant.value s f fits)

pub returns-clause-left : goal.returns-clause-left
returns-clause-left c = λ is k v at.
    let low = slice_get_within c.args.circuits.now k v at in
    c.loop-circuit.invariant.left k v (let e : k < c.loop-circuit.circuit-index = omega (arith, low) in e) at
