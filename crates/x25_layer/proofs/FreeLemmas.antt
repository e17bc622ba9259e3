-- The lowest and the highest free channel, one channel at a time.
use Rattle.x25_layer.proofs.Names.{◌≡◌, ◌⊎◌, inl, inr, ℕ, zero, suc, ◌+◌, ◌-◌, ◌<◌, ◌≤◌, List, length, Option, Some, None, Bool, true, false, if◌then◌else◌}
use Rattle.x25_layer.proofs.Names.{get_or, sym, ap, ◌∙◌, arith, Role, CircuitSettings, Circuit, is_free, FitsCircuit, LayerSettings, Ranges, FitsCircuits}
use Rattle.x25_layer.proofs.{FitLemmas.{read_at}, Names.{first_of, lowest_free, highest_free, first_free, where_callable}, SettleLemmas.{split}}
use Rattle.x25_layer.specs.Ranges.{may_call}
use Rattle.x25_circuit.specs.declared.circuit.Circuit as circuit_code

-- whether the circuit at a place is free
pub freed : (c : LayerSettings) (vs : List circuit_code.Circuit) (f : ℕ → Circuit) (i : ℕ) (v : circuit_code.Circuit) (b : Bool) → FitsCircuits c vs f
    → i < length vs → v ≡ get_or vs i v
    → ((s : CircuitSettings) (x : Circuit) → FitsCircuit s v x → b ≡ is_free x) → is_free (f (suc i)) ≡ b
freed c vs f i v b fits low read told = sym (told c.circuit (f (suc i)) (fits i v (read_at vs i v low read)))

lowest_next : (f : ℕ → Circuit) (i : ℕ) (b : Bool) → lowest_free f i ≡ None → is_free (f (suc i)) ≡ b → lowest_free f (suc i)
    ≡ (if b then Some (suc i) else None)
lowest_next f i b none is = ap (λ (o : Option ℕ). first_of o (is_free (f (suc i))) (suc i)) none ∙ ap (λ (a : Bool). if a then Some (suc i) else None) is

pub lowest_none : (f : ℕ → Circuit) (i : ℕ) → lowest_free f i ≡ None → is_free (f (suc i)) ≡ false → lowest_free f (i + 1) ≡ None
lowest_none f i none is = ap (λ (n : ℕ). lowest_free f n) (let e : i + 1 ≡ suc i = omega arith in e) ∙ lowest_next f i false none is

lowest_stays : (f : ℕ → Circuit) (m n k : ℕ) → lowest_free f m ≡ Some k → m ≤ n → lowest_free f n ≡ Some k
lowest_stays f zero zero k is low = is
lowest_stays f (suc m) zero k is low = absurd (omega (arith, low))
lowest_stays f m (suc n) k is low = by (split m n low) (λ small. lowest_stays f m n k is small)
  where
    by : (m ≤ n) ⊎ (m ≡ suc n) → (m ≤ n → lowest_free f n ≡ Some k) → lowest_free f (suc n) ≡ Some k
    by (inl small) below = ap (λ (o : Option ℕ). first_of o (is_free (f (suc n))) (suc n)) (below small)
    by (inr same) below = ap (λ (a : ℕ). lowest_free f a) (sym same) ∙ is

pub lowest_some : (f : ℕ → Circuit) (i n channel : ℕ) → channel ≡ i → lowest_free f i ≡ None → is_free (f (suc i)) ≡ true → i < n → Some (channel + 1)
    ≡ lowest_free f n
lowest_some f i n channel at none is low =
    ap (λ (k : ℕ). Some k) (let e : channel + 1 ≡ suc i = omega (arith, at) in e) ∙ sym (lowest_stays f (suc i) n (suc i) (lowest_next f i true none is) low)

pub highest_at : (f : ℕ → Circuit) (n : ℕ) (b : Bool) → 0 < n → is_free (f (suc (n - 1))) ≡ b → highest_free f n
    ≡ (if b then Some n else highest_free f (n - 1))
highest_at f zero b low is = absurd (omega (arith, low))
highest_at f (suc m) b low is =
    let back : suc m - 1 ≡ m = omega arith in
    ap (λ (a : Bool). if a then Some (suc m) else highest_free f m) (ap (λ (k : ℕ). is_free (f (suc k))) (sym back) ∙ is)
    ∙ ap (λ (k : ℕ). if b then Some (suc m) else highest_free f k) (sym back)

pub free_by_role : (r s : Role) (f : ℕ → Circuit) (n m : ℕ) → r ≡ s → n ≡ m → first_free r f n ≡ first_free s f m
free_by_role r s f n m e d = ap (λ (t : Role). first_free t f n) e ∙ ap (λ (k : ℕ). first_free s f k) d

pub callable_by : (r s : Role) (n m : Ranges) (h : ℕ) (b : Bool) → r ≡ s → n ≡ m → may_call r n h ≡ b → (if b then Some h else None)
    ≡ where_callable s m (Some h)
callable_by r s n m h b e d is = ap (λ (a : Bool). if a then Some h else None)
    (sym is ∙ ap (λ (t : Role). may_call t n h) e ∙ ap (λ (k : Ranges). may_call s k h) d)
