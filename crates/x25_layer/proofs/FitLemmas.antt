-- A layer's circuits, one by one.
use Rattle.x25_layer.proofs.Names.{◌≡◌, ◌⊎◌, inl, inr, ℕ, zero, suc, ◌+◌, ◌-◌, ◌<◌, ◌≤◌, List, [], ◌∷◌, ◌++◌, length, Option, Some, None, Bool, true, false}
use Rattle.x25_layer.proofs.Names.{slice_get, set, if◌then◌else◌, refl, sym, ap, subst, ◌∙◌, arith, Result, Ok, Err, get_or, not, ◌&&◌, ◌||◌, ◌==◌, eq-eqb}
use Rattle.x25_layer.proofs.Names.{none-some, same_Some, eqb-true, Circuit, is_open, waits, FitsCircuit, is_number, LayerSettings, Layer, is_channel, Name, ◌^◌}
use Rattle.x25_layer.proofs.Names.{take, IfSome, MatchOption, drop, slice_get_within, slice_get-get_or, awaited_by, is_any, clears_of, resets_of, Nothing}
use Rattle.std.proofs.{Common.{IfNone, Bor, OnErr}, lemmas.List.{append-nil, take_all}}
use Rattle.x25_layer.proofs.{Names.{name_of, FitsCircuits, FitsLayer, awaited_at, awaited_up_to, waits_up_to, is_most, full_up_to}, SettleLemmas.{not_same}}
use Rattle.x25_layer.specs.code.{Counts.{HasCountsLeft, HaveCountsLeft}, FitsLayer.{name_at, params_at, is_open_at, unacknowledged_at}}
use Rattle.x25_circuit.specs.Circuit.{unacknowledged}
use Rattle.x25_circuit.specs.declared.circuit.Circuit as circuit_code
use Rattle.x25_layer.specs.declared.layer.Layer as code

not_false : true ≡ false → ⊥
not_false e = cc

-- an element of a list with one more
pub get_push : {X : Type 0} (xs : List X) (y v : X) (k : ℕ) → slice_get (xs ++ y ∷ []) k ≡ Some v → (slice_get xs k ≡ Some v) ⊎ ((k ≡ length xs) × (y ≡ v))
get_push [] y v zero is = inr (refl, same_Some y v is)
get_push (x ∷ xs) y v (suc k) is = next (get_push xs y v k is)
  where
    next : (slice_get xs k ≡ Some v) ⊎ ((k ≡ length xs) × (y ≡ v)) → (slice_get xs k ≡ Some v) ⊎ ((suc k ≡ length (x ∷ xs)) × (y ≡ v))
    next (inl e) = inl e
    next (inr p) = inr (ap suc p.0, p.1)
get_push xs y v k is = inl is

-- what is read of a list with one changed
pub get_changed : {X : Type 0} (xs : List X) (y v : X) (i k : ℕ) → slice_get (set xs i y) k ≡ Some v → ((k ≡ i) × (y ≡ v))
    ⊎ ((k ≡ i → ⊥) × (slice_get xs k ≡ Some v))
get_changed [] y v i k is = absurd (none-some v is)
get_changed (x ∷ xs) y v zero zero is = inl (refl, same_Some y v is)
get_changed (x ∷ xs) y v (suc i) (suc k) is = next (get_changed xs y v i k is)
  where
    next : ((k ≡ i) × (y ≡ v)) ⊎ ((k ≡ i → ⊥) × (slice_get xs k ≡ Some v)) → ((suc k ≡ suc i) × (y ≡ v)) ⊎ ((suc k ≡ suc i → ⊥) × (slice_get xs k ≡ Some v))
    next (inl p) = inl (ap suc p.0, p.1)
    next (inr p) = inr ((λ e. p.0 (let f : k ≡ i = omega (arith, e) in f)), p.1)
get_changed (x ∷ xs) y v i k is = inr ((λ e. omega (arith, e)), is)

-- each place within has an element
pub there : {X : Type 0} (xs : List X) (i : ℕ) → i < length xs → (x : X) × (slice_get xs i ≡ Some x)
there [] i low = absurd (omega (arith, low))
there (x ∷ xs) zero low = (x, refl)
there (x ∷ xs) (suc i) low = there xs i (let e : i < length xs = omega (arith, low) in e)

-- a read at a place within
pub read_at : {X : Type 0} (xs : List X) (i : ℕ) (x : X) → i < length xs → x ≡ get_or xs i x → slice_get xs i ≡ Some x
read_at xs i x low is = slice_get-get_or xs i x low ∙ ap (λ y. Some y) (sym is)

drop_past : {X : Type 0} (n : ℕ) (xs : List X) → length xs ≤ n → drop n xs ≡ []
drop_past zero [] low = refl
drop_past zero (x ∷ xs) low = absurd (omega (arith, low))
drop_past (suc n) [] low = refl
drop_past (suc n) (x ∷ xs) low = drop_past n xs (let e : length xs ≤ n = omega (arith, low) in e)

-- what a loop over all elements of a vector leaves in it
pub written_back : {X : Type 0} (n : ℕ) (old new : List X) → length old ≤ n → length new ≡ length old → take n (new ++ drop (length new) old) ≡ new
written_back n old new high same =
    let behind : drop (length new) old ≡ [] = drop_past (length new) old (let e : length old ≤ length new = omega (arith, same) in e) in
    ap (λ (r : List _). take n (new ++ r)) behind ∙ ap (λ (r : List _). take n r) (append-nil new)
    ∙ take_all n new (let e : length new ≤ n = omega (arith, high, same) in e)

pub fits_push : (c : LayerSettings) (vs : List circuit_code.Circuit) (v : circuit_code.Circuit) (f : ℕ → Circuit) → FitsCircuits c vs f
    → FitsCircuit c.circuit v (f (suc (length vs))) → FitsCircuits c (vs ++ v ∷ []) f
fits_push c vs v f fits fit k w is = by (get_push vs v w k is)
  where
    by : (slice_get vs k ≡ Some w) ⊎ ((k ≡ length vs) × (v ≡ w)) → FitsCircuit c.circuit w (f (suc k))
    by (inl e) = fits k w e
    by (inr p) = subst (λ (x : circuit_code.Circuit). FitsCircuit c.circuit x (f (suc k))) p.1
        (subst (λ (n : ℕ). FitsCircuit c.circuit v (f (suc n))) (sym p.0) fit)

-- the name of a configured channel
pub named : (c : LayerSettings) (v : code.Layer) (l : Layer) (h : ℕ) → FitsLayer c v l → is_number (length v.circuits.items) h ≡ true → Some (name_of l h)
    ≡ name_at c l h
named c v l h fits is =
    let same : is_channel c.channels h ≡ true = subst (λ (n : ℕ). is_number n h ≡ true) fits.channels is in
    sym (ap (λ (b : Bool). if b then Some (name_of l h) else None) same)

-- the name, as a circuit has its counts
pub counted : (l : Layer) (h restarts clears resets : ℕ) → restarts ≡ l.restarts → clears ≡ (l.circuits h).clears → resets ≡ (l.circuits h).resets
    → Some (record { restarts = restarts; clears = clears; resets = resets }) ≡ Some (name_of l h)
counted l h restarts clears resets e₁ e₂ e₃ =
    let n : (a b d : ℕ) → Option Name = λ a b d. Some (record { restarts = a; clears = b; resets = d }) in
    ap (λ (a : ℕ). n a clears resets) e₁ ∙ ap (λ (b : ℕ). n l.restarts b resets) e₂ ∙ ap (λ (d : ℕ). n l.restarts (l.circuits h).clears d) e₃

-- packet sizes and windows on a configured channel
pub agreed : (c : LayerSettings) (v : code.Layer) (l : Layer) (h : ℕ) → FitsLayer c v l → is_number (length v.circuits.items) h ≡ true
    → Some (l.circuits h).params ≡ params_at c l h
agreed c v l h fits is =
    let same : is_channel c.channels h ≡ true = subst (λ (n : ℕ). is_number n h ≡ true) fits.channels is in
    sym (ap (λ (b : Bool). if b then Some (l.circuits h).params else None) same)

pub opened : (c : LayerSettings) (v : code.Layer) (l : Layer) (h : ℕ) (b : Bool) → FitsLayer c v l → is_number (length v.circuits.items) h ≡ b
    → (if b then is_open (l.circuits h) else false) ≡ is_open_at c l h
opened c v l h b fits is =
    let same : is_channel c.channels h ≡ b = subst (λ (n : ℕ). is_number n h ≡ b) fits.channels is in
    sym (ap (λ (a : Bool). if a then is_open (l.circuits h) else false) same)

pub first_out : (c : LayerSettings) (v : code.Layer) (l : Layer) (h : ℕ) (b : Bool) → FitsLayer c v l → v.restarting ≡ false
    → is_number (length v.circuits.items) h ≡ b → (if b then unacknowledged (l.circuits h) else None) ≡ unacknowledged_at c l h
first_out c v l h b fits ready is =
    let same : is_channel c.channels h ≡ b = subst (λ (n : ℕ). is_number n h ≡ b) fits.channels is in
    sym (ap (λ (r : Bool). if r then None else if is_channel c.channels h then unacknowledged (l.circuits h) else None) (sym fits.restarting ∙ ready)
    ∙ ap (λ (a : Bool). if a then unacknowledged (l.circuits h) else None) same)

pub awaited : (c : LayerSettings) (v : code.Layer) (l : Layer) (h : ℕ) (b : Bool) → FitsLayer c v l → is_number (length v.circuits.items) h ≡ b
    → (if b then awaited_by (l.circuits h) else Nothing) ≡ awaited_at c l h
awaited c v l h b fits is =
    let same : is_channel c.channels h ≡ b = subst (λ (n : ℕ). is_number n h ≡ b) fits.channels is in
    sym (ap (λ (a : Bool). if a then awaited_by (l.circuits h) else Nothing) same)

-- The circuits below a place have changed, and the others are as they were.
pub record ChangedBelow (c : LayerSettings) (n : ℕ) (vs : List circuit_code.Circuit) (f g : ℕ → Circuit) : Type 0 where
  pub below : (k : ℕ) (v : circuit_code.Circuit) → k < n → slice_get vs k ≡ Some v → FitsCircuit c.circuit v (g (suc k))
  pub above : (k : ℕ) (v : circuit_code.Circuit) → n ≤ k → slice_get vs k ≡ Some v → FitsCircuit c.circuit v (f (suc k))

-- no circuit is changed yet
pub changed_none : (c : LayerSettings) (vs : List circuit_code.Circuit) (f g : ℕ → Circuit) → FitsCircuits c vs f → ChangedBelow c 0 vs f g
changed_none c vs f g fits = record { below = λ k v less is. absurd (omega (arith, less)); above = λ k v least is. fits k v is }

-- one circuit more is changed
pub changed_more : (c : LayerSettings) (n : ℕ) (vs : List circuit_code.Circuit) (f g : ℕ → Circuit) (y : circuit_code.Circuit) → ChangedBelow c n vs f g
    → FitsCircuit c.circuit y (g (suc n)) → ChangedBelow c (n + 1) (set vs n y) f g
changed_more c n vs f g y b fit = record {
  below = λ k v less is. under k v less (get_changed vs y v n k is);
  above = λ k v least is. over k v least (get_changed vs y v n k is);
}
  where
    under : (k : ℕ) (v : circuit_code.Circuit) → k < n + 1 → ((k ≡ n) × (y ≡ v)) ⊎ ((k ≡ n → ⊥) × (slice_get vs k ≡ Some v))
        → FitsCircuit c.circuit v (g (suc k))
    under k v less (inl p) = subst (λ (x : circuit_code.Circuit). FitsCircuit c.circuit x (g (suc k))) p.1
        (subst (λ (m : ℕ). FitsCircuit c.circuit y (g (suc m))) (sym p.0) fit)
    under k v less (inr p) = b.below k v (let differs : k ≡ n → ⊥ = p.0 in let e : k < n = grind arith in e) p.1

    over : (k : ℕ) (v : circuit_code.Circuit) → n + 1 ≤ k → ((k ≡ n) × (y ≡ v)) ⊎ ((k ≡ n → ⊥) × (slice_get vs k ≡ Some v))
        → FitsCircuit c.circuit v (f (suc k))
    over k v least (inl p) = let same : k ≡ n = p.0 in absurd (omega (arith, least, same))
    over k v least (inr p) = b.above k v (let e : n ≤ k = omega (arith, least) in e) p.1

-- all are changed where those below are all of them
pub changed_all : (c : LayerSettings) (n : ℕ) (vs : List circuit_code.Circuit) (f g : ℕ → Circuit) → ChangedBelow c n vs f g → length vs ≤ n
    → FitsCircuits c vs g
changed_all c n vs f g b high k v is = let low : k < length vs = slice_get_within vs k v is in b.below k v (let e : k < n = omega (arith, low, high) in e) is

-- how many messages wait in one channel more
pub waits_more : (c : LayerSettings) (f : ℕ → Circuit) (n count more : ℕ) → count ≡ waits_up_to f n → more ≡ waits (f (suc n)) → count + more
    ≡ waits_up_to f (n + 1)
waits_more c f n count more e₁ e₂ =
    let step : waits_up_to f (suc n) ≡ waits_up_to f (n + 1) = ap (λ (m : ℕ). waits_up_to f m) (let e : suc n ≡ n + 1 = omega arith in e) in
    ap (λ (a : ℕ). a + more) e₁ ∙ ap (λ (a : ℕ). waits_up_to f n + a) e₂ ∙ step

-- on how many channels an answer is awaited, with one more
pub awaited_more : (f : ℕ → Circuit) (n count more : ℕ) → count ≡ awaited_up_to f n → more ≡ (if is_any (awaited_by (f (suc n))) then 1 else 0) → count
    + more ≡ awaited_up_to f (n + 1)
awaited_more f n count more e₁ e₂ =
    let step : awaited_up_to f (suc n) ≡ awaited_up_to f (n + 1) = ap (λ (m : ℕ). awaited_up_to f m) (let e : suc n ≡ n + 1 = omega arith in e) in
    ap (λ (a : ℕ). a + more) e₁ ∙ ap (λ (a : ℕ). awaited_up_to f n + a) e₂ ∙ step

-- what is found at the place of a channel
pub fits_found : (c : LayerSettings) (v : code.Layer) (l : Layer) (h : ℕ) (x : circuit_code.Circuit) → FitsLayer c v l → 1 ≤ h
    → slice_get v.circuits.items (h - 1) ≡ Some x → FitsCircuit c.circuit x (l.circuits h)
fits_found c v l h x fits low is =
    let same : suc (h - 1) ≡ h = omega (arith, low) in
    subst (λ (k : ℕ). FitsCircuit c.circuit x (l.circuits k)) same (fits.circuits (h - 1) x is)

-- the same, by a look-up in the vector
pub looked_up : (c : LayerSettings) (v : code.Layer) (l : Layer) (h : ℕ) (xs : List circuit_code.Circuit) (o : Option (Bor circuit_code.Circuit))
    (Y : Bor circuit_code.Circuit → Type 0) → FitsLayer c v l → 1 ≤ h → xs ≡ v.circuits.items
    → IfSome o (λ x. x.now ≡ get_or xs (h - 1) x.now) → MatchOption o (length xs ≤ h - 1) (λ x. (h - 1 < length xs) × Y x)
    → IfSome o (λ x. FitsCircuit c.circuit x.now (l.circuits h))
looked_up c v l h xs None Y fits low same read within = tt
looked_up c v l h xs (Some x) Y fits low same read within =
    fits_found c v l h x.now fits low (subst (λ (ys : List circuit_code.Circuit). slice_get ys (h - 1) ≡ Some x.now) same
    (read_at xs (h - 1) x.now within.0 read))

pub on_err : {T E : Type 0} (r : Result T E) {P : Type 0} → P → OnErr r P
on_err (Ok x) p = tt
on_err (Err e) p = p

-- what holds of the others holds of each with one changed
pub rest_changed : {X : Type 0} (P : ℕ → X → Type 0) (xs : List X) (i : ℕ) (y : X) → ((k : ℕ) (v : X) → (k ≡ i → ⊥) → slice_get xs k ≡ Some v → P k v) → P i y
    → (k : ℕ) (v : X) → slice_get (set xs i y) k ≡ Some v → P k v
rest_changed P xs i y rest here k v is = by (get_changed xs y v i k is)
  where
    by : ((k ≡ i) × (y ≡ v)) ⊎ ((k ≡ i → ⊥) × (slice_get xs k ≡ Some v)) → P k v
    by (inl p) = subst (λ (u : _). P k u) p.1 (subst (λ (n : ℕ). P n y) (sym p.0) here)
    by (inr p) = rest k v p.0 p.1

-- what holds of each element holds with one changed
pub all_changed : {X : Type 0} (P : ℕ → X → Type 0) (xs : List X) (i : ℕ) (y : X) → ((k : ℕ) (v : X) → slice_get xs k ≡ Some v → P k v) → P i y
    → (k : ℕ) (v : X) → slice_get (set xs i y) k ≡ Some v → P k v
all_changed P xs i y all here = rest_changed P xs i y (λ k v differs is. all k v is) here

pub neither : (a b : Bool) → (a || b) ≡ false → (a ≡ false) × (b ≡ false)
neither false b is = (refl, is)
neither true b is = absurd (cc)

pub both : (a b : Bool) → (a && b) ≡ true → (a ≡ true) × (b ≡ true)
both true b is = (refl, is)
both false b is = absurd (cc)

-- what isn't true is false
pub not_true : (b : Bool) → not b ≡ true → b ≡ false
not_true false is = refl
not_true true is = absurd (cc)

pub either : (a b : Bool) → (a || b) ≡ true → (a ≡ true) ⊎ (b ≡ true)
either true b is = inl refl
either false b is = inr is

-- what holds of each element below a place, and of the one there
pub below_next : {X : Type 0} (P : X → Type 0) (xs : List X) (i : ℕ) (y : X) → slice_get xs i ≡ Some y
    → ((k : ℕ) (v : X) → k < i → slice_get xs k ≡ Some v → P v) → P y → (k : ℕ) (v : X) → k < i + 1 → slice_get xs k ≡ Some v → P v
below_next {X} P xs i y at below here k v low is = by (k == i) refl
  where
    by : (b : Bool) → (k == i) ≡ b → P v
    by true e =
        let same : k ≡ i = eqb-true k i e in
        subst P (same_Some y v (sym at ∙ ap (λ (n : ℕ). slice_get xs n) (sym same) ∙ is)) here
    by false e = below k v (let differs : k ≡ i → ⊥ = λ same. absurd (not_false (sym (eq-eqb k i same) ∙ e)) in
        let less : k < i = grind (arith, low, differs) in less) is

-- what follows where there is none
pub if_none : {X : Type 0} {P Q : Type 0} (o : Option X) → (P → Q) → IfNone o P → IfNone o Q
if_none None by p = by p
if_none (Some x) by p = tt

-- the same counts
pub counts_left : (v w : circuit_code.Circuit) → clears_of w ≡ clears_of v → resets_of w ≡ resets_of v → HasCountsLeft v → HasCountsLeft w
counts_left v w clears resets left =
    let a = left.clears in
    let b = left.resets in
    record { clears = omega (arith, a, clears); resets = omega (arith, b, resets) }

-- no count of the channels up to a number is at its most
pub none_full : (c : LayerSettings) (vs : List circuit_code.Circuit) (f : ℕ → Circuit) (n : ℕ) → n ≤ length vs → FitsCircuits c vs f → HaveCountsLeft vs
    → full_up_to f n ≡ false
none_full c vs f zero low fits have = refl
none_full c vs f (suc n) low fits have =
    let found = there vs n (let e : n < length vs = omega (arith, low) in e) in
    let fit = fits n found.0 found.1 in
    let left = have n found.0 found.1 in
    let clears : is_most (f (suc n)).clears ≡ false = not_same (f (suc n)).clears (2 ^ 64 - 1)
    (λ most. let a = left.clears in let b = fit.clears in omega (arith, most, a, b)) in
    let resets : is_most (f (suc n)).resets ≡ false = not_same (f (suc n)).resets (2 ^ 64 - 1)
    (λ most. let a = left.resets in let b = fit.resets in omega (arith, most, a, b)) in
    ap (λ (b : Bool). b || (is_most (f (suc n)).clears || is_most (f (suc n)).resets))
    (none_full c vs f n (let e : n ≤ length vs = omega (arith, low) in e) fits have)
    ∙ ap (λ (b : Bool). b || is_most (f (suc n)).resets) clears
    ∙ resets
