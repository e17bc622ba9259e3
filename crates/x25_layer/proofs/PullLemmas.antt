-- One circuit pulled, and changed.
use Rattle.x25_layer.proofs.Names.{◌≡◌, ℕ, suc, ◌+◌, List, [], ◌∷◌, length, Some, None, Bool, true, false, nat_lt, ◌==◌, ◌&&◌, if◌then◌else◌, set, slice_get}
use Rattle.x25_layer.proofs.Names.{refl, sym, ap, subst, ◌∙◌, ◌⊎◌, inl, inr, arith, eq-eqb, none-some, PlainPacket, State, Open, Piece, CircuitSettings, Talk}
use Rattle.x25_layer.proofs.Names.{Circuit, outgoing, Pulled, pulls_nothing, pull_open, pull_in, pulled, FitsCircuit, LayerSettings, put_at, FitsCircuits}
use Rattle.x25_layer.proofs.FitLemmas.{get_changed}
use Rattle.x25_layer.proofs.SettleLemmas.{put_other, not_same}
use Rattle.x25_circuit.specs.declared.circuit.Circuit as circuit_code

-- a pull that gives none leaves the circuit as it was

kept_if : (b : Bool) (next : Pulled) (x : Circuit) (p : PlainPacket) → next.packet ≡ Some p → (if b then next else pulls_nothing x).packet ≡ None
    → (if b then next else pulls_nothing x).next ≡ x
kept_if true next x p some none = absurd (none-some p (sym none ∙ some))
kept_if false next x p some none = refl

none_kept_open : (c : CircuitSettings) (x : Circuit) (t : Talk) (rest : List Piece) → (pull_open c x t rest).packet ≡ None → (pull_open c x t rest).next ≡ x
none_kept_open c x t [] none = refl
none_kept_open c x t (piece ∷ rest) none = kept_if (t.peer_ready && nat_lt (length t.sent) (t.acked + (outgoing x).window)) _ x _ refl none

pub none_kept : (c : CircuitSettings) (x : Circuit) → (pulled c x).packet ≡ None → (pulled c x).next ≡ x
none_kept c x none = at x.state none
  where
    at : (s : State) → (pull_in c x s).packet ≡ None → (pull_in c x s).next ≡ x
    at Open is = none_kept_open c x x.talk x.talk.rest is
    at s is = refl

-- circuits with another one on one channel

-- a circuit that fits what stood there is put at its place
pub fits_same : (c : LayerSettings) (vs : List circuit_code.Circuit) (f : ℕ → Circuit) (i : ℕ) (v : circuit_code.Circuit) → FitsCircuits c vs f
    → FitsCircuit c.circuit v (f (suc i)) → FitsCircuits c (set vs i v) f
fits_same c vs f i v fits fit k w is = by (get_changed vs v w i k is)
  where
    by : ((k ≡ i) × (v ≡ w)) ⊎ ((k ≡ i → ⊥) × (slice_get vs k ≡ Some w)) → FitsCircuit c.circuit w (f (suc k))
    by (inl p) = subst (λ (u : circuit_code.Circuit). FitsCircuit c.circuit u (f (suc k))) p.1
        (subst (λ (n : ℕ). FitsCircuit c.circuit v (f (suc n))) (sym p.0) fit)
    by (inr p) = fits k w p.1

put_here : (f : ℕ → Circuit) (h : ℕ) (y : Circuit) → put_at f h y h ≡ y
put_here f h y = ap (λ (b : Bool). if b then y else f h) (eq-eqb h h refl)

put_elsewhere : (f : ℕ → Circuit) (h k : ℕ) (y : Circuit) → (k ≡ h → ⊥) → put_at f h y k ≡ f k
put_elsewhere f h k y differ = put_other (k == h) y (f k) (not_same k h differ)

-- a circuit is put at its place
pub fits_put : (c : LayerSettings) (vs : List circuit_code.Circuit) (f : ℕ → Circuit) (i : ℕ) (v : circuit_code.Circuit) (y : Circuit) → FitsCircuits c vs f
    → FitsCircuit c.circuit v y → FitsCircuits c (set vs i v) (put_at f (suc i) y)
fits_put c vs f i v y fits fit k w is = by (get_changed vs v w i k is)
  where
    by : ((k ≡ i) × (v ≡ w)) ⊎ ((k ≡ i → ⊥) × (slice_get vs k ≡ Some w)) → FitsCircuit c.circuit w (put_at f (suc i) y (suc k))
    by (inl p) =
        subst (λ (u : circuit_code.Circuit). FitsCircuit c.circuit u (put_at f (suc i) y (suc k))) p.1
        (subst (λ (n : ℕ). FitsCircuit c.circuit v (put_at f (suc i) y (suc n))) (sym p.0)
        (subst (λ (z : Circuit). FitsCircuit c.circuit v z) (sym (put_here f (suc i) y)) fit))
    by (inr p) =
        let differ : suc k ≡ suc i → ⊥ = λ e. p.0 (let d : k ≡ i = omega (arith, e) in d) in
        subst (λ (z : Circuit). FitsCircuit c.circuit w z) (sym (put_elsewhere f (suc i) (suc k) y differ)) (fits k w p.1)
