-- The next data packet, one circuit after another.
use Rattle.x25_layer.proofs.Names.{◌≡◌, ℕ, zero, suc, ◌+◌, ◌<◌, ◌≤◌, List, length, Option, Some, None, Bool, true, false, refl, sym, ap, subst, ◌∙◌, inl, inr}
use Rattle.x25_layer.proofs.Names.{arith, none-some, PlainPacket, CircuitSettings, Circuit, Pulled, pulled, FitsCircuit, LayerSettings, Layer, packet_on}
use Rattle.x25_layer.proofs.Names.{IfSome, MatchOption, cases_lt, FitsCircuits, FitsLayer, IsOutside, IdleBeside, IsPut, next_packet, moved_to}
use Rattle.x25_circuit.specs.laws.PullLaw.{PullsWhatWaits}
use Rattle.x25_layer.proofs.{CallLemmas.{IsLike}, FitLemmas.{there}}
use Rattle.x25_layer.{proofs.PullLemmas.{none_kept}, specs.code.Answering.{GivesNext, GivesNone}, specs.code.Pulling.{GoesTo, GoesNowhere}}
use Rattle.x25_circuit.specs.declared.circuit.Circuit as circuit_code
use Rattle.x25_layer.specs.declared.layer.Layer as code

-- ---- what no circuit has

off_channel : (h : ℕ) (o : Option PlainPacket) → packet_on h o ≡ None → o ≡ None
off_channel h None none = refl
off_channel h (Some packet) none = absurd (none-some (moved_to h packet) (sym none))

-- a circuit that has none stays as it was
pub kept_one : (b : Bool) (sheet : List ℕ) (c : CircuitSettings) (h : ℕ) (v : circuit_code.Circuit) (x : Circuit) → b ≡ false
    → IsPut b sheet (packet_on h (pulled c x).packet) → FitsCircuit c v (pulled c x).next → FitsCircuit c v x
kept_one false sheet c h v x is none fits = subst (λ (y : Circuit). FitsCircuit c v y) (none_kept c x (off_channel h (pulled c x).packet none)) fits
kept_one true sheet c h v x is none fits = absurd (cc)

pub none_put : (b : Bool) (sheet : List ℕ) (o : Option PlainPacket) → b ≡ false → IsPut b sheet o → o ≡ None
none_put false sheet o is none = none
none_put true sheet o is none = absurd (cc)

pub some_put : (b : Bool) (sheet : List ℕ) (o : Option PlainPacket) → b ≡ true → IsPut b sheet o → IsPut true sheet o
some_put true sheet o is put = put
some_put false sheet o is put = absurd (cc)

-- nor one that is idle
pub quiet : PullsWhatWaits → (c : LayerSettings) (vs : List circuit_code.Circuit) (words : List ℕ) (f : ℕ → Circuit) → FitsCircuits c vs f → IdleBeside words vs
    → (k : ℕ) → 1 ≤ k → k ≤ length vs → IsOutside words k → next_packet c f k ≡ None
quiet pulls c vs words f fits still zero low high out = absurd (omega (arith, low))
quiet pulls c vs words f fits still (suc k) low high out =
    let found = there vs k (let e : k < length vs = omega (arith, high) in e) in
    let idle = still k found.0 found.1 out in
    ap (λ (p : Pulled). packet_on (suc k) p.packet) (pulls c.circuit found.0 (f (suc k)) (fits k found.0 found.1) idle.none)

-- those up to a channel have none, and those between it and another are idle
pub none_before : PullsWhatWaits → (c : LayerSettings) (vs : List circuit_code.Circuit) (words : List ℕ) (f : ℕ → Circuit) → FitsCircuits c vs f
    → IdleBeside words vs → (behind n h : ℕ) → h ≤ length vs + 1
    → ((k : ℕ) → behind < k → k ≤ n → next_packet c f k ≡ None) → ((k : ℕ) → n < k → k < h → IsOutside words k)
    → (k : ℕ) → behind < k → k < h → next_packet c f k ≡ None
none_before pulls c vs words f fits still behind n h high none out k more less = elim (cases_lt n k) [
  | inl far ↦ quiet pulls c vs words f fits still k (omega (arith, far)) (omega (arith, less, high)) (out k far less)
  | inr low ↦ none k more low
]

-- and so has that one
pub none_to : (c : LayerSettings) (f : ℕ → Circuit) (behind h : ℕ) → ((k : ℕ) → behind < k → k < h → next_packet c f k ≡ None) → next_packet c f h ≡ None
    → (k : ℕ) → behind < k → k ≤ h → next_packet c f k ≡ None
none_to c f behind h below here k more low = elim (cases_lt k h) [
  | inl less ↦ below k more less
  | inr up ↦ subst (λ (n : ℕ). next_packet c f n ≡ None) (let same : h ≡ k = omega (arith, up, low) in same) here
]

-- ---- what a layer pulls, by its circuits

pub pulls_next : (c : LayerSettings) (v v₂ : code.Layer) (l : Layer) (behind : ℕ) (o : Option ℕ) → FitsLayer c v l → IsLike v v₂ → length v₂.circuits.items
    ≡ length v.circuits.items → IfSome o (λ (h : ℕ). h ≤ length v₂.circuits.items)
    → MatchOption o (GoesNowhere c l.circuits v₂.circuits.items behind) (λ (h : ℕ). GoesTo c l.circuits v₂.circuits.items v₂.sheet behind h)
    → MatchOption o (GivesNone c l v₂ behind) (λ (h : ℕ). GivesNext c l v₂ behind h)
pulls_next c v v₂ l behind None fits like count within goes =
    let all = count ∙ fits.channels in
    record {
      between = λ k more high. goes.between k more (omega (arith, high, all));
      layer = record {
        role = like.role ∙ fits.role;
        long_data = like.long_data ∙ fits.long_data;
        message = fits.message;
        ranges = like.ranges ∙ fits.ranges;
        channels = count ∙ fits.channels;
        restarting = like.restarting ∙ fits.restarting;
        restarts = like.restarts ∙ fits.restarts;
        circuits = goes.circuits;
      };
    }
pulls_next c v v₂ l behind (Some h) fits like count within goes = record {
  configured = (let all = count ∙ fits.channels in omega (arith, within, all));
  between = goes.between;
  layer = record {
    role = like.role ∙ fits.role;
    long_data = like.long_data ∙ fits.long_data;
    message = fits.message;
    ranges = like.ranges ∙ fits.ranges;
    channels = count ∙ fits.channels;
    restarting = like.restarting ∙ fits.restarting;
    restarts = like.restarts ∙ fits.restarts;
    circuits = goes.circuits;
  };
  put = goes.put;
}

pub within_all : (o : Option ℕ) (n : ℕ) → n ≤ 4095 → IfSome o (λ (h : ℕ). h ≤ n) → IfSome o (λ (h : ℕ). h ≤ 4095)
within_all None n few within = tt
within_all (Some h) n few within = omega (arith, few, within)
