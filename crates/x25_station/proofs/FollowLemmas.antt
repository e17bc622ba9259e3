-- What the layer does at a step of the link, by what the step noted and handed up.
use Rattle.x25_station.proofs.Names.{◌≡◌, ℕ, List, ◌++◌, Option, Some, None, Bool, true, false, refl, ap, sym, subst, ◌∙◌, append-nil, LayerSettings, Layer}
use Rattle.x25_station.proofs.Names.{LinkView, Putting, hears, Notes, Reason, StationEntry, entries_noted, layer_at, layer_answer, entries_of_answer}
use Rattle.std.specs.Option.{is_some}
use Rattle.x25_layer.specs.laws.Rounds.{comes_up}
use Rattle.x25_station.{proofs.Names.{entries_of_packet, entries_heard, layer_down}, specs.Step.{rests}}

true_false : true ≡ false → ⊥
true_false is = cc

pub is_none : (d : Option Reason) → is_some d ≡ false → d ≡ None
is_none None is = refl
is_none (Some reason) is = absurd (true_false is)

-- ---- the layer, and the packets that it puts

pub at_up : (P : Putting → Type 0) (view : LinkView) (c : LayerSettings) (wide : Bool) (l : Layer) (o : Option (List ℕ)) (d : Option Reason) (u : Bool) → u
    ≡ true → P (comes_up view c).step → P (layer_at view c wide l o d u)
at_up P view c wide l o d u up is = subst (λ (b : Bool). P (layer_at view c wide l o d b)) (sym up) is

pub at_down : (P : Putting → Type 0) (view : LinkView) (c : LayerSettings) (wide : Bool) (l : Layer) (o : Option (List ℕ)) (d : Option Reason) (u : Bool) → u
    ≡ false → is_some d ≡ true → P (rests view.turn (layer_down l d)) → P (layer_at view c wide l o d u)
at_down P view c wide l o None u off down is = absurd (true_false (sym down))
at_down P view c wide l o (Some reason) u off down is = subst (λ (b : Bool). P (layer_at view c wide l o (Some reason) b)) (sym off) is

pub at_heard : (P : Putting → Type 0) (view : LinkView) (c : LayerSettings) (wide : Bool) (l : Layer) (o : Option (List ℕ)) (octets : List ℕ)
    (d : Option Reason) (u : Bool) → u ≡ false → is_some d ≡ false → o ≡ Some octets → P (hears view c wide l octets).step
    → P (layer_at view c wide l o d u)
at_heard P view c wide l o octets d u off stays handed is =
    subst (λ (b : Bool). P (layer_at view c wide l o d b)) (sym off)
    (subst (λ (e : Option Reason). P (layer_at view c wide l o e false)) (sym (is_none d stays))
    (subst (λ (p : Option (List ℕ)). P (layer_at view c wide l p None false)) (sym handed) is))

pub at_quiet : (P : Putting → Type 0) (view : LinkView) (c : LayerSettings) (wide : Bool) (l : Layer) (o : Option (List ℕ)) (d : Option Reason) (u : Bool) → u
    ≡ false → is_some d ≡ false → o ≡ None → P (rests view.turn l) → P (layer_at view c wide l o d u)
at_quiet P view c wide l o d u off stays none is =
    subst (λ (b : Bool). P (layer_at view c wide l o d b)) (sym off)
    (subst (λ (e : Option Reason). P (layer_at view c wide l o e false)) (sym (is_none d stays))
    (subst (λ (p : Option (List ℕ)). P (layer_at view c wide l p None false)) (sym none) is))

-- ---- the entries of a packet that the link hands up

pub heard_entries : (c : LayerSettings) (wide : Bool) (l : Layer) (o : Option (List ℕ)) (octets : List ℕ) (notes : Notes) (after : List StationEntry)
    → notes.up ≡ false → notes.down ≡ None → o ≡ Some octets
    → after ≡ entries_of_packet c wide l octets → after ≡ entries_noted notes ++ entries_heard c wide l o notes.down notes.up
heard_entries c wide l o octets notes after off stays handed is =
    is ∙ sym (ap (λ (p : Option (List ℕ)). entries_noted notes ++ entries_heard c wide l p notes.down notes.up) handed
    ∙ ap (λ (n : Notes). entries_noted n ++ entries_heard c wide l (Some octets) n.down n.up) quiet)
  where
    quiet : notes ≡ record { down = None; up = false }
    quiet = ap (λ (d : Option Reason). record { down = d; up = notes.up }) stays ∙ ap (λ (u : Bool). record { down = None; up = u }) off

-- a station that reads the one form alone is told what the layer tells
pub strict_entries : (c : LayerSettings) (l : Layer) (octets : List ℕ) → entries_of_packet c false l octets ≡ entries_of_answer (layer_answer c false l octets)
strict_entries c l octets = append-nil (entries_of_answer (layer_answer c false l octets))
