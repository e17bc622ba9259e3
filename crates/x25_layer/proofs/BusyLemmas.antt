-- The busy channels.
use Rattle.x25_layer.proofs.Names.{◌≡◌, inl, inr, ℕ, zero, suc, ◌+◌, ◌-◌, ◌<◌, ◌≤◌, List, length, Bool, true, false, not, ◌&&◌, ◌==◌, if◌then◌else◌, get_or}
use Rattle.x25_layer.proofs.Names.{refl, sym, ap, subst, ◌∙◌, arith, and_parts, eqb-true, CircuitSettings, Circuit, waits, FitsCircuit, LayerSettings, Layer, is_channel}
use Rattle.x25_layer.proofs.Names.{Option, Some, None, cases_lt, bit_not, trailing_zeros, awaited_by, is_any, Nothing, FitsCircuits, FitsLayer, awaited_at, waits_up_to}
use Rattle.std.proofs.lemmas.{Bool.{cases_eq, false_from_ne_true, true_from_ne_false}, Grind.{get_or_default_zero}}
use Rattle.std.proofs.lemmas.{List.{get_or-set_same, get_or-set_other, get_or_past}, Nat.{pow_below, and_le_l, and_le_r, shr-shr}}
use Rattle.std.proofs.lemmas.Nat.Bits.{bit_at-zero, bit_at-suc, bit_at-lt, bit_at_or, bit_at_and, bit_at_not, bit_at-pow_same, bit_at-pow_other}
use Rattle.std.{proofs.lemmas.Nat.Bits.{bit_at_mask_below, bit_at_mask_inside, ones_shl, bit_at-trailing_zeros}, specs.Int.{w64, bit_at}}
use Rattle.std.specs.Prelude.{◌*◌, ◌/◌, ◌%◌, ◌^◌, set, bit_and, bit_or}
use Rattle.x25_circuit.specs.{Circuit.{is_idle, is_unacknowledged, unacknowledged}, code.FitsCircuit.{waits_of}, declared.awaits.Awaits.{Awaits}}
use Rattle.x25_layer.proofs.{CallLemmas.{configured}, FitLemmas.{there}, Names.{awaited_up_to, IsOutside, IsIdle, IdleBeside}}
use Rattle.x25_layer.specs.code.FitsLayer.{unacknowledged_at}
use Rattle.x25_circuit.specs.declared.circuit.Circuit as circuit_code
use Rattle.x25_layer.specs.declared.layer.Layer as code

-- ---- what a circuit says of itself

nothing : (n : ℕ) (b out : Bool) → (not b && ((n == 0) && not out)) ≡ true → (b ≡ false) × (n ≡ 0) × (out ≡ false)
nothing n false out is = let both = and_parts (n == 0) (not out) is in (refl, eqb-true n 0 both.0, none_out out both.1)
  where
    none_out : (out : Bool) → not out ≡ true → out ≡ false
    none_out false is = refl
    none_out true is = absurd (cc)
nothing n true out is = absurd (cc)

pub idle_is : (v : circuit_code.Circuit) (b : Bool) → ((c : CircuitSettings) (x : Circuit) → FitsCircuit c v x → b ≡ is_idle x)
    → (b ≡ true → waits_of v ≡ 0) → b ≡ true → IsIdle v
idle_is v b value none is = record {
  none = none is;
  waits = λ c x fits. (nothing (waits x) (is_any (awaited_by x)) (is_unacknowledged x) (sym (value c x fits) ∙ is)).1;
  awaits = λ c x fits. (nothing (waits x) (is_any (awaited_by x)) (is_unacknowledged x) (sym (value c x fits) ∙ is)).0;
  acknowledged = λ c x fits. (nothing (waits x) (is_any (awaited_by x)) (is_unacknowledged x) (sym (value c x fits) ∙ is)).2;
}

pub not_busy : (b : Bool) → not b ≡ false → b ≡ true
not_busy true is = refl
not_busy false is = absurd (cc)

pub true_false : true ≡ false → ⊥
true_false is = cc

-- ---- a bit for each channel, in words of 64

abbrev bit_of : List ℕ → ℕ → ℕ
bit_of words k = bit_at (get_or words (k / 64) 0) (k % 64)

abbrev mask : Bool → ℕ → ℕ
mask b h = if b then 2 ^ (h % 64) else 0

mask_other : (b : Bool) (h i : ℕ) → (i ≡ h % 64 → ⊥) → bit_at (mask b h) i ≡ 0
mask_other true h i differs = bit_at-pow_other (h % 64) i differs
mask_other false h i differs = bit_at-zero i

mask_fits : (b : Bool) (h : ℕ) → mask b h < 2 ^ 64
mask_fits true h = pow_below (h % 64) 64 (omega arith)
mask_fits false h = omega arith

-- a word is written, in which the bit of a channel may have changed
module _ (n : ℕ) (words : List ℕ) (h at old : ℕ) (places : length words ≡ n / 64 + 1) (most : h ≤ n) (here : at ≡ h / 64) (is : old ≡ get_or words at old) where
  low : at < length words
  low = omega (arith, places, most, here)

  was : (k : ℕ) → k / 64 ≡ at → bit_at old (k % 64) ≡ bit_of words k
  was k on =
      ap (λ (w : ℕ). bit_at w (k % 64)) (is ∙ get_or_default_zero words at old low) ∙ ap (λ (m : ℕ). bit_at (get_or words m 0) (k % 64)) (sym on)

  becomes : (word k : ℕ) → k / 64 ≡ at → bit_of (set words at word) k ≡ bit_at word (k % 64)
  becomes word k on =
      ap (λ (m : ℕ). bit_at (get_or (set words at word) m 0) (k % 64)) on ∙ ap (λ (w : ℕ). bit_at w (k % 64)) (get_or-set_same words at word 0 low)

  other : (word : ℕ) → ((i : ℕ) → i < 64 → (i ≡ h % 64 → ⊥) → bit_at word i ≡ bit_at old i) → (k : ℕ) → (k ≡ h → ⊥)
      → bit_of (set words at word) k ≡ bit_of words k
  other word same k differs = elim (cases_eq (k / 64) at) [
    | inl on ↦ becomes word k on ∙ same (k % 64) (omega arith) (λ e. differs (omega (arith, here, on, e))) ∙ was k on
    | inr off ↦ ap (λ (w : ℕ). bit_at w (k % 64)) (get_or-set_other words at (k / 64) word 0 off)
  ]

  module _ (b : Bool) (m : ℕ) (one : m ≡ mask b h) where
    bit_of_mask : (d : Bool) (i : ℕ) → b ≡ d → bit_at m i ≡ bit_at (mask d h) i
    bit_of_mask d i is = ap (λ (w : ℕ). bit_at w i) (one ∙ ap (λ (e : Bool). mask e h) is)

    -- with its bit, or as it was
    with_other : (k : ℕ) → (k ≡ h → ⊥) → bit_of (set words at (bit_or old m)) k ≡ bit_of words k
    with_other = other (bit_or old m)
        (λ i fits differs. let e = bit_at_or old m i in let f = bit_of_mask b i refl ∙ mask_other b h i differs in omega (arith, e, f))

    pub with_within : ((k : ℕ) → n < k → IsOutside words k) → (k : ℕ) → n < k → IsOutside (set words at (bit_or old m)) k
    with_within within k more = with_other k (λ e. absurd (omega (arith, most, more, e))) ∙ within k more

    pub with_this : IsOutside (set words at (bit_or old m)) h → b ≡ false
    with_this out = false_from_ne_true b (λ is.
        let e = becomes (bit_or old m) h (sym here) in
        let f = bit_at_or old m (h % 64) in
        let g = bit_of_mask true (h % 64) is ∙ bit_at-pow_same (h % 64) in
        omega (arith, out, e, f, g))

    pub with_others : (k : ℕ) → IsOutside (set words at (bit_or old m)) k → IsOutside words k
    with_others k out = elim (cases_eq k h) [
      | inl same ↦
          let on : k / 64 ≡ at = omega (arith, here, same) in
          let e = becomes (bit_or old m) k on in
          let f = bit_at_or old m (k % 64) in
          let g = was k on in
          omega (arith, out, e, f, g)
      | inr differs ↦ sym (with_other k differs) ∙ out
    ]

    -- without it, or as it was
    left : (i : ℕ) → i < 64 → bit_at m i ≡ 0 → bit_at (bit_and old (bit_not w64 m)) i ≡ bit_at old i
    left i fits none =
        let e = bit_at_and old (bit_not w64 m) i in
        let f = bit_at_not w64 m i (subst (λ (w : ℕ). w < 2 ^ 64) (sym one) (mask_fits b h)) fits in
        let g = bit_at-lt old i in
        omega (arith, e, f, g, none)

    pub without_other : (k : ℕ) → (k ≡ h → ⊥) → bit_of (set words at (bit_and old (bit_not w64 m))) k ≡ bit_of words k
    without_other = other (bit_and old (bit_not w64 m)) (λ i fits differs. left i fits (bit_of_mask b i refl ∙ mask_other b h i differs))

    pub without_within : ((k : ℕ) → n < k → IsOutside words k) → (k : ℕ) → n < k → IsOutside (set words at (bit_and old (bit_not w64 m))) k
    without_within within k more = without_other k (λ e. absurd (omega (arith, most, more, e))) ∙ within k more

    pub without_this : (IsOutside words h → ⊥) → IsOutside (set words at (bit_and old (bit_not w64 m))) h → b ≡ true
    without_this listed out = true_from_ne_false b (λ is.
        let e = becomes (bit_and old (bit_not w64 m)) h (sym here) in
        let f = left (h % 64) (omega arith) (bit_of_mask false (h % 64) is ∙ bit_at-zero (h % 64)) in
        listed (sym (e ∙ f ∙ was h (sym here)) ∙ out))

pub word_low : (n : ℕ) (words : List ℕ) (h at : ℕ) → length words ≡ n / 64 + 1 → h ≤ n → at ≡ h / 64 → at < length words
word_low n words h at places most here = omega (arith, places, most, here)

pub no_mask : (b : Bool) (h m : ℕ) → m ≡ mask b h → b ≡ false → m ≡ 0
no_mask b h m one is = one ∙ ap (λ (d : Bool). mask d h) is

-- what is known of the words that have none
module _ (words : List ℕ) (used at old word : ℕ) (low : at < length words) (is : old ≡ get_or words at old)
    (unused : (i : ℕ) → bit_at used i ≡ 0 → get_or words i 0 ≡ 0) where
  written : (used₂ : ℕ) → ((i : ℕ) → (i ≡ at → ⊥) → bit_at used₂ i ≡ 0 → bit_at used i ≡ 0) → (bit_at used₂ at ≡ 0 → word ≡ 0)
      → (i : ℕ) → bit_at used₂ i ≡ 0 → get_or (set words at word) i 0 ≡ 0
  written used₂ others this i none = elim (cases_eq i at) [
    | inl same ↦
        ap (λ (n : ℕ). get_or (set words at word) n 0) same ∙ get_or-set_same words at word 0 low
        ∙ this (ap (λ (n : ℕ). bit_at used₂ n) (sym same) ∙ none)
    | inr differs ↦ get_or-set_other words at i word 0 differs ∙ unused i (others i differs none)
  ]

  was_empty : bit_at used at ≡ 0 → old ≡ 0
  was_empty none = is ∙ get_or_default_zero words at old low ∙ unused at none

  -- one that has a bit more is used
  pub with_unused : (b : Bool) (m one : ℕ) → one ≡ (if b then 2 ^ at else 0) → (b ≡ false → m ≡ 0) → word ≡ bit_or old m
      → (i : ℕ) → bit_at (bit_or used one) i ≡ 0 → get_or (set words at word) i 0 ≡ 0
  with_unused b m one of none_set word_is = written (bit_or used one)
      (λ i differs none. let e = bit_at_or used one i in omega (arith, e, none))
      (λ none.
      let e = bit_at_or used one at in
      let off = false_from_ne_true b (λ on.
      let f = ap (λ (w : ℕ). bit_at w at) (of ∙ ap (λ (d : Bool). if d then 2 ^ at else 0) on) ∙ bit_at-pow_same at in omega (arith, e, f, none)) in
      word_is ∙ ap (λ (w : ℕ). bit_or w m) (was_empty (omega (arith, e, none))) ∙ ap (λ (w : ℕ). bit_or 0 w) (none_set off))

  -- and one that has fewer is used as before
  pub without_unused : (m : ℕ) → word ≡ bit_and old m → (i : ℕ) → bit_at used i ≡ 0 → get_or (set words at word) i 0 ≡ 0
  without_unused m word_is = written used (λ i differs none. none)
      (λ none. let e = was_empty none in let f = and_le_l old m in omega (arith, e, f, word_is))

-- ---- the next of them

-- what is left of a word behind a channel, which those before have none behind
pub record IsLeft (words : List ℕ) (h at left : ℕ) : Type 0 where
  pub near : h < 64 * at + 64
  pub low : (i : ℕ) → 64 * at + i ≤ h → bit_at left i ≡ 0
  pub bits : (i : ℕ) → i < 64 → h < 64 * at + i → bit_at left i ≡ bit_at (get_or words at 0) i
  pub past : (k : ℕ) → h < k → k < 64 * at → IsOutside words k

pub begins_fits : (word by : ℕ) → bit_and word ((2 ^ 64 - 1) * 2 ^ by % 2 ^ 64) < 2 ^ 64
begins_fits word by = let e = and_le_r word ((2 ^ 64 - 1) * 2 ^ by % 2 ^ 64) in omega (arith, e)

pub begins : (words : List ℕ) (h at by word : ℕ) → at ≡ (h + 1) / 64 → by ≡ (h + 1) % 64 → at < length words → word ≡ get_or words at word
    → IsLeft words h at (bit_and word ((2 ^ 64 - 1) * 2 ^ by % 2 ^ 64))
begins words h at by word here from low is = record {
  near = omega (arith, here);
  low = λ i below.
      let e = bit_at_and word ((2 ^ 64 - 1) * 2 ^ by % 2 ^ 64) i in
      let f = ap (λ (n : ℕ). bit_at n i) shifted ∙ bit_at_mask_below by 64 i (omega (arith, here, from, below)) in
      omega (arith, e, f);
  bits = λ i fits more.
      let e = bit_at_and word ((2 ^ 64 - 1) * 2 ^ by % 2 ^ 64) i in
      let f = ap (λ (n : ℕ). bit_at n i) shifted ∙ bit_at_mask_inside by 64 i (omega (arith, here, from, more)) fits in
      let g = bit_at-lt word i in
      let same = ap (λ (w : ℕ). bit_at w i) (is ∙ get_or_default_zero words at word low) in
      omega (arith, e, f, g, same);
  past = λ k more less. absurd (omega (arith, here, more, less));
}
  where
    shifted : (2 ^ 64 - 1) * 2 ^ by % 2 ^ 64 ≡ 2 ^ 64 - 2 ^ by
    shifted = ones_shl 64 by (omega (arith, from))

-- words to which no bit belongs are 0
module _ (words : List ℕ) (used at : ℕ) (unused : (i : ℕ) → bit_at used i ≡ 0 → get_or words i 0 ≡ 0) where
  abbrev further : ℕ
  further = used / 2 ^ at / 2

  bit_behind : (i : ℕ) → bit_at further i ≡ bit_at used (at + suc i)
  bit_behind i = sym (bit_at-suc (used / 2 ^ at) i) ∙ ap (λ (n : ℕ). n % 2) (shr-shr used at (suc i))

  behind : (i : ℕ) → at < i → bit_at further (i - at - 1) ≡ 0 → get_or words i 0 ≡ 0
  behind i up none =
      let on : at + suc (i - at - 1) ≡ i = omega (arith, up) in
      unused i (ap (λ (n : ℕ). bit_at used n) (sym on) ∙ sym (bit_behind (i - at - 1)) ∙ none)

  pub empty_behind : further ≡ 0 → (i : ℕ) → at < i → get_or words i 0 ≡ 0
  empty_behind none i up = behind i up (ap (λ (n : ℕ). bit_at n (i - at - 1)) none ∙ bit_at-zero (i - at - 1))

  pub empty_between : 0 < further → further < 2 ^ 64 → (i : ℕ) → at < i → i < at + (1 + trailing_zeros w64 further) → get_or words i 0 ≡ 0
  empty_between some fits i up less = behind i up ((bit_at-trailing_zeros w64 further some fits).2 (i - at - 1) (omega (arith, up, less)))

  pub empty_to_end : 0 < further → further < 2 ^ 64 → length words ≤ at + (1 + trailing_zeros w64 further) → (i : ℕ) → at < i → get_or words i 0 ≡ 0
  empty_to_end some fits end i up = elim (cases_lt i (length words)) [
    | inl low ↦ empty_between some fits i up (omega (arith, low, end))
    | inr past ↦ get_or_past words i 0 past
  ]

module _ (words : List ℕ) (h at left : ℕ) (l : IsLeft words h at left) where
  -- those to which no bit of it belongs
  passed : (k : ℕ) → h < k → k < 64 * at + 64 → (at ≤ k / 64 → bit_at left (k % 64) ≡ 0) → IsOutside words k
  passed k more high none = elim (cases_lt (k / 64) at) [
    | inl less ↦ l.past k more (omega (arith, less))
    | inr up ↦
        let on : k / 64 ≡ at = omega (arith, up, high) in
        ap (λ (n : ℕ). bit_at (get_or words n 0) (k % 64)) on ∙ sym (l.bits (k % 64) (omega arith) (omega (arith, more, on))) ∙ none up
  ]

  module _ (none : left ≡ 0) where
    passed_all : (at₂ : ℕ) → ((i : ℕ) → at < i → i < at₂ → get_or words i 0 ≡ 0) → (k : ℕ) → h < k → k < 64 * at₂ → IsOutside words k
    passed_all at₂ empty k more high = elim (cases_lt k (64 * at + 64)) [
      | inl less ↦ passed k more less (λ up. ap (λ (n : ℕ). bit_at n (k % 64)) none ∙ bit_at-zero (k % 64))
      | inr far ↦ ap (λ (w : ℕ). bit_at w (k % 64)) (empty (k / 64) (omega (arith, far)) (omega (arith, high))) ∙ bit_at-zero (k % 64)
    ]

    pub goes_on : (at₂ word : ℕ) → at < at₂ → ((i : ℕ) → at < i → i < at₂ → get_or words i 0 ≡ 0) → at₂ < length words
        → word ≡ get_or words at₂ word → IsLeft words h at₂ word
    goes_on at₂ word up empty low is =
        let near = l.near in
        record {
          near = omega (arith, near, up);
          low = λ i below. absurd (omega (arith, near, below, up));
          bits = λ i fits more. ap (λ (w : ℕ). bit_at w i) (is ∙ get_or_default_zero words at₂ word low);
          past = λ k more less. passed_all at₂ empty k more less;
        }

    pub none_behind : ((i : ℕ) → at < i → get_or words i 0 ≡ 0) → (k : ℕ) → h < k → IsOutside words k
    none_behind empty k more = passed_all (k / 64 + 1) (λ i up less. empty i up) k more (omega arith)

  -- its lowest bit
  module _ (some : 0 < left) (fits : left < 2 ^ 64) where
    abbrev t : ℕ
    t = trailing_zeros w64 left

    abbrev next : ℕ
    next = 64 * at + t

    first : (t < 64) × (bit_at left t ≡ 1) × ((i : ℕ) → i < t → bit_at left i ≡ 0)
    first = bit_at-trailing_zeros w64 left some fits

    pub is_higher : h < next
    is_higher = elim (cases_lt h next) [
      | inl less ↦ less
      | inr below ↦ absurd (let e = l.low t below in let f = first.1 in omega (arith, e, f))
    ]

    pub is_listed : IsOutside words next → ⊥
    is_listed out =
        let small = first.0 in
        let f = first.1 in
        let word : next / 64 ≡ at = omega (arith, small) in
        let place : next % 64 ≡ t = omega (arith, small) in
        let e = l.bits t small is_higher in
        let g = ap (λ (i : ℕ). bit_at (get_or words (next / 64) 0) i) place in
        let j = ap (λ (n : ℕ). bit_at (get_or words n 0) t) word in
        omega (arith, out, e, f, g, j)

    pub none_between : (k : ℕ) → h < k → k < next → IsOutside words k
    none_between k more less =
        let small = first.0 in
        passed k more (omega (arith, less, small)) (λ up. first.2 (k % 64) (omega (arith, up, less)))

    pub is_within : (most : ℕ) → ((k : ℕ) → most < k → IsOutside words k) → next ≤ most
    is_within most within = elim (cases_lt most next) [
      | inl less ↦ absurd (is_listed (within next less))
      | inr high ↦ high
    ]

-- ---- sums over the channels, to which those that are idle add nothing

past : (up one : ℕ → ℕ) → ((n : ℕ) → up (suc n) ≡ up n + one (suc n)) → (m n : ℕ) → ((k : ℕ) → n < k → k ≤ m + n → one k ≡ 0) → up (m + n) ≡ up n
past up one next zero n none = let same : zero + n ≡ n = omega arith in ap up same
past up one next (suc m) n none =
    let more : suc m + n ≡ suc (m + n) = omega arith in
    let below = past up one next m n (λ k high low. none k high (omega (arith, low))) in
    let here = next (m + n) in
    let last = none (suc (m + n)) (omega arith) (omega arith) in
    ap up more ∙ (let e : up (suc (m + n)) ≡ up n = omega (arith, below, here, last) in e)

module _ (c : LayerSettings) (vs : List circuit_code.Circuit) (words : List ℕ) (f : ℕ → Circuit) (fits : FitsCircuits c vs f)
    (still : IdleBeside words vs) where
  idle_on : (k : ℕ) → 1 ≤ k → k ≤ length vs → IsOutside words k
      → (waits (f k) ≡ 0) × (is_any (awaited_by (f k)) ≡ false) × (is_unacknowledged (f k) ≡ false)
  idle_on zero low high out = absurd (omega (arith, low))
  idle_on (suc k) low high out =
      let found = there vs k (let e : k < length vs = omega (arith, high) in e) in
      let idle = still k found.0 found.1 out in
      let x = fits k found.0 found.1 in
      (idle.waits c.circuit (f (suc k)) x, idle.awaits c.circuit (f (suc k)) x, idle.acknowledged c.circuit (f (suc k)) x)

  module _ (n i : ℕ) (up : n ≤ i) (high : i ≤ length vs) (out : (k : ℕ) → n < k → k ≤ i → IsOutside words k) where
    behind_is : i ≡ (i - n) + n
    behind_is = omega (arith, up)

    pub waits_past : waits_up_to f i ≡ waits_up_to f n
    waits_past =
        ap (λ (k : ℕ). waits_up_to f k) behind_is
        ∙ past (λ k. waits_up_to f k) (λ k. waits (f k)) (λ k. refl) (i - n) n
        (λ k more less. (idle_on k (omega (arith, more)) (omega (arith, less, up, high)) (out k more (omega (arith, less, up)))).0)

    pub awaited_past : awaited_up_to f i ≡ awaited_up_to f n
    awaited_past =
        ap (λ (k : ℕ). awaited_up_to f k) behind_is
        ∙ past (λ k. awaited_up_to f k) (λ k. if is_any (awaited_by (f k)) then 1 else 0) (λ k. refl) (i - n) n
        (λ k more less. ap (λ (b : Bool). if b then 1 else 0)
        (idle_on k (omega (arith, more)) (omega (arith, less, up, high)) (out k more (omega (arith, less, up)))).1)

-- no answer is awaited on a channel that isn't one of the busy ones
pub none_awaited : (c : LayerSettings) (v : code.Layer) (l : Layer) → FitsLayer c v l → (k : ℕ) → IsOutside v.busy.words.items k → awaited_at c l k ≡ Nothing
none_awaited c v l fits k out = by (is_channel c.channels k) refl
  where
    not_any : (a : Awaits) → is_any a ≡ false → a ≡ Nothing
    not_any Nothing is = refl
    not_any a is = absurd (cc)

    by : (b : Bool) → is_channel c.channels k ≡ b → (if b then awaited_by (l.circuits k) else Nothing) ≡ Nothing
    by false is = refl
    by true is =
        let within = configured c.channels.count k is in
        let channels = fits.channels in
        not_any (awaited_by (l.circuits k))
        (idle_on c v.circuits.items v.busy.words.items l.circuits fits.circuits v.still k within.0
        (let high = within.1 in omega (arith, high, channels)) out).1

-- and all is acknowledged there
pub none_unacknowledged : (c : LayerSettings) (v : code.Layer) (l : Layer) → FitsLayer c v l → (k : ℕ) → IsOutside v.busy.words.items k
    → unacknowledged_at c l k ≡ None
none_unacknowledged c v l fits k out = by l.restarting (is_channel c.channels k) refl
  where
    by : (r b : Bool) → is_channel c.channels k ≡ b → (if r then None else if b then unacknowledged (l.circuits k) else None) ≡ None
    by true b is = refl
    by false false is = refl
    by false true is =
        let within = configured c.channels.count k is in
        let channels = fits.channels in
        let idle = idle_on c v.circuits.items v.busy.words.items l.circuits fits.circuits v.still k within.0
        (let high = within.1 in omega (arith, high, channels)) out in
        ap (λ (b : Bool). if b then Some ((l.circuits k).talk.acked % 8) else None) idle.2
