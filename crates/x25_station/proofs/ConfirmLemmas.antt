-- What is confirmed from one layer to another, by what these tell.
use Rattle.x25_station.proofs.Names.{◌≡◌, ℕ, zero, suc, ◌-◌, List, [], ◌∷◌, ◌++◌, Some, None, Bool, true, false, ◌&&◌, ◌==◌, not, if◌then◌else◌, refl, ap, sym}
use Rattle.x25_station.proofs.Names.{◌∙◌, arith, Option, subst, eqb-true, none-some, same_Some, is_open, unconfirmed, Name, same_name, LayerSettings, Layer}
use Rattle.x25_station.proofs.Names.{LayerAnswer, is_channel, is_open_at, LinkView, Putting, begin, rounds, name_of, beside_in, named_by, confirmed, goes_on}
use Rattle.x25_station.proofs.Names.{StationEntry, bringing, entries_beside, entries_behind, was_confirmed, layer_answer, entries_of_answer, entries_of_packet}
use Rattle.std.proofs.Common.{eq-eqb}
use Rattle.x25_handshakes.specs.laws.Names.{both}
use Rattle.x25_layer.specs.{Layer.Confirmed.{unconfirmed_at}, code.FitsLayer.{name_at}}
use Rattle.x25_station.{proofs.NameLemmas.{rounds_name, rounds_open, rounds_unconfirmed}, proofs.Names.{Stands, plain_name}, specs.code.Confirming.{StandsFor}}
use Rattle.x25_station.specs.declared.confirming.Unconfirmed.{Unconfirmed}

true_false : true ≡ false → ⊥
true_false is = cc

-- ---- names

name_eq : (m n : Name) → m.restarts ≡ n.restarts → m.clears ≡ n.clears → m.resets ≡ n.resets → m ≡ n
name_eq m n e₁ e₂ e₃ =
    ap (λ (k : ℕ). record { restarts = k; clears = m.clears; resets = m.resets }) e₁
    ∙ ap (λ (k : ℕ). record { restarts = n.restarts; clears = k; resets = m.resets }) e₂
    ∙ ap (λ (k : ℕ). record { restarts = n.restarts; clears = n.clears; resets = k }) e₃

same_name-refl : (n : Name) → same_name n n ≡ true
same_name-refl n = rw (eq-eqb n.restarts n.restarts refl) (rw (eq-eqb n.clears n.clears refl) (eq-eqb n.resets n.resets refl))

both_are : (a b : Bool) → both a b ≡ true → (a ≡ true) × (b ≡ true)
both_are true b is = (refl, is)
both_are false b is = absurd (true_false (sym is))

pub same_name-is : (m n : Name) → same_name m n ≡ true → m ≡ n
same_name-is m n is =
    let a = both_are (m.restarts == n.restarts) (both (m.clears == n.clears) (m.resets == n.resets)) is in
    let b = both_are (m.clears == n.clears) (m.resets == n.resets) a.1 in
    name_eq m n (eqb-true m.restarts n.restarts a.0) (eqb-true m.clears n.clears b.0) (eqb-true m.resets n.resets b.1)

-- ---- nothing is confirmed

pub ended : (c : LayerSettings) (l next : Layer) (h : ℕ) → goes_on c l next h ≡ false → confirmed c l next h ≡ 0
ended c l next h is = ap (λ (b : Bool). if b then unconfirmed (l.circuits h) - unconfirmed (next.circuits h) else 0) is

pub closed_before : (c : LayerSettings) (l next : Layer) (h : ℕ) → is_open_at c l h ≡ false → confirmed c l next h ≡ 0
closed_before c l next h is = ended c l next h (ap (λ (b : Bool). b && (is_open_at c next h && same_name (name_of l h) (name_of next h))) is)

and_false : (a b : Bool) → b ≡ false → (a && b) ≡ false
and_false true b is = is
and_false false b is = refl

pub closed_behind : (c : LayerSettings) (l next : Layer) (h : ℕ) → is_open_at c next h ≡ false → confirmed c l next h ≡ 0
closed_behind c l next h is = ended c l next h (and_false (is_open_at c l h) _ (ap (λ (b : Bool). b && same_name (name_of l h) (name_of next h)) is))

pub renamed : (c : LayerSettings) (l next : Layer) (h : ℕ) → (name_of l h ≡ name_of next h → ⊥) → confirmed c l next h ≡ 0
renamed c l next h differs = ended c l next h
    (and_false (is_open_at c l h) _ (and_false (is_open_at c next h) _ (by (same_name (name_of l h) (name_of next h)) refl)))
  where
    by : (b : Bool) → same_name (name_of l h) (name_of next h) ≡ b → same_name (name_of l h) (name_of next h) ≡ false
    by true is = absurd (differs (same_name-is (name_of l h) (name_of next h) is))
    by false is = is

less_nothing : (g : Bool) (n : ℕ) → (if g then 0 - n else 0) ≡ 0
less_nothing true n = let e : 0 - n ≡ 0 = omega arith in e
less_nothing false n = refl

-- ---- as a layer tells of a channel

not_channel : (c : LayerSettings) (l : Layer) (h : ℕ) → is_channel c.channels h ≡ false → is_open_at c l h ≡ false
not_channel c l h is = ap (λ (b : Bool). if b then is_open (l.circuits h) else false) is

pub unnamed_closed : (c : LayerSettings) (l : Layer) (h : ℕ) → None ≡ name_at c l h → is_open_at c l h ≡ false
unnamed_closed c l h none = by (is_channel c.channels h) refl
  where
    by : (b : Bool) → is_channel c.channels h ≡ b → is_open_at c l h ≡ false
    by true is = absurd (none-some (name_of l h) (none ∙ ap (λ (a : Bool). if a then Some (name_of l h) else None) is))
    by false is = not_channel c l h is

pub none_before : (c : LayerSettings) (l next : Layer) (h count : ℕ) → count ≡ unconfirmed_at c l h → count ≡ 0 → confirmed c l next h ≡ 0
none_before c l next h count told none = by (is_channel c.channels h) refl
  where
    by : (b : Bool) → is_channel c.channels h ≡ b → confirmed c l next h ≡ 0
    by true is =
        let nothing : unconfirmed (l.circuits h) ≡ 0 = sym (ap (λ (a : Bool). if a then unconfirmed (l.circuits h) else 0) is) ∙ sym told ∙ none in
        ap (λ (n : ℕ). if goes_on c l next h then n - unconfirmed (next.circuits h) else 0) nothing
        ∙ less_nothing (goes_on c l next h) (unconfirmed (next.circuits h))
    by false is = closed_before c l next h (not_channel c l h is)

open_channel : (c : LayerSettings) (l : Layer) (h : ℕ) → is_open_at c l h ≡ true → is_channel c.channels h ≡ true
open_channel c l h is = by (is_channel c.channels h) refl
  where
    by : (b : Bool) → is_channel c.channels h ≡ b → is_channel c.channels h ≡ true
    by true e = e
    by false e = absurd (true_false (sym is ∙ not_channel c l h e))

-- ---- what is told of an open channel

pub open_name : (c : LayerSettings) (l : Layer) (h : ℕ) (n : Name) → is_open_at c l h ≡ true → Some n ≡ name_at c l h → n ≡ name_of l h
open_name c l h n is told = same_Some n (name_of l h) (told ∙ ap (λ (b : Bool). if b then Some (name_of l h) else None) (open_channel c l h is))

pub open_count : (c : LayerSettings) (l : Layer) (h count : ℕ) → is_open_at c l h ≡ true → count ≡ unconfirmed_at c l h → count ≡ unconfirmed (l.circuits h)
open_count c l h count is told = told ∙ ap (λ (b : Bool). if b then unconfirmed (l.circuits h) else 0) (open_channel c l h is)

and_true : (a b d : Bool) → a ≡ true → b ≡ true → d ≡ true → (a && (b && d)) ≡ true
and_true a b d e₁ e₂ e₃ = rw e₁ (rw e₂ e₃)

pub goes : (c : LayerSettings) (l next : Layer) (h : ℕ) → is_open_at c l h ≡ true → is_open_at c next h ≡ true → name_of l h ≡ name_of next h
    → goes_on c l next h ≡ true
goes c l next h before behind same =
    and_true (is_open_at c l h) (is_open_at c next h) _ before behind (ap (λ (n : Name). same_name n (name_of next h)) same ∙ same_name-refl (name_of next h))

pub confirmed_are : (c : LayerSettings) (l next : Layer) (h : ℕ) → goes_on c l next h ≡ true → confirmed c l next h
    ≡ unconfirmed (l.circuits h) - unconfirmed (next.circuits h)
confirmed_are c l next h is = ap (λ (b : Bool). if b then unconfirmed (l.circuits h) - unconfirmed (next.circuits h) else 0) is

-- so many are told
pub told_behind : (next : Layer) (h channel told count : ℕ) (name : Name) (beside : List StationEntry) → (told ≡ 0 → ⊥) → told ≡ count → channel ≡ h → name
    ≡ name_of next h
    → entries_behind next h count beside ≡ was_confirmed channel name told ∷ []
told_behind next h channel told zero name beside some is at under = absurd (some is)
told_behind next h channel told (suc n) name beside some is at under =
    sym (ap (λ (k : ℕ). was_confirmed k name told ∷ []) at ∙ ap (λ (m : Name). was_confirmed h m told ∷ []) under
    ∙ ap (λ (k : ℕ). was_confirmed h (name_of next h) k ∷ []) is)

-- ---- names, as the code compares them

pub and_both : (a b : Bool) → (a && b) ≡ true → (a ≡ true) × (b ≡ true)
and_both true b is = (refl, is)
and_both false b is = absurd (true_false (sym is))

not_false : (b : Bool) → false ≡ not b → b ≡ true
not_false true is = refl
not_false false is = absurd (true_false (sym is))

pub names_agree : (m n : Name) → false ≡ not ((m.restarts == n.restarts) && ((m.clears == n.clears) && (m.resets == n.resets))) → m ≡ n
names_agree m n is =
    let a = and_both (m.restarts == n.restarts) _ (not_false _ is) in
    let b = and_both (m.clears == n.clears) (m.resets == n.resets) a.1 in
    name_eq m n (eqb-true m.restarts n.restarts a.0) (eqb-true m.clears n.clears b.0) (eqb-true m.resets n.resets b.1)

pub names_differ : (m n : Name) → not ((m.restarts == n.restarts) && ((m.clears == n.clears) && (m.resets == n.resets))) ≡ true → m ≡ n → ⊥
names_differ m n is same = true_false (sym is ∙ ap (λ (b : Bool). not b) agree)
  where
    agree : ((m.restarts == n.restarts) && ((m.clears == n.clears) && (m.resets == n.resets))) ≡ true
    agree = rw same (and_true (n.restarts == n.restarts) (n.clears == n.clears) (n.resets == n.resets) (eq-eqb n.restarts n.restarts refl)
        (eq-eqb n.clears n.clears refl) (eq-eqb n.resets n.resets refl))

-- ---- by what a station keeps of the layer before

pub unnamed_behind : (c : LayerSettings) (l next : Layer) (h : ℕ) (before : Unconfirmed) → StandsFor c l h before → None ≡ name_at c next before.channel
    → confirmed c l next h ≡ 0
unnamed_behind c l next h before stands none = closed_behind c l next h (unnamed_closed c next h (none ∙ ap (λ (k : ℕ). name_at c next k) stands.channel))

pub ended_behind : (c : LayerSettings) (l next : Layer) (h : ℕ) (before : Unconfirmed) → StandsFor c l h before → is_open_at c next before.channel ≡ false
    → confirmed c l next h ≡ 0
ended_behind c l next h before stands is = closed_behind c l next h (sym (ap (λ (k : ℕ). is_open_at c next k) stands.channel) ∙ is)

pub other_behind : (c : LayerSettings) (l next : Layer) (h : ℕ) (before : Unconfirmed) (n : Name) → StandsFor c l h before → Some n
    ≡ name_at c next before.channel → (n ≡ plain_name before.name → ⊥) → confirmed c l next h ≡ 0
other_behind c l next h before n stands told differs = by (is_open_at c next h) refl
  where
    by : (b : Bool) → is_open_at c next h ≡ b → confirmed c l next h ≡ 0
    by true is = renamed c l next h (λ same. differs
        (open_name c next h n is (told ∙ ap (λ (k : ℕ). name_at c next k) stands.channel) ∙ sym same ∙ sym stands.name))
    by false is = closed_behind c l next h is

-- the same stretch is open
pub less_behind : (c : LayerSettings) (l next : Layer) (h : ℕ) (before : Unconfirmed) (n : Name) (left : ℕ) → StandsFor c l h before → Some n
    ≡ name_at c next before.channel → n ≡ plain_name before.name → is_open_at c next before.channel ≡ true
    → left ≡ unconfirmed_at c next before.channel → before.count - left ≡ confirmed c l next h
less_behind c l next h before n left stands told same is counted =
    let opened : is_open_at c next h ≡ true = sym (ap (λ (k : ℕ). is_open_at c next k) stands.channel) ∙ is in
    let under : n ≡ name_of next h = open_name c next h n opened (told ∙ ap (λ (k : ℕ). name_at c next k) stands.channel) in
    let fewer : left ≡ unconfirmed (next.circuits h) = open_count c next h left opened (counted ∙ ap (λ (k : ℕ). unconfirmed_at c next k) stands.channel) in
    ap (λ (m : ℕ). m - left) stands.count ∙ ap (λ (m : ℕ). unconfirmed (l.circuits h) - m) fewer
    ∙ sym (confirmed_are c l next h (goes c l next h stands.is_open opened (sym stands.name ∙ sym same ∙ under)))

pub name_behind : (c : LayerSettings) (l next : Layer) (h : ℕ) (before : Unconfirmed) (n : Name) → StandsFor c l h before → Some n
    ≡ name_at c next before.channel → is_open_at c next before.channel ≡ true → n ≡ name_of next h
name_behind c l next h before n stands told is =
    open_name c next h n (sym (ap (λ (k : ℕ). is_open_at c next k) stands.channel) ∙ is) (told ∙ ap (λ (k : ℕ). name_at c next k) stands.channel)

-- ---- what waits is pulled behind a packet: that leaves what is confirmed

pub pulled_confirmed : (link : LinkView) (c : LayerSettings) (l : Layer) (s : Putting) (h : ℕ) → confirmed c l (rounds link c s).layer h
    ≡ confirmed c l s.layer h
pulled_confirmed link c l s h =
    ap (λ (b : Bool). if is_open_at c l h && (b && same_name (name_of l h) (name_of (rounds link c s).layer h))
    then unconfirmed (l.circuits h) - unconfirmed ((rounds link c s).layer.circuits h) else 0) (rounds_open link c s h)
    ∙ ap (λ (n : Name). if is_open_at c l h && (is_open_at c s.layer h && same_name (name_of l h) n)
    then unconfirmed (l.circuits h) - unconfirmed ((rounds link c s).layer.circuits h) else 0) (rounds_name link c s h)
    ∙ ap (λ (n : ℕ). if goes_on c l s.layer h then unconfirmed (l.circuits h) - n else 0) (rounds_unconfirmed link c s h)

behind_named : (l next : Layer) (h count : ℕ) (beside : List StationEntry) → name_of l h ≡ name_of next h → entries_behind l h count beside
    ≡ entries_behind next h count beside
behind_named l next h zero beside same = refl
behind_named l next h (suc n) beside same = ap (λ (m : Name). was_confirmed h m (suc n) ∷ []) same

pub pulled_behind : (link : LinkView) (c : LayerSettings) (l : Layer) (s : Putting) (h : ℕ) (beside : List StationEntry)
    → entries_behind (rounds link c s).layer h (confirmed c l (rounds link c s).layer h) beside ≡ entries_behind s.layer h (confirmed c l s.layer h) beside
pulled_behind link c l s h beside =
    ap (λ (n : ℕ). entries_behind (rounds link c s).layer h n beside) (pulled_confirmed link c l s h)
    ∙ behind_named (rounds link c s).layer s.layer h (confirmed c l s.layer h) beside (rounds_name link c s h)

pub nothing_behind : (next : Layer) (h count : ℕ) (beside : List StationEntry) → count ≡ 0 → entries_behind next h count beside ≡ beside
nothing_behind next h count beside none = ap (λ (n : ℕ). entries_behind next h n beside) none

-- what is entered of a packet, and then what it confirms or brings beside
pub heard_all : (link : LinkView) (c : LayerSettings) (l : Layer) (octets : List ℕ) (mid after others : List StationEntry) → mid
    ≡ entries_of_answer (layer_answer c true l octets) → after ≡ mid ++ others
    → (let a : LayerAnswer = layer_answer c true l octets in
    let next : Layer = (rounds link c (begin a.next a.owed)).layer in
    let h : ℕ = named_by octets in
    entries_behind next h (confirmed c l next h) (entries_beside (beside_in true octets) (bringing a.notices)) ≡ others)
    → after ≡ entries_of_packet c true l octets
heard_all link c l octets mid after others told is behind =
    let a : LayerAnswer = layer_answer c true l octets in
    is ∙ ap (λ (es : List StationEntry). es ++ others) told
    ∙ ap (λ (es : List StationEntry). entries_of_answer a ++ es)
    (sym behind ∙ pulled_behind link c l (begin a.next a.owed) (named_by octets) (entries_beside (beside_in true octets) (bringing a.notices)))

pub stands_by : (c : LayerSettings) (l : Layer) (h k : ℕ) (before : Option Unconfirmed) → h ≡ k → Stands c l h before → Stands c l k before
stands_by c l h k before is stands = subst (λ (h : ℕ). Stands c l h before) is stands
