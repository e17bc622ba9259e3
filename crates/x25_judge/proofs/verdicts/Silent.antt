-- Places of an end each of which stands no better than one session, in which all is heard and taken as it is shown: what
-- it sends with a number is what the session allows.
use Rattle.x25_judge.proofs.verdicts.Names.{◌≡◌, inl, inr, arith, Bool, true, false, List, [], ◌∷◌, ◌++◌, Some, None, Option, refl, sym, ap, ◌∙◌, subst}
use Rattle.x25_judge.proofs.verdicts.Names.{both_ways, cond_both, cond-true, none-some, cond_some, comes, IsIn, Place, at, counts, fresh, heard, may_answer}
use Rattle.x25_judge.proofs.verdicts.Names.{may_count, goes, is_plain, least_of, number_of, onward, settle, settled, upward, Frame, Info, Ready, Ua, Unread}
use Rattle.x25_judge.proofs.verdicts.Names.{Numbers, Stand, Out, Asking, Up, Free, IsPassed, counted_at, swaps, AreBelow, Below, below_on, below_self}
use Rattle.x25_judge.proofs.verdicts.Names.{counts_more, heard_below, onward_up, if◌then◌else◌}
use Rattle.x25_possible_links.specs.laws.Places.{first, sends}
use Rattle.x25_possible_links.specs.laws.Places as place

-- ---- a session

-- a frame with a number, as the rules of a link see it
abbrev pub IsNumber : Frame → Type 0
IsNumber (Info ns nr d) = Unit {0}
IsNumber (Ready nr) = Unit {0}
IsNumber x = ⊥

-- it stands no better; or it awaits UA, as long as nothing was sent in the session
abbrev pub Fits : Numbers → Stand → Type 0
Fits k Out = Unit {0}
Fits k Asking = (k.sent ≡ 0) × (k.told ≡ 0)
Fits k (Up j) = AreBelow j k
Fits k Free = ⊥

-- once all has come
abbrev pub IsWithin : Numbers → Place Stand Frame → Type 0
IsWithin k p = Fits k (comes p.way p.state)

-- ---- what is made the best of at once

plain_on : (s : Stand) (x : Frame) → is_plain s x ≡ true → upward s x ≡ onward s x
plain_on Asking Ua e = absurd (both_ways false refl e)
plain_on Asking Unread e = absurd (both_ways false refl e)
plain_on s x e = refl

pub settled_comes : (way : List Frame) (s : Stand) → comes (settled s way).way (settled s way).state ≡ comes way s
settled_comes [] s = refl
settled_comes (x ∷ way) s = go (is_plain s x) refl (settled_comes way (onward s x))
  where
    go : (b : Bool) → is_plain s x ≡ b → comes (settled (onward s x) way).way (settled (onward s x) way).state ≡ comes way (onward s x)
        → comes (if b then settled (onward s x) way else at s (x ∷ way)).way (if b then settled (onward s x) way else at s (x ∷ way)).state
        ≡ comes way (upward s x)
    go true e h = h ∙ ap (comes way) (sym (plain_on s x e))
    go false e h = refl

-- ---- the other end sends

pub comes_on : (way : List Frame) (s : Stand) (x : Frame) → comes (way ++ x ∷ []) s ≡ upward (comes way s) x
comes_on [] s x = refl
comes_on (y ∷ way) s x = comes_on way (upward s y) x

pub heard_sent : (k : Numbers) (x : Frame) → (heard true true k x).sent ≡ k.sent
heard_sent k (Info ns nr d) = refl
heard_sent k x = refl

heard_told : (k : Numbers) (x : Frame) → (heard true true k x).told ≡ k.told
heard_told k (Info ns nr d) = refl
heard_told k x = refl

pub upward_within : (u : Stand) (k : Numbers) (x : Frame) → Fits k u → Fits (heard true true k x) (upward u x)
upward_within Out k x b = tt
upward_within (Up j) k x b = heard_below true true j k x b
upward_within Asking k x b = cond_both (may_answer x) fresh Asking (λ (u : Stand). Fits (heard true true k x) u) (λ _. begun) (λ _. asks)
  where
    asks : Fits (heard true true k x) Asking
    asks = (heard_sent k x ∙ b.0, heard_told k x ∙ b.1)

    begun : Fits (heard true true k x) fresh
    begun = let told = asks.1 in record { sent = asks.0; acked = omega arith; taken = omega arith; told = omega (arith, told) }
upward_within Free k x b = absurd b

pub within_passes : (k : Numbers) → IsPassed (IsWithin k)
within_passes k u x v e h = subst (λ w. Fits k (comes v w)) e h

pub shown_within : (x : Frame) (k : Numbers) (p : Place Stand Frame) → IsWithin k p → IsWithin (heard true true k x) (place.shown x p)
shown_within x k p h =
    subst (Fits (heard true true k x)) (sym (settled_comes (p.way ++ x ∷ []) p.state ∙ comes_on p.way p.state x))
    (upward_within (comes p.way p.state) k x h)

-- ---- the end sends

hears_all : List Frame → Numbers → Numbers
hears_all [] k = k
hears_all (x ∷ way) k = hears_all way (heard true true k x)

up_comes : (way : List Frame) (k : Numbers) → comes way (Up k) ≡ Up (hears_all way k)
unfolding hears_all
up_comes [] k = refl
up_comes (x ∷ way) k = up_comes way (heard true true k x)

all_swaps : (way : List Frame) (k : Numbers) (x : Frame) → hears_all way (counted_at k x) ≡ counted_at (hears_all way k) x
unfolding hears_all
all_swaps [] k x = refl
all_swaps (y ∷ way) k x =
    ap (hears_all way) (sym (swaps k x y)) ∙ all_swaps way (heard true true k y) x

up_better : (way : List Frame) (k : Numbers) → AreBelow k (hears_all way k)
unfolding hears_all
up_better [] k = below_self (Up k)
up_better (x ∷ way) k =
    below_on (Up k) (Up (heard true true k x)) (Up (hears_all way (heard true true k x))) (onward_up (Up k) x)
    (up_better way (heard true true k x))

pub up_below : (way : List Frame) (k : Numbers) → Below (Up k) (comes way (Up k))
up_below way k = subst (Below (Up k)) (sym (up_comes way k)) (up_better way k)

free_comes : (way : List Frame) → comes way Free ≡ Free
free_comes [] = refl
free_comes (x ∷ way) = free_comes way

-- the session allows it, and then the place stands no better
pub record Allows (k : Numbers) (x : Frame) (p : Place Stand Frame) : Type 0 where
  pub may : may_count (number_of (Up k) x) (least_of (Up k) x) k x ≡ true
  pub within : IsWithin (counted_at k x) p

sends_counts : (s : Stand) (way : List Frame) (x : Frame) → IsNumber x → sends s way x ≡ counts (number_of s x) (least_of s x) s x
sends_counts s way (Info ns nr d) is = refl
sends_counts s way (Ready nr) is = refl
sends_counts s way x is = absurd is

counts_on : (j k : Numbers) (x : Frame) → AreBelow j k → may_count (number_of (Up j) x) (least_of (Up j) x) j x ≡ true
    → (may_count (number_of (Up k) x) (least_of (Up k) x) k x ≡ true) × AreBelow (counted_at j x) (counted_at k x)
counts_on j k x b may =
    let more = counts_more (number_of (Up j) x) (least_of (Up j) x) (Up j) (Up k) x (Up (counted_at j x)) b
    (cond-true (may_count (number_of (Up j) x) (least_of (Up j) x) j x) (Some (Up (counted_at j x))) None may) in
    let there = cond_some (may_count (number_of (Up k) x) (least_of (Up k) x) k x) (Up (counted_at k x)) more.0 more.1 in
    (there.0, subst (Below (Up (counted_at j x))) (sym there.1) more.2)

at_up : (k j : Numbers) (way : List Frame) (x : Frame) (r : Stand) → counts (number_of (Up j) x) (least_of (Up j) x) (Up j) x ≡ Some r
    → Fits k (comes way (Up j)) → Allows k x (at r way)
at_up k j way x r e b =
    let here = cond_some (may_count (number_of (Up j) x) (least_of (Up j) x) j x) (Up (counted_at j x)) r e in
    let all = counts_on j (hears_all way j) x (up_better way j) here.0 in
    let more = counts_on (hears_all way j) k x (subst (Fits k) (up_comes way j) b) all.0 in
    record {
      may = more.0;
      within = subst (λ u. Fits (counted_at k x) (comes way u)) here.1
          (subst (Fits (counted_at k x))
          (sym (up_comes way (counted_at j x) ∙ ap (λ (i : Numbers). Up i) (all_swaps way j x))) more.1);
    }

found_within : (k : Numbers) (s : Stand) (way : List Frame) (x : Frame) (r : Stand) → IsNumber x → sends s way x ≡ Some r → Fits k (comes way s)
    → Allows k x (at r way)
found_within k s way x r is e b = go s (sym (sends_counts s way x is) ∙ e) b
  where
    go : (s : Stand) → counts (number_of s x) (least_of s x) s x ≡ Some r → Fits k (comes way s) → Allows k x (at r way)
    go (Up j) h c = at_up k j way x r h c
    go Free h c = absurd (subst (Fits k) (free_comes way) c)
    go s h c = absurd (none-some r h)

first_within : (k : Numbers) (s : Stand) (way : List Frame) (x : Frame) (o : Option Stand) (later : List (Place Stand Frame))
    (m : Place Stand Frame) → IsNumber x → sends s way x ≡ o → Fits k (comes way s) → (IsIn m later → Allows k x m) → IsIn m (first o way later) → Allows k x m
first_within k s way x None later m is e b rest there = rest there
first_within k s way x (Some r) later m is e b rest (inl same) =
    subst (λ p. Allows k x p) (sym same) (found_within k s way x r is e b)
first_within k s way x (Some r) later m is e b rest (inr h) = absurd h

goes_within : (k : Numbers) (x : Frame) (way : List Frame) (s : Stand) (m : Place Stand Frame) → IsNumber x → Fits k (comes way s) → IsIn m (goes x s way)
    → Allows k x m
goes_within k x [] s m is b there = first_within k s [] x (sends s [] x) [] m is refl b (λ h. absurd h) there
goes_within k x (y ∷ way) s m is b there =
    first_within k s (y ∷ way) x (sends s (y ∷ way) x) (goes x (upward s y) way) m is refl b
    (λ h. goes_within k x way (upward s y) m is b h) there

pub walks_within : (k : Numbers) (x : Frame) (p m : Place Stand Frame) → IsNumber x → IsWithin k p → IsIn m (place.walks x p) → Allows k x m
walks_within k (Info ns nr d) p m is b there = goes_within k (Info ns nr d) p.way p.state m is b there
walks_within k (Ready nr) p m is b there = goes_within k (Ready nr) p.way p.state m is b there
walks_within k x p m is b there = absurd is

pub settled_within : (k : Numbers) (m : Place Stand Frame) → IsWithin k m → IsWithin k (settle m)
settled_within k m h = subst (Fits k) (sym (settled_comes m.way m.state)) h

pub walked_within : (k : Numbers) (x : Frame) (p m : Place Stand Frame) → IsNumber x → IsWithin k p → IsIn m (place.walks x p)
    → IsWithin (counted_at k x) (settle m)
walked_within k x p m is b there = settled_within (counted_at k x) m (walks_within k x p m is b there).within
