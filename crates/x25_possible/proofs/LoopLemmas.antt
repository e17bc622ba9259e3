-- Loops over a list of states, one by one.
use Rattle.x25_possible.proofs.Names.{Bool, true, false, ◌≡◌, ℕ, suc, ◌+◌, ◌<◌, ◌≤◌, ◌&&◌, nat_le, if◌then◌else◌, List, [], ◌∷◌, drop, length, sym, ap, ◌∙◌}
use Rattle.x25_possible.proofs.Names.{Option, Some, None, arith, refl, not, drop_of_length-le, leb-true, Role, at_once, is_polite, takes, kept, is_large}
use Rattle.x25_possible.proofs.Names.{spot_at, settles_by, settles, all_of, and_then, are_at_end, may_send, rude_from, Packet, Phase, Spot}
use Rattle.std.proofs.{Common.{get_or}, Math.Seq.{drop-cons}, lemmas.Bool.{false_from_ne_true, false≢true, le-leb}}
use Rattle.x25_possible.specs.{Channel.{found}, code.Steps.{found_from, made, settles_found, are_polite}}

-- the one that is looked at, and the rest
pub here : {X : Type 0} (xs : List X) (i : ℕ) (d : X) → i < length xs → drop i xs ≡ get_or xs i d ∷ drop (i + 1) xs
here xs i d less =
    let more : i + 1 ≡ suc i = omega arith in
    drop-cons xs i d less ∙ ap (λ n. get_or xs i d ∷ drop n xs) (sym more)

-- What a function says of all is what it says of what is left: where the next one tells nothing it is so of the rest.
pub next_of_left : {X Y : Type 0} (f : List X → Y) (xs : List X) (i : ℕ) (d : X) → i < length xs → f (drop i xs) ≡ f xs
    → f (get_or xs i d ∷ drop (i + 1) xs) ≡ f (drop (i + 1) xs) → f (drop (i + 1) xs) ≡ f xs
next_of_left f xs i d less before same = sym same ∙ sym (ap f (here xs i d less)) ∙ before

pub found_of_left : {X Y : Type 0} (f : List X → Y) (xs : List X) (i : ℕ) (d : X) (y : Y) → i < length xs → f (drop i xs) ≡ f xs
    → f (get_or xs i d ∷ drop (i + 1) xs) ≡ y → f xs ≡ y
found_of_left f xs i d y less before found = sym before ∙ ap f (here xs i d less) ∙ found

pub none_of_left : {X Y : Type 0} (f : List X → Y) (xs : List X) (i : ℕ) → length xs ≤ i → f (drop i xs) ≡ f xs → f [] ≡ f xs
none_of_left f xs i far before = sym (ap f (drop_of_length-le xs far)) ∙ before

-- where what is made so far is looked at too
pub next_made : (step : Spot → List Spot → Option (List Spot)) (qs : List Spot) (i : ℕ) (d : Spot) (first now new : List Spot) (b : Bool)
    → i < length qs → all_of step (drop i qs) now ≡ all_of step qs first → made b new ≡ step (get_or qs i d) now → b ≡ true
    → all_of step (drop (i + 1) qs) new ≡ all_of step qs first
next_made step qs i d first now new b less before step_is ok =
    let one : Some new ≡ step (get_or qs i d) now = sym (ap (λ c. made c new) ok) ∙ step_is in
    ap (λ o. and_then o (all_of step (drop (i + 1) qs))) one ∙ sym (ap (λ xs. all_of step xs now) (here qs i d less)) ∙ before

pub not_made : (step : Spot → List Spot → Option (List Spot)) (qs : List Spot) (i : ℕ) (d : Spot) (first now new : List Spot) (b : Bool)
    → i < length qs → all_of step (drop i qs) now ≡ all_of step qs first → made b new ≡ step (get_or qs i d) now → b ≡ false
    → None ≡ all_of step qs first
not_made step qs i d first now new b less before step_is not_ok =
    let one : None ≡ step (get_or qs i d) now = sym (ap (λ c. made c new) not_ok) ∙ step_is in
    ap (λ o. and_then o (all_of step (drop (i + 1) qs))) one ∙ sym (ap (λ xs. all_of step xs now) (here qs i d less)) ∙ before

pub all_made : (step : Spot → List Spot → Option (List Spot)) (qs : List Spot) (i : ℕ) (first now : List Spot) → length qs ≤ i
    → all_of step (drop i qs) now ≡ all_of step qs first → Some now ≡ all_of step qs first
all_made step qs i first now far before = sym (ap (λ xs. all_of step xs now) (drop_of_length-le qs far)) ∙ before

-- ---- one by one

at_least : (a b : ℕ) → a ≤ b → nat_le a b ≡ true
at_least a b h = le-leb a b h

not_at_least : (a b : ℕ) → b < a → nat_le a b ≡ false
not_at_least a b h = false_from_ne_true (nat_le a b) (λ e. let g = leb-true a b e in omega (arith, g, h))

pub next_past : (n : ℕ) (qs : List Spot) (i : ℕ) (d : Spot) → i < length qs → n ≤ (get_or qs i d).at
    → are_at_end n (drop i qs) ≡ are_at_end n qs → are_at_end n (drop (i + 1) qs) ≡ are_at_end n qs
next_past n qs i d less far before =
    next_of_left (are_at_end n) qs i d less before
    (ap (λ b. b && are_at_end n (drop (i + 1) qs)) (at_least n (get_or qs i d).at far))

pub not_past : (n : ℕ) (qs : List Spot) (i : ℕ) (d : Spot) → i < length qs → (get_or qs i d).at < n
    → are_at_end n (drop i qs) ≡ are_at_end n qs → false ≡ are_at_end n qs
not_past n qs i d less near before =
    sym (found_of_left (are_at_end n) qs i d false less before
    (ap (λ b. b && are_at_end n (drop (i + 1) qs)) (not_at_least n (get_or qs i d).at near)))

-- ---- all to which a state comes

pub settles_large : (role : Role) (n : ℕ) (way : List Packet) (s : Phase) (out : List Spot) → is_large s ≡ true → None ≡ settles role n way s out
settles_large role n [] s out large = sym (ap (λ b. if b then None else kept (spot_at n s) out) large)
settles_large role n (x ∷ rest) s out large =
    sym (ap (λ b. if b then None else settles_by (at_once s x) (takes role s x) (spot_at n s) (settles role (n + 1) rest) out) large)

-- ---- all in which an end is behind a packet, that was anywhere from there on

module _ (role : Role) (last : Option Packet) (n : ℕ) (way : List Packet) (x : Packet) (out : List Spot) where
  abbrev First : Option (List Spot)
  First = settles_found role n (drop n way) (found last x) out

  abbrev Found : Option (List Spot)
  Found = found_from role last n (drop n way) x out

  full_of : (rest : List Packet) → settles_found role n rest (found last x) out ≡ None → None ≡ found_from role last n rest x out
  full_of [] e = sym e
  full_of (y ∷ rest) e = sym (ap (λ o. and_then o (found_from role (Some y) (n + 1) rest x)) e)

  pub found_full : First ≡ None → None ≡ Found
  found_full e = full_of (drop n way) e

  pub found_end : (mid : List Spot) → length way ≤ n → First ≡ Some mid → Some mid ≡ Found
  found_end mid far e =
      sym e ∙ ap (λ w. settles_found role n w (found last x) out) (drop_of_length-le way far)
      ∙ sym (ap (λ w. found_from role last n w x out) (drop_of_length-le way far))

  pub found_on : (mid : List Spot) (d : Packet) → n < length way → First ≡ Some mid
      → found_from role (Some (get_or way n d)) (n + 1) (drop (n + 1) way) x mid ≡ Found
  found_on mid d less e =
      let front = here way n d less in
      sym (ap (λ w. found_from role last n w x out) front
      ∙ ap (λ o. and_then o (found_from role (Some (get_or way n d)) (n + 1) (drop (n + 1) way) x))
      (sym (ap (λ w. settles_found role n w (found last x) out) front) ∙ e))

-- what was made is what the definition has
pub made_some : (b : Bool) (new : List Spot) (o : Option (List Spot)) → made b new ≡ o → b ≡ true → o ≡ Some new
made_some b new o e ok = sym e ∙ ap (λ c. made c new) ok

pub made_none : (b : Bool) (new : List Spot) (o : Option (List Spot)) → made b new ≡ o → b ≡ false → o ≡ None
made_none b new o e not_ok = sym e ∙ ap (λ c. made c new) not_ok

-- ---- where each is polite, none is rude

pub polite_none : (x : Packet) (qs : List Spot) → are_polite x qs ≡ true → None ≡ rude_from x None qs
polite_none x [] h = refl
polite_none x (q ∷ qs) h = go (is_large q.phase) (is_polite q.phase x) (may_send q.phase x) h (polite_none x qs)
  where
    go : (large polite may : Bool) → (not large && (polite && are_polite x qs)) ≡ true → (are_polite x qs ≡ true → None ≡ rude_from x None qs)
        → None ≡ (if may then (if polite then None else rude_from x (Some q.phase) qs) else rude_from x None qs)
    go true polite may h rest = absurd (false≢true h)
    go false false may h rest = absurd (false≢true h)
    go false true true h rest = refl
    go false true false h rest = rest h
