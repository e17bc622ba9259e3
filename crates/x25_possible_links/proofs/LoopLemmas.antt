-- Loops over a list of places, one by one.
use Rattle.x25_possible_links.proofs.Names.{Bool, true, false, ◌≡◌, ℕ, suc, ◌+◌, ◌<◌, ◌≤◌, nat_lt, if◌then◌else◌, List, [], ◌∷◌, drop, length, get_or, map, sym}
use Rattle.x25_possible_links.proofs.Names.{ap, ◌∙◌, Option, Some, None, arith, refl, ltb-true, is_plain, onward, upward, all_of, and_then, each_of, first_of}
use Rattle.x25_possible_links.proofs.Names.{goes, is_large, is_lost, least, pressed, rushed, best, settles, spot_at, with_first, Frame, Spot, Stand, Free}
use Rattle.std.proofs.{Common.{set, zero, drop_of_length-le}, Math.Seq.{drop-cons}}
use Rattle.x25_possible_links.specs.{code.Steps.{come, gone, made, moves, passed}, declared.link.Mode.{Mode}}

-- the one that is looked at, and the rest
pub here : {X : Type 0} (xs : List X) (i : ℕ) (d : X) → i < length xs → drop i xs ≡ get_or xs i d ∷ drop (i + 1) xs
here xs i d less =
    let more : i + 1 ≡ suc i = omega arith in
    drop-cons xs i d less ∙ ap (λ n. get_or xs i d ∷ drop n xs) (sym more)

-- What a function says of all is what it says of what is left: where the next one tells nothing it is so of the rest.
pub next_of_left : {X Y : Type 0} (f : List X → Y) (xs : List X) (i : ℕ) (d : X) → i < length xs → f (drop i xs) ≡ f xs
    → f (get_or xs i d ∷ drop (i + 1) xs) ≡ f (drop (i + 1) xs) → f (drop (i + 1) xs) ≡ f xs
next_of_left f xs i d less before same = sym same ∙ sym (ap f (here xs i d less)) ∙ before

pub found_of_left : {X Y : Type 0} (f : List X → Y) (xs : List X) (i : ℕ) (d : X) (y : Y) → i < length xs → f (drop i xs) ≡ f xs
    → f (get_or xs i d ∷ drop (i + 1) xs) ≡ y → f xs ≡ y
found_of_left f xs i d y less before found = sym before ∙ ap f (here xs i d less) ∙ found

pub none_of_left : {X Y : Type 0} (f : List X → Y) (xs : List X) (i : ℕ) → length xs ≤ i → f (drop i xs) ≡ f xs → f [] ≡ f xs
none_of_left f xs i far before = sym (ap f (drop_of_length-le xs far)) ∙ before

-- where what is made so far is looked at too
pub next_made : (step : Spot → List Spot → Option (List Spot)) (qs : List Spot) (i : ℕ) (d : Spot) (first now new : List Spot) (b : Bool)
    → i < length qs → all_of step (drop i qs) now ≡ all_of step qs first → made b new ≡ step (get_or qs i d) now → b ≡ true
    → all_of step (drop (i + 1) qs) new ≡ all_of step qs first
next_made step qs i d first now new b less before step_is ok =
    let one : Some new ≡ step (get_or qs i d) now = sym (ap (λ c. made c new) ok) ∙ step_is in
    ap (λ o. and_then o (all_of step (drop (i + 1) qs))) one ∙ sym (ap (λ xs. all_of step xs now) (here qs i d less)) ∙ before

pub not_made : (step : Spot → List Spot → Option (List Spot)) (qs : List Spot) (i : ℕ) (d : Spot) (first now new : List Spot) (b : Bool)
    → i < length qs → all_of step (drop i qs) now ≡ all_of step qs first → made b new ≡ step (get_or qs i d) now → b ≡ false
    → None ≡ all_of step qs first
not_made step qs i d first now new b less before step_is not_ok =
    let one : None ≡ step (get_or qs i d) now = sym (ap (λ c. made c new) not_ok) ∙ step_is in
    ap (λ o. and_then o (all_of step (drop (i + 1) qs))) one ∙ sym (ap (λ xs. all_of step xs now) (here qs i d less)) ∙ before

pub all_made : (step : Spot → List Spot → Option (List Spot)) (qs : List Spot) (i : ℕ) (first now : List Spot) → length qs ≤ i
    → all_of step (drop i qs) now ≡ all_of step qs first → Some now ≡ all_of step qs first
all_made step qs i first now far before = sym (ap (λ xs. all_of step xs now) (drop_of_length-le qs far)) ∙ before

-- what was made is what the definition has
pub made_some : (b : Bool) (new : List Spot) (o : Option (List Spot)) → made b new ≡ o → b ≡ true → o ≡ Some new
made_some b new o e ok = sym e ∙ ap (λ c. made c new) ok

pub made_none : (b : Bool) (new : List Spot) (o : Option (List Spot)) → made b new ≡ o → b ≡ false → o ≡ None
made_none b new o e not_ok = sym e ∙ ap (λ c. made c new) not_ok

-- ---- a list that is changed in place, from the front

-- those from a place on are changed
abbrev pub left_mapped : (Spot → Spot) → ℕ → List Spot → List Spot
left_mapped f zero qs = map f qs
left_mapped f (suc n) [] = []
left_mapped f (suc n) (q ∷ qs) = q ∷ left_mapped f n qs

-- or there is none for one of them
abbrev pub left_of : (Spot → Option Spot) → ℕ → List Spot → Option (List Spot)
left_of f zero qs = each_of f qs
left_of f (suc n) [] = Some []
left_of f (suc n) (q ∷ qs) = with_first (Some q) (left_of f n qs)

mapped_next : (f : Spot → Spot) (n : ℕ) (qs : List Spot) (d : Spot) → n < length qs
    → left_mapped f (suc n) (set qs n (f (get_or qs n d))) ≡ left_mapped f n qs
mapped_next f n [] d low = absurd (omega (arith, low))
mapped_next f zero (q ∷ qs) d low = refl
mapped_next f (suc n) (q ∷ qs) d low = ap (λ l. q ∷ l) (mapped_next f n qs d (omega (arith, low)))

one_on : (n : ℕ) → n + 1 ≡ suc n
one_on n = omega arith

pub mapped_more : (f : Spot → Spot) (n : ℕ) (qs all : List Spot) (d new : Spot) → n < length qs → new ≡ f (get_or qs n d)
    → left_mapped f n qs ≡ map f all → left_mapped f (n + 1) (set qs n new) ≡ map f all
mapped_more f n qs all d new low e h =
    ap (λ q. left_mapped f (n + 1) (set qs n q)) e ∙ ap (λ k. left_mapped f k (set qs n (f (get_or qs n d)))) (one_on n)
    ∙ mapped_next f n qs d low ∙ h

pub mapped_all : (f : Spot → Spot) (n : ℕ) (qs all : List Spot) → length qs ≤ n → left_mapped f n qs ≡ map f all → qs ≡ map f all
mapped_all f n qs all few h = sym (same n qs few) ∙ h
  where
    same : (n : ℕ) (qs : List Spot) → length qs ≤ n → left_mapped f n qs ≡ qs
    same zero [] few = refl
    same zero (q ∷ qs) few = absurd (omega (arith, few))
    same (suc n) [] few = refl
    same (suc n) (q ∷ qs) few = ap (λ l. q ∷ l) (same n qs (omega (arith, few)))

each_next : (f : Spot → Option Spot) (n : ℕ) (qs : List Spot) (d new : Spot) → n < length qs → Some new ≡ f (get_or qs n d)
    → left_of f (suc n) (set qs n new) ≡ left_of f n qs
each_next f n [] d new low e = absurd (omega (arith, low))
each_next f zero (q ∷ qs) d new low e = ap (λ o. with_first o (each_of f qs)) e
each_next f (suc n) (q ∷ qs) d new low e = ap (with_first (Some q)) (each_next f n qs d new (omega (arith, low)) e)

pub each_more : (f : Spot → Option Spot) (n : ℕ) (qs all : List Spot) (d new : Spot) → n < length qs → Some new ≡ f (get_or qs n d)
    → left_of f n qs ≡ each_of f all → left_of f (n + 1) (set qs n new) ≡ each_of f all
each_more f n qs all d new low e h =
    ap (λ k. left_of f k (set qs n new)) (one_on n) ∙ each_next f n qs d new low e ∙ h

pub each_none : (f : Spot → Option Spot) (n : ℕ) (qs all : List Spot) (d : Spot) → n < length qs → None ≡ f (get_or qs n d)
    → left_of f n qs ≡ each_of f all → None ≡ each_of f all
each_none f n qs all d low e h = none n qs low e ∙ h
  where
    none : (n : ℕ) (qs : List Spot) → n < length qs → None ≡ f (get_or qs n d) → None ≡ left_of f n qs
    none n [] low e = absurd (omega (arith, low))
    none zero (q ∷ qs) low e = ap (λ o. with_first o (each_of f qs)) e
    none (suc n) (q ∷ qs) low e = ap (with_first (Some q)) (none n qs (omega (arith, low)) e)

pub each_all : (f : Spot → Option Spot) (n : ℕ) (qs all : List Spot) → length qs ≤ n → left_of f n qs ≡ each_of f all
    → Some qs ≡ each_of f all
each_all f n qs all few h = sym (same n qs few) ∙ h
  where
    same : (n : ℕ) (qs : List Spot) → length qs ≤ n → left_of f n qs ≡ Some qs
    same zero [] few = refl
    same zero (q ∷ qs) few = absurd (omega (arith, few))
    same (suc n) [] few = refl
    same (suc n) (q ∷ qs) few = ap (with_first (Some q)) (same n qs (omega (arith, few)))

-- ---- a stand with a number that is too large, and a place in which a frame may be sent

pub best_large : (n : ℕ) (way : List Frame) (s : Stand) → is_large s ≡ true → None ≡ best n way s
best_large n [] s large = sym (ap (λ b. if b then None else Some (spot_at n s)) large)
best_large n (x ∷ rest) s large =
    sym (ap (λ b. if b then None else if is_plain s x then best (n + 1) rest (onward s x) else Some (spot_at n s)) large)

module _ (mode : Mode) (x : Frame) (way : List Frame) (n : ℕ) (s : Stand) (out : List Spot) where
  pub goes_large : (rest : List Frame) → is_large s ≡ true → None ≡ goes mode x way n rest s out
  goes_large [] large = sym (ap (λ b. if b then None else first_of (moves mode s [] x) (λ r. settles n (drop n way) r out) (Some out)) large)
  goes_large (y ∷ rest) large =
      sym (ap (λ b. if b then None
      else first_of (moves mode s (y ∷ rest) x) (λ r. settles n (drop n way) r out) (goes mode x way (n + 1) rest (upward s y) out)) large)

  pub goes_found : (rest : List Frame) (r : Stand) → is_large s ≡ false → moves mode s rest x ≡ Some r
      → settles n (drop n way) r out ≡ goes mode x way n rest s out
  goes_found [] r small e =
      sym (ap (λ b. if b then None else first_of (moves mode s [] x) (λ r. settles n (drop n way) r out) (Some out)) small
      ∙ ap (λ o. first_of o (λ r. settles n (drop n way) r out) (Some out)) e)
  goes_found (y ∷ rest) r small e =
      sym (ap (λ b. if b then None
      else first_of (moves mode s (y ∷ rest) x) (λ r. settles n (drop n way) r out) (goes mode x way (n + 1) rest (upward s y) out)) small
      ∙ ap (λ o. first_of o (λ r. settles n (drop n way) r out) (goes mode x way (n + 1) rest (upward s y) out)) e)

-- what all have come to is no more than there is
pub least_most : (qs : List Spot) (n : ℕ) → least qs n ≤ n
least_most [] n = omega arith
least_most (q ∷ qs) n = go (nat_lt q.at n) refl (λ m. least_most qs m)
  where
    go : (b : Bool) → nat_lt q.at n ≡ b → ((m : ℕ) → least qs m ≤ m) → least qs (if b then q.at else n) ≤ n
    go true e rest = let h = rest q.at in let g = ltb-true q.at n e in omega (arith, h, g)
    go false e rest = rest n

pub come_lost : (way : List Frame) (s : Stand) → is_lost s ≡ true → Free ≡ come way s
come_lost [] s lost = sym (ap (λ b. if b then Free else s) lost)
come_lost (x ∷ way) s lost = sym (ap (λ b. if b then Free else come way (upward s x)) lost)

pub rushed_lost : (way : List Frame) (s : Stand) → is_lost s ≡ true → Free ≡ rushed way s
rushed_lost [] s lost = sym (ap (λ b. if b then Free else s) lost)
rushed_lost (x ∷ way) s lost = sym (ap (λ b. if b then Free else rushed way (pressed s x)) lost)

pub gone_lost : (way : List Frame) (s : Stand) → is_lost s ≡ true → Free ≡ gone way s
gone_lost [] s lost = sym (ap (λ b. if b then Free else s) lost)
gone_lost (x ∷ way) s lost = sym (ap (λ b. if b then Free else gone way (passed s x)) lost)
