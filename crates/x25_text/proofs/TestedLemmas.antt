-- Characters that are tested block by block, the last block over the one before it.
use Rattle.x25_text.proofs.Names.{ℕ, suc, ◌≡◌, ◌<◌, ◌≤◌, ◌+◌, ◌-◌, ◌%◌, ◌∙◌, Bool, true, false, cond, List, [], ◌∷◌, length, map, take, drop, get_or, refl, ap}
use Rattle.x25_text.proofs.Names.{sym, arith, ◌==◌, ◌&&◌, nat_lt, top, list_all, agree_below, agree_below_at, eqb-true, ltb-false, ltb-true, length-drop}
use Rattle.x25_text.proofs.Names.{take_all, take-take, take-add, value_of}
use Rattle.std.proofs.lemmas.{Bool.{and_parts, le-leb, leb-true}, List.{drop-drop, take-append-drop}, List.Folds.{list_all-append}}
use Rattle.std.specs.{Char.{is_ascii_hexdigit}, List.{prefix_len}, Prelude.{nat_le}, Simd.Lanes.{sel_l, zip2}}

-- ---- sixteen characters

all_tested : agree_below (λ c. nat_lt (value_of c) 16) is_ascii_hexdigit 256 ≡ true
all_tested = refl

pub digits_tested : (v : List ℕ) → ((i : ℕ) → get_or v i 0 < 256) → list_all (λ x. nat_lt x 16) (map value_of v) ≡ list_all is_ascii_hexdigit v
digits_tested [] h = refl
digits_tested (x ∷ v) h =
    let here : nat_lt (value_of x) 16 ≡ is_ascii_hexdigit x = agree_below_at (λ c. nat_lt (value_of c) 16) is_ascii_hexdigit 256 x all_tested (h 0) in
    λ i. here i && digits_tested v (λ j. h (suc j)) i

-- and so many of them in front
pub digits_leading : (v : List ℕ) → ((i : ℕ) → get_or v i 0 < 256) → prefix_len (λ x. nat_lt x 16) (map value_of v) ≡ prefix_len is_ascii_hexdigit v
digits_leading [] h = refl
digits_leading (x ∷ v) h =
    let here : nat_lt (value_of x) 16 ≡ is_ascii_hexdigit x = agree_below_at (λ c. nat_lt (value_of c) 16) is_ascii_hexdigit 256 x all_tested (h 0) in
    λ i. cond (here i) (1 + digits_leading v (λ j. h (suc j)) i) 0

-- the same, by marks from 246 up
pub marks_tested : (f : ℕ → ℕ) (v : List ℕ) → agree_below (λ c. nat_le 246 (f c)) is_ascii_hexdigit 256 ≡ true → ((i : ℕ) → get_or v i 0 < 256)
    → list_all (nat_le 246) (map f v) ≡ list_all is_ascii_hexdigit v
marks_tested f [] t h = refl
marks_tested f (x ∷ v) t h =
    let here : nat_le 246 (f x) ≡ is_ascii_hexdigit x = agree_below_at (λ c. nat_le 246 (f c)) is_ascii_hexdigit 256 x t (h 0) in
    λ i. here i && marks_tested f v t (λ j. h (suc j)) i

all_turned : agree_below (λ m. nat_lt ((m + 10) % 256) 10) (nat_le 246) 256 ≡ true
all_turned = refl

-- marks that are turned so that those of digits are the least
pub turned_tested : (v : List ℕ) → ((i : ℕ) → get_or v i 0 < 256) → list_all (λ x. nat_lt x 10) (map (λ x. (x + 10) % 256) v) ≡ list_all (nat_le 246) v
turned_tested [] h = refl
turned_tested (x ∷ v) h =
    let here : nat_lt ((x + 10) % 256) 10 ≡ nat_le 246 x = agree_below_at (λ m. nat_lt ((m + 10) % 256) 10) (nat_le 246) 256 x all_turned (h 0) in
    λ i. here i && turned_tested v (λ j. h (suc j)) i

both_ways : (p q a b : Bool) → ((p && q) && (a && b)) ≡ ((p && a) && (q && b))
both_ways true true a b = refl
both_ways true false true b = refl
both_ways true false false b = refl
both_ways false q a b = refl

no_more : (b : Bool) → (b && false) ≡ false
no_more true = refl
no_more false = refl

lesser_passes : (x y : ℕ) → nat_le 246 (cond (top 7 (cond (nat_lt x y) 255 0)) x y) ≡ (nat_le 246 x && nat_le 246 y)
lesser_passes x y = go (nat_lt x y) refl
  where
    first : (b : Bool) → x < y → nat_le 246 x ≡ b → nat_le 246 x ≡ (nat_le 246 x && nat_le 246 y)
    first true h e = let large = leb-true 246 x e in e ∙ sym (λ i. e i && le-leb 246 y (omega (arith, large, h)) i)
    first false h e = e ∙ sym (ap (λ b. b && nat_le 246 y) e)

    second : (b : Bool) → y ≤ x → nat_le 246 y ≡ b → nat_le 246 y ≡ (nat_le 246 x && nat_le 246 y)
    second true h e = let large = leb-true 246 y e in e ∙ sym (λ i. le-leb 246 x (omega (arith, large, h)) i && e i)
    second false h e = e ∙ sym (no_more (nat_le 246 x)) ∙ ap (λ b. nat_le 246 x && b) (sym e)

    go : (b : Bool) → nat_lt x y ≡ b → nat_le 246 (cond (top 7 (cond (nat_lt x y) 255 0)) x y) ≡ (nat_le 246 x && nat_le 246 y)
    go true e = ap (λ b. nat_le 246 (cond (top 7 (cond b 255 0)) x y)) e ∙ first (nat_le 246 x) (ltb-true x y e) refl
    go false e = ap (λ b. nat_le 246 (cond (top 7 (cond b 255 0)) x y)) e ∙ second (nat_le 246 y) (ltb-false x y e) refl

-- the lesser marks are of digits where both are
pub lesser_tested : (a b : List ℕ) → length a ≡ length b
    → list_all (nat_le 246) (sel_l (map (top 7) (zip2 (λ x y. cond (nat_lt x y) 255 0) a b)) a b) ≡ (list_all (nat_le 246) a && list_all (nat_le 246) b)
lesser_tested [] [] e = refl
lesser_tested [] (y ∷ b) e = absurd (omega arith)
lesser_tested (x ∷ a) [] e = absurd (omega arith)
lesser_tested (x ∷ a) (y ∷ b) e =
    (λ i. lesser_passes x y i && lesser_tested a b (omega arith) i)
    ∙ both_ways (nat_le 246 x) (nat_le 246 y) (list_all (nat_le 246) a) (list_all (nat_le 246) b)

tested : (b t : Bool) → b ≡ true → cond b t true ≡ true → t ≡ true
tested true t p e = e
tested false t p e = absurd (cc)

-- two functions of a character that agree at each digit
pub same_at_digits : (f g : ℕ → ℕ) (v : List ℕ) → agree_below (λ c. cond (is_ascii_hexdigit c) (f c == g c) true) (λ _. true) 256 ≡ true
    → ((i : ℕ) → get_or v i 0 < 256) → list_all is_ascii_hexdigit v ≡ true → map f v ≡ map g v
same_at_digits f g [] t h digits = refl
same_at_digits f g (x ∷ v) t h digits =
    let parts = and_parts (is_ascii_hexdigit x) (list_all is_ascii_hexdigit v) digits in
    let either = agree_below_at (λ c. cond (is_ascii_hexdigit c) (f c == g c) true) (λ _. true) 256 x t (h 0) in
    let here : f x ≡ g x = eqb-true _ _ (tested (is_ascii_hexdigit x) (f x == g x) parts.0 either) in
    λ i. here i ∷ same_at_digits f g v t (λ j. h (suc j)) parts.1 i

-- ---- the loop

module _ (p : ℕ → Bool) where
  all_apart : (count : ℕ) (xs : List ℕ) → list_all p xs ≡ (list_all p (take count xs) && list_all p (drop count xs))
  all_apart count xs = ap (list_all p) (sym (take-append-drop count xs)) ∙ list_all-append p (take count xs) (drop count xs)

  pub all_both : (count block : ℕ) (xs : List ℕ) → (list_all p (take count xs) && list_all p (take block (drop count xs)))
      ≡ list_all p (take (count + block) xs)
  all_both count block xs = sym (ap (list_all p) (take-add count block xs) ∙ list_all-append p (take count xs) (take block (drop count xs)))

  -- the next two blocks
  pub all_both_two : (count block : ℕ) (xs : List ℕ)
      → (list_all p (take count xs) && (list_all p (take block (drop count xs)) && list_all p (take block (drop (count + block) xs))))
      ≡ list_all p (take (count + (block + block)) xs)
  all_both_two count block xs =
      ap (λ b. list_all p (take count xs) && b)
      (ap (λ ys. list_all p (take block (drop count xs)) && list_all p (take block ys)) (sym (drop-drop block count xs))
      ∙ all_both block block (drop count xs))
      ∙ all_both count (block + block) xs

  -- a part of what passes
  pub all_part : (count block : ℕ) (xs : List ℕ) → list_all p xs ≡ true → list_all p (take block (drop count xs)) ≡ true
  all_part count block xs all =
      let rest = (and_parts (list_all p (take count xs)) (list_all p (drop count xs)) (sym (all_apart count xs) ∙ all)).1 in
      (and_parts (list_all p (take block (drop count xs))) (list_all p (drop block (drop count xs))) (sym (all_apart block (drop count xs)) ∙ rest)).0

  -- the last block
  pub all_last : (count place block : ℕ) (xs : List ℕ) → list_all p (take count xs) ≡ true → place ≤ count → place + block ≡ length xs
      → list_all p xs ≡ list_all p (take block (drop place xs))
  all_last count place block xs before le end =
      let front : list_all p (take place xs) ≡ true =
      ap (list_all p) (sym (take-take place count xs le))
      ∙ (and_parts (list_all p (take place (take count xs))) (list_all p (drop place (take count xs))) (sym (all_apart place (take count xs)) ∙ before)).0 in
      all_apart place xs ∙ ap (λ b. b && list_all p (drop place xs)) front
      ∙ ap (list_all p) (sym (take_all block (drop place xs) (omega (arith, length-drop place xs, end))))

  -- the last block, whether those before it pass or not
  pub all_over : (count place block : ℕ) (xs : List ℕ) → place ≤ count → place + block ≡ length xs
      → (list_all p (take count xs) && list_all p (take block (drop place xs))) ≡ list_all p xs
  all_over count place block xs le end = go (list_all p (take count xs)) refl
    where
      go : (b : Bool) → list_all p (take count xs) ≡ b → (list_all p (take count xs) && list_all p (take block (drop place xs))) ≡ list_all p xs
      go true e = ap (λ b. b && list_all p (take block (drop place xs))) e ∙ sym (all_last count place block xs e le end)
      go false e =
          ap (λ b. b && list_all p (take block (drop place xs))) e
          ∙ sym (all_apart count xs ∙ ap (λ b. b && list_all p (drop count xs)) e)

  -- the last two blocks, of which the first begins where those before it were tested
  pub all_over_two : (count place last block : ℕ) (xs : List ℕ) → place ≤ count → place ≤ last → last ≤ place + block → last + block ≡ length xs
      → (list_all p (take count xs) && (list_all p (take block (drop place xs)) && list_all p (take block (drop last xs)))) ≡ list_all p xs
  all_over_two count place last block xs le on near end =
      let rest : length xs - place ≡ length (drop place xs) = sym (length-drop place xs) in
      let two : (list_all p (take block (drop place xs)) && list_all p (take block (drop last xs))) ≡ list_all p (drop place xs) =
      ap (λ ys. list_all p (take block (drop place xs)) && list_all p (take block ys))
      (ap (λ n. drop n xs) (omega (arith, on)) ∙ sym (drop-drop (last - place) place xs))
      ∙ all_over block (last - place) block (drop place xs) (omega (arith, near)) (omega (arith, length-drop place xs, on, end)) in
      ap (λ b. list_all p (take count xs) && b)
      (two ∙ ap (list_all p) (sym (take_all (length xs - place) (drop place xs) (omega (arith, rest)))))
      ∙ all_over count place (length xs - place) xs le (omega (arith, on, end))
