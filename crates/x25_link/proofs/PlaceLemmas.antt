-- How many packets stand in long places.
use Rattle.x25_link.proofs.Names.{◌≡◌, ℕ, ◌+◌, ◌<◌, ◌≤◌, List, [], ◌∷◌, ◌++◌, length, drop, Some, length-append, Bool, true, false, if◌then◌else◌, refl, ◌-◌}
use Rattle.circular_buffer.specs.Buffer.{Buffer, buffer, keep_last}
use Rattle.std.{proofs.Common.{slice_get}, specs.Prelude.{nat_le}}
use Rattle.x25_link.{proofs.Names.{sym, ap, ◌∙◌, arith}, specs.code.Places.{long_of, longs, left_for, ShownSpares}}

by_size : (b : Bool) → (if b then 0 else 1) ≤ 1
by_size true = omega arith
by_size false = omega arith

pub long_few : (x : List ℕ) → long_of x ≤ 1
long_few x = by_size (nat_le (length x) 260)

pub longs_append : (xs ys : List (List ℕ)) → longs (xs ++ ys) ≡ longs xs + longs ys
unfolding longs
longs_append [] ys = omega arith
longs_append (x ∷ xs) ys = omega (arith, longs_append xs ys)

pub longs_push : (xs : List (List ℕ)) (x : List ℕ) → longs (xs ++ x ∷ []) ≡ longs xs + long_of x
unfolding longs
longs_push xs x = longs_append xs (x ∷ []) ∙ omega arith

pub longs_first : (x : List ℕ) (xs : List (List ℕ)) → longs (x ∷ xs) ≡ long_of x + longs xs
unfolding longs
longs_first x xs = refl

pub longs_none : longs [] ≡ 0
unfolding longs
longs_none = refl

pub longs_few : (xs : List (List ℕ)) → longs xs ≤ length xs
unfolding longs
longs_few [] = omega arith
longs_few (x ∷ xs) = omega (arith, long_few x, longs_few xs)

pub first_of : (xs : List (List ℕ)) (x : List ℕ) → slice_get xs 0 ≡ Some x → xs ≡ x ∷ drop 1 xs
first_of [] x e = absurd (none e)
  where
    none : slice_get (drop 0 (drop 1 (x ∷ []))) 0 ≡ Some x → ⊥
    none e = cc
first_of (y ∷ xs) x e = cc

-- the first packet that waits, taken out of the ring
pub popped : (b b' : Buffer (List ℕ)) (x : List ℕ) (n : ℕ) → Some x ≡ slice_get b.items 0 → b' ≡ buffer (drop 1 b.items) n → b.items ≡ x ∷ b'.items
popped b b' x n e f = first_of b.items x (sym e) ∙ ap (λ (r : Buffer (List ℕ)). x ∷ r.items) (sym f)

-- ---- a packet more: its place is taken

-- one more waits, where there is a place in the ring
pub pushed : (b b' : Buffer (List ℕ)) (x : List ℕ) → b' ≡ buffer (keep_last b.capacity (b.items ++ x ∷ [])) b.capacity → length b.items < b.capacity
    → b'.items ≡ b.items ++ x ∷ []
pushed b b' x e room =
    let all : length (b.items ++ x ∷ []) - b.capacity ≡ 0 = omega (arith, length-append b.items (x ∷ []), room) in
    ap (λ (r : Buffer (List ℕ)). r.items) e ∙ ap (λ (n : ℕ). drop n (b.items ++ x ∷ [])) all

pub more_short : (left left' n m : ℕ) (q q' : List (List ℕ)) (x y : List ℕ) → q' ≡ q ++ y ∷ [] → y ≡ x → left' + 1 ≡ left + long_of x → left + (n + length q)
    ≡ 263 + (m + longs q)
    → left' + (n + length q') ≡ 263 + (m + longs q')
more_short left left' n m q q' x y e same taken count =
    omega (arith, ap length e, length-append q (y ∷ []), ap longs e, longs_push q y, ap long_of same, taken, count)

pub more_long : (left left' m all all' : ℕ) (q q' : List (List ℕ)) (x y : List ℕ) → q' ≡ q ++ y ∷ [] → y ≡ x → left' + long_of x ≡ left → all' ≡ all → left
    + (m + longs q) ≡ all
    → left' + (m + longs q') ≡ all'
more_long left left' m all all' q q' x y e same taken alike count =
    omega (arith, ap longs e, longs_push q y, ap long_of same, taken, alike, count)

-- the same where it is sent and doesn't wait
pub sent_short : (left left' n m : ℕ) (xs xs' : List (List ℕ)) (x y : List ℕ) → xs' ≡ xs ++ y ∷ [] → y ≡ x → left' + 1 ≡ left + long_of x → left
    + (length xs + n) ≡ 263 + (longs xs + m)
    → left' + (length xs' + n) ≡ 263 + (longs xs' + m)
sent_short left left' n m xs xs' x y e same taken count =
    omega (arith, ap length e, length-append xs (y ∷ []), ap longs e, longs_push xs y, ap long_of same, taken, count)

pub sent_long : (left left' m all all' : ℕ) (xs xs' : List (List ℕ)) (x y : List ℕ) → xs' ≡ xs ++ y ∷ [] → y ≡ x → left' + long_of x ≡ left → all' ≡ all → left
    + (longs xs + m) ≡ all
    → left' + (longs xs' + m) ≡ all'
sent_long left left' m all all' xs xs' x y e same taken alike count =
    omega (arith, ap longs e, longs_push xs y, ap long_of same, taken, alike, count)

-- ---- a place is left where few wait

pub some_left : (s l : ShownSpares) (n k : ℕ) (xs q : List (List ℕ)) → length xs ≤ k → k ≤ 7 → length q < 8 → s.left + (length xs + length q) ≡ 263
    + (longs xs + longs q)
    → l.left + (longs xs + longs q) ≡ l.all → l.all ≡ 15 → 0 < left_for s l n
some_left s l n k xs q room small few short long all = by_test (nat_le n 260)
  where
    by_test : (b : Bool) → 0 < (if b then s.left else l.left)
    by_test true = omega (arith, room, small, few, short)
    by_test false = omega (arith, room, small, few, long, all, longs_few xs, longs_few q)

-- ---- the first packet goes: its place comes back

pub goes : (left long all n m : ℕ) (xs rest : List (List ℕ)) (x : List ℕ) → xs ≡ x ∷ rest → m ≤ n → left + (length xs + n) ≡ 263 + (longs xs + m)
    → long + (longs xs + m) ≡ all → (left < 263 + long_of x) × (long + long_of x ≤ all)
goes left long all n m xs rest x e few short long_count =
    (omega (arith, ap length e, ap longs e, longs_first x rest, longs_few rest, few, short), omega (arith, ap longs e, longs_first x rest, long_count))

pub less_short : (left left' n m : ℕ) (xs rest : List (List ℕ)) (x : List ℕ) → xs ≡ x ∷ rest → left' + long_of x ≡ left + 1 → left + (length xs + n) ≡ 263
    + (longs xs + m)
    → left' + (length rest + n) ≡ 263 + (longs rest + m)
less_short left left' n m xs rest x e given count = omega (arith, ap length e, ap longs e, longs_first x rest, given, count)

pub less_long : (left left' m all all' : ℕ) (xs rest : List (List ℕ)) (x : List ℕ) → xs ≡ x ∷ rest → left' ≡ left + long_of x → all' ≡ all → left
    + (longs xs + m) ≡ all
    → left' + (longs rest + m) ≡ all'
less_long left left' m all all' xs rest x e given alike count = omega (arith, ap longs e, longs_first x rest, given, alike, count)

-- ---- a packet that waited is sent: places stay

pub record Moves (xs xs' q q' : List (List ℕ)) : Type 0 where
  pub count : length xs' + length q' ≡ length xs + length q
  pub long : longs xs' + longs q' ≡ longs xs + longs q

pub moves : (xs xs' q q' : List (List ℕ)) (x : List ℕ) → xs' ≡ xs ++ x ∷ [] → q ≡ x ∷ q' → Moves xs xs' q q'
moves xs xs' q q' x e f = record {
  count = omega (arith, ap length e, length-append xs (x ∷ []), ap length f);
  long = omega (arith, ap longs e, longs_push xs x, ap longs f, longs_first x q');
}
