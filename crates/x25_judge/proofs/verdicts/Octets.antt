-- The octets that the judge holds of an end's last eight numbers.
use Rattle.x25_judge.proofs.verdicts.Names.{◌≡◌, ◌⊎◌, inl, inr, ℕ, ◌+◌, ◌%◌, ◌==◌, ◌<◌, ◌≤◌, arith, max, Bool, true, zero, suc, List, [], ◌∷◌, ◌++◌, length, Some}
use Rattle.x25_judge.proofs.verdicts.Names.{refl, sym, ap, ◌∙◌, subst, slice_get, slice_index_or, slice_set, nat_le, not, ◌&&◌, replicate, both_ways, cases_eq}
use Rattle.x25_judge.proofs.verdicts.Names.{cond-true, get_or-set_same, get_or-set_other, get_or-replicate, length-set, PlainFrame, info, rr, ROOM, Held}
use Rattle.x25_judge.proofs.verdicts.Names.{differs, forgets, forgets_all, is_held, kept, keeps, forgets_each, forgets_in, IsIn, Spot, Stand, Up, false, le-leb}
use Rattle.std.specs.Str.{bytes_eq}
use Rattle.std.proofs.lemmas.Bool.Decides.{nat_tests}
use Rattle.std.proofs.lemmas.Slice.Eq.{bytes_eq-Decides}

-- there are octets of eight numbers
pub record HasRoom (h : Held) : Type 0 where
  pub octets : length h.octets ≡ 8
  pub known : length h.known ≡ 8

pub keeps_room : (h : Held) (frame : PlainFrame) → HasRoom h → HasRoom (keeps h frame)
unfolding keeps
keeps_room h (info ns nr pf packet) g = record {
  octets = length-set h.octets (ns % 8) (kept packet) ∙ g.octets;
  known = length-set h.known (ns % 8) (nat_le (length packet) ROOM) ∙ g.known;
}
keeps_room h (rr command nr pf) g = g
keeps_room h frame g = g

-- each of the last eight that is known is held under its number
pub record IsHeld (h : Held) (given : List (List ℕ)) (m : ℕ) : Type 0 where
  pub room : HasRoom h
  pub octets : (n : ℕ) → n < m → m ≤ n + 8 → is_held h n ≡ true → slice_get given n ≡ Some (slice_index_or h.octets (n % 8) [])

pub is_before : (n m : ℕ) → n ≤ m → (n == m) ≡ false → n < m
is_before n m low e = grind (arith, nat_tests, low, e)

pub begun_held : (h : Held) (given : List (List ℕ)) → HasRoom h → IsHeld h given 0
begun_held h given room = record { room = room; octets = λ n lt low is. absurd (omega (arith, lt)) }

pushed : (xs : List (List ℕ)) (x y : List ℕ) (n : ℕ) → slice_get xs n ≡ Some y → slice_get (xs ++ x ∷ []) n ≡ Some y
pushed [] x y n h = cc
pushed (z ∷ xs) x y zero h = h
pushed (z ∷ xs) x y (suc n) h = pushed xs x y n h

pub pushed_held : (h : Held) (given : List (List ℕ)) (packet : List ℕ) (m : ℕ) → IsHeld h given m → IsHeld h (given ++ packet ∷ []) m
pushed_held h given packet m is = record {
  room = is.room;
  octets = λ n before near known.
      pushed given packet (slice_index_or h.octets (n % 8) []) n (is.octets n before near known);
}

-- number n goes, new or again
pub sent_held : (h : Held) (given : List (List ℕ)) (m n ns nr : ℕ) (pf : Bool) (packet : List ℕ) → ns ≡ n % 8 → n ≤ m → m ≤ n + 7
    → length packet ≤ ROOM → slice_get given n ≡ Some packet → IsHeld h given m → IsHeld (keeps h (info ns nr pf packet)) given (max m (n + 1))
unfolding keeps
sent_held h given m n ns nr pf packet number le near fits same is = record {
  room = keeps_room h (info ns nr pf packet) is.room;
  octets = λ k before low known. go k before low known (cases_eq k n);
}
  where
    at : ns % 8 ≡ n % 8
    at = omega (arith, number)

    in_room : ns % 8 < length h.octets
    in_room = rw is.room.octets (omega arith)

    apart_from : (k : ℕ) → k < max m (n + 1) → max m (n + 1) ≤ k + 8 → (k ≡ n → ⊥) → (k % 8 ≡ ns % 8 → ⊥)
    apart_from k before low ne e = omega (arith, number, le, near, ne)

    go : (k : ℕ) → k < max m (n + 1) → max m (n + 1) ≤ k + 8 → slice_index_or (slice_set h.known (ns % 8) (nat_le (length packet) ROOM)) (k % 8) false ≡ true
        → ((k ≡ n) ⊎ (k ≡ n → ⊥)) → slice_get given k ≡ Some (slice_index_or (slice_set h.octets (ns % 8) (kept packet)) (k % 8) [])
    go k before low known (inl e) =
        let here : slice_index_or (slice_set h.octets (ns % 8) (kept packet)) (k % 8) [] ≡ packet =
        ap (λ i. slice_index_or (slice_set h.octets (ns % 8) (kept packet)) i []) (ap (λ x. x % 8) e ∙ sym at)
        ∙ get_or-set_same h.octets (ns % 8) (kept packet) [] in_room ∙ cond-true (nat_le (length packet) ROOM) packet [] (le-leb (length packet) ROOM fits) in
        ap (λ x. slice_get given x) e ∙ same ∙ ap (λ (x : List ℕ). Some x) (sym here)
    go k before low known (inr ne) =
        is.octets k (omega (arith, before, le, ne)) (omega (arith, low))
        (sym (get_or-set_other h.known (ns % 8) (k % 8) (nat_le (length packet) ROOM) false (apart_from k before low ne)) ∙ known) ∙ ap (λ (x : List ℕ). Some x)
        (sym (get_or-set_other h.octets (ns % 8) (k % 8) (kept packet) [] (apart_from k before low ne)))

-- a number that went before carries what it did
pub same_octets : (h : Held) (given : List (List ℕ)) (m n ns nr : ℕ) (pf : Bool) (packet : List ℕ) → ns ≡ n % 8 → n < m → m ≤ n + 7
    → slice_get given n ≡ Some packet → IsHeld h given m → differs h (info ns nr pf packet) ≡ false
unfolding differs
same_octets h given m n ns nr pf packet number before near same is = go (is_held h ns) refl
  where
    at : ns % 8 ≡ n % 8
    at = omega (arith, number)

    low : m ≤ n + 8
    low = omega (arith, near)

    some_is : {x y : List ℕ} → Some x ≡ Some y → x ≡ y
    some_is e = cc

    octets_are : is_held h ns ≡ true → bytes_eq (slice_index_or h.octets (ns % 8) []) packet ≡ true
    octets_are known =
        (bytes_eq-Decides (slice_index_or h.octets (ns % 8) []) packet).1
        (ap (λ i. slice_index_or h.octets i []) at ∙ some_is (sym (is.octets n before low (ap (λ i. slice_index_or h.known i false) (sym at) ∙ known)) ∙ same))

    go : (b : Bool) → is_held h ns ≡ b → (b && not (bytes_eq (slice_index_or h.octets (ns % 8) []) packet)) ≡ false
    go false e = refl
    go true e = ap not (octets_are e)

-- ---- octets of numbers that are known no longer

-- in a session it has sent so many
abbrev pub HasSent : ℕ → Stand → Type 0
HasSent n (Up k) = k.sent ≡ n
HasSent n s = Unit {0}

-- less is known, and nothing of the next number of an end that stands so
pub record IsLess (g h : Held) (Stands : Stand → Type 0) : Type 0 where
  pub octets : g.octets ≡ h.octets
  pub marks : length g.known ≡ 8
  pub known : (n : ℕ) → is_held g n ≡ true → is_held h n ≡ true
  pub gone : (n : ℕ) (s : Stand) → Stands s → HasSent n s → is_held g n ≡ true → ⊥

not_any : (n : ℕ) (h : Held) → is_held (forgets_all h) n ≡ true → ⊥
not_any n h is = both_ways (slice_index_or (replicate 8 false) (n % 8) false) (get_or-replicate 8 (n % 8) false false low) is
  where
    low : n % 8 < 8
    low = omega arith

not_forgotten : (n k : ℕ) (h : Held) → length h.known ≡ 8 → k % 8 ≡ n % 8 → is_held (forgets n h) k ≡ true → ⊥
not_forgotten n k h marks same is =
    both_ways (slice_index_or (slice_set h.known (n % 8) false) (n % 8) false)
    (get_or-set_same h.known (n % 8) false false room)
    (ap (λ i. slice_index_or (slice_set h.known (n % 8) false) i false) (sym same) ∙ is)
  where
    room : n % 8 < length h.known
    room = rw marks (omega arith)

in_less : (s : Stand) (h : Held) → length h.known ≡ 8 → IsLess (forgets_in s h) h (λ r. r ≡ s)
in_less (Up k) h marks = record {
  octets = refl;
  marks = length-set h.known (k.sent % 8 % 8) false ∙ marks;
  known = λ n is. go n is (cases_eq (n % 8) (k.sent % 8 % 8));
  gone = λ n s same e is. not_forgotten (k.sent % 8) n h marks (next k.sent n (subst (HasSent n) same e)) is;
}
  where
    next : (a b : ℕ) → a ≡ b → b % 8 ≡ a % 8 % 8
    next a b e = omega (arith, e)

    go : (n : ℕ) → is_held (forgets (k.sent % 8) h) n ≡ true → ((n % 8 ≡ k.sent % 8 % 8) ⊎ (n % 8 ≡ k.sent % 8 % 8 → ⊥)) → is_held h n ≡ true
    go n is (inl e) = absurd (not_forgotten (k.sent % 8) n h marks e is)
    go n is (inr ne) = sym (get_or-set_other h.known (k.sent % 8 % 8) (n % 8) false false ne) ∙ is
in_less s h marks = record { octets = refl; marks = refl; known = λ n is. absurd (not_any n h is); gone = λ n r same e is. not_any n h is }

-- some place stands so
abbrev StandsIn : List Spot → Stand → Type 0
StandsIn qs s = (q : Spot) × IsIn q qs × (s ≡ q.stand)

pub each_less : (qs : List Spot) (h : Held) → length h.known ≡ 8 → IsLess (forgets_each qs h) h (StandsIn qs)
each_less [] h marks = record { octets = refl; marks = marks; known = λ n is. is; gone = λ n s there e is. there.1 }
each_less (q ∷ qs) h marks =
    let one = in_less q.stand h marks in
    let all = each_less qs (forgets_in q.stand h) one.marks in
    record {
      octets = all.octets ∙ one.octets;
      marks = all.marks;
      known = λ n is. one.known n (all.known n is);
      gone = λ n s there e is. elim there.1 [
        | inl same ↦ one.gone n s (there.2 ∙ ap (λ (r : Spot). r.stand) same) e (all.known n is)
        | inr more ↦ all.gone n s (there.0, more, there.2) e is
      ];
    }

pub each_room : (qs : List Spot) (h : Held) → HasRoom h → HasRoom (forgets_each qs h)
each_room qs h g =
    let less = each_less qs h g.known in
    record { octets = ap (λ (xs : List (List ℕ)). length xs) less.octets ∙ g.octets; known = less.marks }

octets_less : (qs : List Spot) (h : Held) (given : List (List ℕ)) (m n : ℕ) → IsHeld h given m → n < m → m ≤ n + 8
    → is_held (forgets_each qs h) n ≡ true → slice_get given n ≡ Some (slice_index_or (forgets_each qs h).octets (n % 8) [])
octets_less qs h given m n is before near known =
    let less = each_less qs h is.room.known in
    is.octets n before near (less.known n known) ∙ ap (λ (xs : List (List ℕ)). Some (slice_index_or xs (n % 8) [])) (sym less.octets)

pub held_less : (qs : List Spot) (h : Held) (given : List (List ℕ)) (m : ℕ) → IsHeld h given m → IsHeld (forgets_each qs h) given m
held_less qs h given m is =
    record { room = each_room qs h is.room; octets = λ n before near known. octets_less qs h given m n is before near known }

-- a number more may have gone
pub held_more : (qs : List Spot) (h : Held) (given : List (List ℕ)) (m : ℕ) → IsHeld h given m → ((q : Spot) × IsIn q qs × HasSent m q.stand)
    → IsHeld (forgets_each qs h) given (m + 1)
held_more qs h given m is at = record {
  room = each_room qs h is.room;
  octets = λ n before near known. go n before near known (cases_eq n m);
}
  where
    go : (n : ℕ) → n < m + 1 → m + 1 ≤ n + 8 → is_held (forgets_each qs h) n ≡ true → ((n ≡ m) ⊎ (n ≡ m → ⊥))
        → slice_get given n ≡ Some (slice_index_or (forgets_each qs h).octets (n % 8) [])
    go n before near known (inl e) =
        absurd ((each_less qs h is.room.known).gone m at.0.stand (at.0, at.1, refl) at.2
        (subst (λ k. is_held (forgets_each qs h) k ≡ true) e known))
    go n before near known (inr ne) = octets_less qs h given m n is (omega (arith, before, ne)) (omega (arith, near)) known

-- ---- octets that are known of each number

-- each of the last eight is
abbrev pub AreKnown : Held → ℕ → Type 0
AreKnown h m = (n : ℕ) → n < m → m ≤ n + 8 → is_held h n ≡ true

pub last_of : (xs : List (List ℕ)) (x : List ℕ) (n : ℕ) → length xs ≡ n → slice_get (xs ++ x ∷ []) n ≡ Some x
last_of [] x n e = rw (sym e) refl
last_of (y ∷ xs) x n e = rw (sym e) (last_of xs x (length xs) refl)

-- number n goes, new or again
pub sent_known : (h : Held) (m n ns nr : ℕ) (pf : Bool) (packet : List ℕ) → ns ≡ n % 8 → n ≤ m → length packet ≤ ROOM
    → length h.known ≡ 8 → AreKnown h m → AreKnown (keeps h (info ns nr pf packet)) (max m (n + 1))
unfolding keeps
sent_known h m n ns nr pf packet number le fits marks are k before near = go (cases_eq (k % 8) (ns % 8))
  where
    at : ns % 8 ≡ n % 8
    at = omega (arith, number)

    in_room : ns % 8 < length h.known
    in_room = rw marks (omega arith)

    go : ((k % 8 ≡ ns % 8) ⊎ (k % 8 ≡ ns % 8 → ⊥)) → slice_index_or (slice_set h.known (ns % 8) (nat_le (length packet) ROOM)) (k % 8) false ≡ true
    go (inl e) =
        ap (λ i. slice_index_or (slice_set h.known (ns % 8) (nat_le (length packet) ROOM)) i false) e
        ∙ get_or-set_same h.known (ns % 8) (nat_le (length packet) ROOM) false in_room ∙ le-leb (length packet) ROOM fits
    go (inr ne) =
        get_or-set_other h.known (ns % 8) (k % 8) (nat_le (length packet) ROOM) false ne ∙ are k (omega (arith, before, ne, at, le)) (omega (arith, near))

-- octets that don't differ from known ones are the same
pub old_octets : (h : Held) (given : List (List ℕ)) (m n ns nr : ℕ) (pf : Bool) (packet : List ℕ) → ns ≡ n % 8 → n < m → m ≤ n + 7
    → differs h (info ns nr pf packet) ≡ false → IsHeld h given m → AreKnown h m → slice_get given n ≡ Some packet
unfolding differs
old_octets h given m n ns nr pf packet number before near same is are =
    is.octets n before low (are n before low) ∙ ap (λ (x : List ℕ). Some x)
    (ap (λ i. slice_index_or h.octets i []) (sym at)
    ∙ (bytes_eq-Decides (slice_index_or h.octets (ns % 8) []) packet).0 (equal (bytes_eq (slice_index_or h.octets (ns % 8) []) packet) known same))
  where
    at : ns % 8 ≡ n % 8
    at = omega (arith, number)

    low : m ≤ n + 8
    low = omega (arith, near)

    known : is_held h ns ≡ true
    known = ap (λ i. slice_index_or h.known i false) at ∙ are n before low

    equal : (b : Bool) → is_held h ns ≡ true → (is_held h ns && not b) ≡ false → b ≡ true
    equal true e k = refl
    equal false e k = absurd (both_ways (is_held h ns && true) k (ap (λ c. c && true) e))
