-- Octets that are written as digits, block by block.
use Rattle.x25_text.proofs.Names.{ℕ, zero, suc, ◌≡◌, ◌<◌, ◌≤◌, ◌+◌, ◌-◌, ◌*◌, ◌/◌, ◌%◌, ◌∙◌, true, false, cond, List, [], ◌∷◌, ◌++◌, length, take, drop, map}
use Rattle.x25_text.proofs.Names.{get_or, refl, ap, sym, arith, ◌==◌, nat_lt, top, agree_below, agree_below_at, eqb-true, length-take-le, take_all, take-take}
use Rattle.std.proofs.lemmas.{Grind.{flat_map-append}, List.{get_or-append-add, get_or-map, get_or_append_left, length-map, take_at}}
use Rattle.std.specs.{Fmt.{digit_glyph}, List.{flat_map}}
use Rattle.x25_text.{proofs.Names.{take-add}, specs.Text.{octet_text}}

-- ---- some octets

-- the character of a half of an octet, as the vectors compute it
abbrev pub character : ℕ → ℕ
character half = ((half + 48) % 256 + cond (top 7 (cond (nat_lt half 10) 255 0)) 0 39) % 256

-- the characters of so many high halves and as many low ones, in turn, from a place on
unfoldable pub in_turn : List ℕ → ℕ → ℕ → ℕ → List ℕ
in_turn halves n place zero = []
in_turn halves n place (suc count) = character (get_or halves place 0) ∷ character (get_or halves (n + place) 0) ∷ in_turn halves n (place + 1) count

turn_shown : (f g : ℕ → ℕ) (n place count : ℕ) (v halves : List ℕ) → length v ≡ count → ((i : ℕ) → get_or v i 0 < 256)
    → agree_below (λ x. character (f x) == digit_glyph false (x / 16)) (λ _. true) 256 ≡ true
    → agree_below (λ x. character (g x) == digit_glyph false (x % 16)) (λ _. true) 256 ≡ true
    → ((j : ℕ) → j < count → get_or halves (place + j) 0 ≡ f (get_or v j 0)) → ((j : ℕ) → j < count → get_or halves (n + place + j) 0 ≡ g (get_or v j 0))
    → in_turn halves n place count ≡ flat_map octet_text v
unfolding in_turn
turn_shown f g n place zero [] halves e fits s t high low = refl
turn_shown f g n place zero (x ∷ v) halves e fits s t high low = absurd (omega arith)
turn_shown f g n place (suc count) [] halves e fits s t high low = absurd (omega arith)
turn_shown f g n place (suc count) (x ∷ v) halves e fits s t high low =
    let first : character (get_or halves place 0) ≡ digit_glyph false (x / 16) =
    ap (λ m. character (get_or halves m 0)) (zero_more place) ∙ ap character (high 0 (omega arith))
    ∙ eqb-true _ _ (agree_below_at (λ x. character (f x) == digit_glyph false (x / 16)) (λ _. true) 256 x s (fits 0)) in
    let second : character (get_or halves (n + place) 0) ≡ digit_glyph false (x % 16) =
    ap (λ m. character (get_or halves m 0)) (zero_more (n + place)) ∙ ap character (low 0 (omega arith))
    ∙ eqb-true _ _ (agree_below_at (λ x. character (g x) == digit_glyph false (x % 16)) (λ _. true) 256 x t (fits 0)) in
    let rest : in_turn halves n (place + 1) count ≡ flat_map octet_text v =
    turn_shown f g n (place + 1) count v halves (omega (arith, e)) (λ i. fits (suc i)) s t
    (λ j h. ap (λ m. get_or halves m 0) (on place j) ∙ high (suc j) (omega (arith, h)))
    (λ j h. ap (λ m. get_or halves m 0) (on_behind place j) ∙ low (suc j) (omega (arith, h))) in
    λ i. first i ∷ second i ∷ rest i
  where
    zero_more : (m : ℕ) → m ≡ m + 0
    zero_more m = omega arith

    on : (place j : ℕ) → place + 1 + j ≡ place + suc j
    on place j = omega arith

    on_behind : (place j : ℕ) → n + (place + 1) + j ≡ n + place + suc j
    on_behind place j = omega arith

pub octets_shown : (f g : ℕ → ℕ) (n : ℕ) (v high low : List ℕ) → length v ≡ n → ((i : ℕ) → get_or v i 0 < 256)
    → agree_below (λ x. character (f x) == digit_glyph false (x / 16)) (λ _. true) 256 ≡ true
    → agree_below (λ x. character (g x) == digit_glyph false (x % 16)) (λ _. true) 256 ≡ true
    → high ≡ map f v → low ≡ map g v → in_turn (high ++ low) n 0 n ≡ flat_map octet_text v
octets_shown f g n v high low e fits s t p q =
    turn_shown f g n 0 n v (high ++ low) e fits s t
    (λ j h. ap (λ m. get_or (high ++ low) m 0) (none_before j) ∙ get_or_append_left high low 0 j (omega (arith, long, h)) ∙ ap (λ l. get_or l j 0) p
    ∙ get_or-map f v j 0 0 (omega (arith, e, h)))
    (λ j h. ap (λ m. get_or (high ++ low) m 0) (none_between j) ∙ get_or-append-add high low j 0 ∙ ap (λ l. get_or l j 0) q
    ∙ get_or-map g v j 0 0 (omega (arith, e, h)))
  where
    long : length high ≡ n
    long = ap length p ∙ length-map v f ∙ e

    none_before : (j : ℕ) → 0 + j ≡ j
    none_before j = omega arith

    none_between : (j : ℕ) → n + 0 + j ≡ length high + j
    none_between j = omega (arith, long)

pub length_shown : (v : List ℕ) → length (flat_map octet_text v) ≡ 2 * length v
length_shown [] = refl
length_shown (x ∷ v) = omega (arith, length_shown v)

-- ---- the loop

-- the first octets are written
pub record Shows (count : ℕ) (octets digits : List ℕ) : Type 0 where
  pub long : length digits ≡ 2 * length octets
  pub same : take (2 * count) digits ≡ flat_map octet_text (take count octets)

pub shows_none : (octets digits : List ℕ) → length digits ≡ 2 * length octets → Shows 0 octets digits
shows_none octets digits long = record { long = long; same = refl }

-- a block more
pub shows_more : (place block : ℕ) (octets digits next : List ℕ) → Shows place octets digits
    → take (2 * (place + block)) next ≡ take (2 * place) digits ++ flat_map octet_text (take block (drop place octets)) → length next ≡ length digits
    → Shows (place + block) octets next
shows_more place block octets digits next shows written long = record {
  long = long ∙ shows.long;
  same =
      written
      ∙ ap (λ front. front ++ flat_map octet_text (take block (drop place octets))) shows.same
      ∙ sym (flat_map-append octet_text (take place octets) (take block (drop place octets)))
      ∙ ap (flat_map octet_text) (sym (take-add place block octets));
}

-- fewer octets
pub shows_fewer : (place count : ℕ) (octets digits : List ℕ) → Shows count octets digits → place ≤ count → count ≤ length octets → Shows place octets digits
shows_fewer place count octets digits shows le within =
    let front = take place octets in
    let rest = take (count - place) (drop place octets) in
    let sum : count ≡ place + (count - place) = omega arith in
    let apart : take count octets ≡ front ++ rest = ap (λ n. take n octets) sum ∙ take-add place (count - place) octets in
    let size : length (flat_map octet_text front) ≡ 2 * place = omega (arith, length_shown front, length-take-le place octets (omega arith)) in
    record {
      long = shows.long;
      same =
          sym (take-take (2 * place) (2 * count) digits (omega arith))
          ∙ ap (take (2 * place)) (shows.same ∙ ap (flat_map octet_text) apart ∙ flat_map-append octet_text front rest)
          ∙ take_at (flat_map octet_text front) (flat_map octet_text rest) (2 * place) size;
    }

-- the last block
pub shows_last : (place block count : ℕ) (octets digits next : List ℕ) → Shows count octets digits → place ≤ count → count ≤ length octets → place + block
    ≡ length octets
    → take (2 * (place + block)) next ≡ take (2 * place) digits ++ flat_map octet_text (take block (drop place octets)) → length next ≡ length digits
    → next ≡ flat_map octet_text octets
shows_last place block count octets digits next shows le within end written long =
    let all = shows_more place block octets digits next (shows_fewer place count octets digits shows le within) written long in
    sym (take_all (2 * (place + block)) next (omega (arith, all.long, end))) ∙ all.same
    ∙ ap (flat_map octet_text) (take_all (place + block) octets (omega (arith, end)))
