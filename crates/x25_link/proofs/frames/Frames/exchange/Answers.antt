use Rattle.x25_link.proofs.Names.{◌≡◌, ◌<◌, ℕ, zero, suc, List, [], ◌∷◌, length, map, take, drop, refl, ap, sym, ◌∙◌, arith, Vec, Global, length-take-le}
use Rattle.std.proofs.{Common.{slice_index_or}, Math.ListN.{set}, lemmas.List.{length-map}}
use native.Mathlib.Numerals.{unary_clauses}
use Rattle.x25_link.proofs.frames.Frames.exchange.Goals as goal

front : {X : Type 0} (f : X → List ℕ) (xs : List X) (n k : ℕ) (d : X) → k < n → k < length xs → take 1 (drop k (take n (map f xs))) ≡ f (slice_index_or xs k d) ∷ []
front f [] n k d few within = absurd (omega (arith, within))
front f (x ∷ xs) zero k d few within = absurd (omega (arith, few))
front f (x ∷ xs) (suc n) zero d few within = refl
front f (x ∷ xs) (suc n) (suc k) d few within = front f xs n k d (omega (arith, few)) (omega (arith, within))

behind : {X : Type 0} (f : X → List ℕ) (xs : List X) (n k : ℕ) (y : X) → drop (suc k) (take n (map f (set xs k y))) ≡ drop (suc k) (take n (map f xs))
behind f (x ∷ xs) (suc n) (suc k) y = behind f xs n k y
behind f xs n k y = refl

pub returns-clause-frame : goal.returns-clause-frame
returns-clause-frame c =
    let octets_of = λ (v : Vec ℕ Global). v.items in
    let places = c.self.inside.places.items in
    let count = c.self.inside.count in
    let all = length-map places octets_of in
    let used = length-take-le count (map octets_of places) (omega (arith, all, c.self.invariant.0, c.self.invariant.1)) in
    let within : c.args.place < count = omega (arith, used, ap length c.self.view_is, c.requires.place) in
    ap (λ (l : List (List ℕ)). take 1 (drop c.args.place l)) (sym c.self.view_is)
    ∙ front octets_of places count c.args.place c.index_mut.result.now within (omega (arith, within, c.self.invariant.0, c.self.invariant.1))
    ∙ ap (λ (v : Vec ℕ Global). v.items ∷ []) (sym (c.replace.ensures.value ∙ c.index_mut.ensures.value))

pub returns-clause-rest : goal.returns-clause-rest
returns-clause-rest c =
    let octets_of = λ (v : Vec ℕ Global). v.items in
    simp unary_clauses (behind octets_of c.self.inside.places.items c.self.inside.count c.args.place c.replace.new.dest
    ∙ ap (λ (l : List (List ℕ)). drop (suc c.args.place) l) c.self.view_is)
