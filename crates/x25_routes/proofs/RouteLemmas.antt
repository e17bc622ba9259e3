-- The route of the longest prefix.
use Rattle.std.proofs.Common.{◌≡◌, ◌∙◌, ℕ, zero, suc, ◌<◌, ◌≤◌, List, [], ◌∷◌, ◌++◌, length, take, drop, Bool, true, false}
use Rattle.std.proofs.Common.{get_or, append_assoc, Option, Some, None, if◌then◌else◌, refl, sym, ap, subst, arith}
use Rattle.std.specs.{List.{Contains}, Str.{bytes_eq}}
use Rattle.std.specs.Prelude.{slice_index_or, ◌==◌, nat_le}
use Rattle.std.proofs.Math.Seq.{drop-cons, take-suc}
use Rattle.std.proofs.lemmas.Bool.{eqb-true, eqb-false, leb-true, leb-false}
use Rattle.std.proofs.lemmas.{List.{length-take-le, length-append, take-append-drop, take_at}, Slice.Eq.{bytes_eq-Decides}}
use Rattle.x25_routes.specs.Route.{PlainRoute}
use Rattle.x25_routes.specs.Routes.{route_of, or_else, found_below, found, without}
use Rattle.x25_routes.specs.laws.PrefixLaw.{Begins, LongestHolds, NoneIsPassedOver}

-- ---- the route of a prefix

pub record IsRouteOf (rs : List PlainRoute) (digits : List ℕ) (r : PlainRoute) : Type 0 where
  pub prefix : r.prefix ≡ digits
  pub made : Contains rs r

deeper : (s r : PlainRoute) (rs : List PlainRoute) → Contains rs r → Contains (s ∷ rs) r
deeper s r rs c = (suc c.0, let low = c.1 in omega (arith, low), c.2)

of_by : (b : Bool) (s r : PlainRoute) (rs : List PlainRoute) (prefix : List ℕ) → bytes_eq s.prefix prefix ≡ b
    → (route_of rs prefix ≡ Some r → IsRouteOf rs prefix r) → (if b then Some s else route_of rs prefix) ≡ Some r → IsRouteOf (s ∷ rs) prefix r
of_by true s r rs prefix same rest is =
    let one : s ≡ r = cc in
    subst (λ x. IsRouteOf (s ∷ rs) prefix x) one
    (record { prefix = (bytes_eq-Decides s.prefix prefix).0 same; made = (0, omega arith, refl) })
of_by false s r rs prefix same rest is = let h = rest is in record { prefix = h.prefix; made = deeper s r rs h.made }

pub route_of_is : (rs : List PlainRoute) (prefix : List ℕ) (r : PlainRoute) → route_of rs prefix ≡ Some r → IsRouteOf rs prefix r
route_of_is [] prefix r is = absurd (cc)
route_of_is (s ∷ rs) prefix r is = of_by (bytes_eq s.prefix prefix) s r rs prefix refl (route_of_is rs prefix r) is

none_by : (b : Bool) (s : PlainRoute) (rs : List PlainRoute) (prefix : List ℕ) → bytes_eq s.prefix prefix ≡ b
    → (if b then Some s else route_of rs prefix) ≡ None → (s.prefix ≡ prefix → ⊥) × (route_of rs prefix ≡ None)
none_by true s rs prefix same is = absurd (cc)
none_by false s rs prefix same is =
    (λ e. let is_same = (bytes_eq-Decides s.prefix prefix).1 e in absurd (cc), is)

none_at : (rs : List PlainRoute) (prefix : List ℕ) → route_of rs prefix ≡ None → (s : PlainRoute) (k : ℕ) → k < length rs
    → slice_index_or rs k s ≡ s → s.prefix ≡ prefix → ⊥
none_at [] prefix is s k low at e = absurd (omega (arith, low))
none_at (r ∷ rs) prefix is s zero low at e = (none_by (bytes_eq r.prefix prefix) r rs prefix refl is).0 (ap (λ (x : PlainRoute). x.prefix) at ∙ e)
none_at (r ∷ rs) prefix is s (suc k) low at e =
    none_at rs prefix (none_by (bytes_eq r.prefix prefix) r rs prefix refl is).1 s k (omega (arith, low)) at e

-- ---- the longest

pub record IsFoundBelow (n : ℕ) (rs : List PlainRoute) (address : List ℕ) (r : PlainRoute) (m : ℕ) : Type 0 where
  pub below : m < n
  pub is : route_of rs (take m address) ≡ Some r
  pub none : (k : ℕ) → m < k → k < n → route_of rs (take k address) ≡ None

same_or : (n k : ℕ) (rs : List PlainRoute) (address : List ℕ) → route_of rs (take n address) ≡ None
    → (k < n → route_of rs (take k address) ≡ None) → k < suc n → (b : Bool) → (k == n) ≡ b → route_of rs (take k address) ≡ None
same_or n k rs address here rest low true e = subst (λ j. route_of rs (take j address) ≡ None) (sym (eqb-true k n e)) here
same_or n k rs address here rest low false e = rest (let other = eqb-false k n e in omega (arith, low, other))

none_of : (o : Option PlainRoute) (n k : ℕ) (rs : List PlainRoute) (address : List ℕ) → route_of rs (take n address) ≡ o
    → or_else o (found_below n rs address) ≡ None → (found_below n rs address ≡ None → k < n → route_of rs (take k address) ≡ None) → k < suc n
    → route_of rs (take k address) ≡ None
none_of (Some r) n k rs address here is rest low = absurd (cc)
none_of None n k rs address here is rest low = same_or n k rs address here (rest is) low (k == n) refl

below_none : (n : ℕ) (rs : List PlainRoute) (address : List ℕ) → found_below n rs address ≡ None → (k : ℕ) → k < n → route_of rs (take k address) ≡ None
below_none zero rs address is k low = absurd (omega (arith, low))
below_none (suc n) rs address is k low =
    none_of (route_of rs (take n address)) n k rs address refl is (λ e below. below_none n rs address e k below) low

found_of : (o : Option PlainRoute) (n : ℕ) (rs : List PlainRoute) (address : List ℕ) (r : PlainRoute) → route_of rs (take n address) ≡ o
    → or_else o (found_below n rs address) ≡ Some r → (found_below n rs address ≡ Some r → (m : ℕ) × IsFoundBelow n rs address r m)
    → (m : ℕ) × IsFoundBelow (suc n) rs address r m
found_of (Some s) n rs address r here is rest =
    (n, record { below = omega arith; is = here ∙ is; none = λ k above low. absurd (omega (arith, above, low)) })
found_of None n rs address r here is rest =
    let h = rest is in (
      h.0,
      record {
        below = let low = h.1.below in omega (arith, low);
        is = h.1.is;
        none = λ k above low. same_or n k rs address here (h.1.none k above) low (k == n) refl;
      },
    )

below_found : (n : ℕ) (rs : List PlainRoute) (address : List ℕ) (r : PlainRoute) → found_below n rs address ≡ Some r
    → (m : ℕ) × IsFoundBelow n rs address r m
below_found zero rs address r is = absurd (cc)
below_found (suc n) rs address r is = found_of (route_of rs (take n address)) n rs address r refl is (below_found n rs address r)

begun_by : (prefix rest address : List ℕ) → prefix ++ rest ≡ address → take (length prefix) address ≡ prefix
begun_by prefix rest address e = ap (take (length prefix)) (sym e) ∙ take_at prefix rest (length prefix) refl

shorter : (prefix rest address : List ℕ) → prefix ++ rest ≡ address → length prefix ≤ length address
shorter prefix rest address e = let h = length-append prefix rest in let n = ap length e in omega (arith, h, n)

pub longest_holds : LongestHolds
longest_holds rs address r is =
    let h = below_found (suc (length address)) rs address r is in
    let of = route_of_is rs (take h.0 address) r h.1.is in
    let few : h.0 ≤ length address = let low = h.1.below in omega (arith, low) in
    let size : length r.prefix ≡ h.0 = ap length of.prefix ∙ length-take-le h.0 address few in
    record {
      made = of.made;
      begins = (drop h.0 address, ap (λ (xs : List ℕ). xs ++ drop h.0 address) of.prefix ∙ take-append-drop h.0 address);
      longest = λ s c begins. let short = shorter s.prefix begins.0 address begins.1 in
          test s c begins h.0 h.1 size (nat_le (length s.prefix) h.0) refl;
    }
  where
    test : (s : PlainRoute) → Contains rs s → Begins s.prefix address → (m : ℕ) → IsFoundBelow (suc (length address)) rs address r m
        → length r.prefix ≡ m → (b : Bool) → nat_le (length s.prefix) m ≡ b → length s.prefix ≤ length r.prefix
    test s c begins m h size true e = let low = leb-true _ _ e in omega (arith, low, size)
    test s c begins m h size false e =
        let above = leb-false _ _ e in
        let short = shorter s.prefix begins.0 address begins.1 in
        absurd (none_at rs (take (length s.prefix) address) (h.none (length s.prefix) (omega (arith, above)) (omega (arith, short))) s c.0 c.1 c.2
        (sym (begun_by s.prefix begins.0 address begins.1)))

pub none_is_passed_over : NoneIsPassedOver
none_is_passed_over rs address is s c begins =
    let short = shorter s.prefix begins.0 address begins.1 in
    none_at rs (take (length s.prefix) address) (below_none (suc (length address)) rs address is (length s.prefix) (omega (arith, short))) s c.0 c.1 c.2
    (sym (begun_by s.prefix begins.0 address begins.1))

-- its prefix is no longer than the address
pub found_is_short : (rs : List PlainRoute) (address : List ℕ) (r : PlainRoute) → found rs address ≡ Some r → length r.prefix ≤ length address
found_is_short rs address r is =
    let h = longest_holds rs address r is in shorter r.prefix h.begins.0 address h.begins.1

-- ---- loops

pub route_step : (rs : List PlainRoute) (prefix : List ℕ) (j : ℕ) (d : PlainRoute) → j < length rs → bytes_eq (get_or rs j d).prefix prefix ≡ false
    → route_of (drop (suc j) rs) prefix ≡ route_of (drop j rs) prefix
route_step rs prefix j d low other =
    sym (ap (λ (xs : List PlainRoute). route_of xs prefix) (drop-cons rs j d low)
    ∙ ap (λ b. if b then Some (get_or rs j d) else route_of (drop (suc j) rs) prefix) other)

pub route_here : (rs : List PlainRoute) (prefix : List ℕ) (j : ℕ) (d : PlainRoute) → j < length rs → bytes_eq (get_or rs j d).prefix prefix ≡ true
    → route_of (drop j rs) prefix ≡ Some (get_or rs j d)
route_here rs prefix j d low same =
    ap (λ (xs : List PlainRoute). route_of xs prefix) (drop-cons rs j d low)
    ∙ ap (λ b. if b then Some (get_or rs j d) else route_of (drop (suc j) rs) prefix) same

pub without_step : (rs : List PlainRoute) (prefix : List ℕ) (j : ℕ) (d : PlainRoute) → j < length rs → bytes_eq (get_or rs j d).prefix prefix ≡ false
    → take j rs ++ without (drop j rs) prefix ≡ take (suc j) rs ++ without (drop (suc j) rs) prefix
without_step rs prefix j d low other =
    ap (λ (xs : List PlainRoute). take j rs ++ without xs prefix) (drop-cons rs j d low)
    ∙ ap (λ b. take j rs ++ (if b then drop (suc j) rs else get_or rs j d ∷ without (drop (suc j) rs) prefix)) other
    ∙ sym (append_assoc (take j rs) (get_or rs j d ∷ []) (without (drop (suc j) rs) prefix))
    ∙ ap (λ (xs : List PlainRoute). xs ++ without (drop (suc j) rs) prefix) (sym (take-suc rs j d low))

pub without_here : (rs : List PlainRoute) (prefix : List ℕ) (j : ℕ) (d : PlainRoute) → j < length rs → bytes_eq (get_or rs j d).prefix prefix ≡ true
    → take j rs ++ without (drop j rs) prefix ≡ take j rs ++ drop (suc j) rs
without_here rs prefix j d low same =
    ap (λ (xs : List PlainRoute). take j rs ++ without xs prefix) (drop-cons rs j d low)
    ∙ ap (λ b. take j rs ++ (if b then drop (suc j) rs else get_or rs j d ∷ without (drop (suc j) rs) prefix)) same

pub found_step : (rs : List PlainRoute) (address : List ℕ) (n : ℕ) → route_of rs (take n address) ≡ None
    → found_below (suc n) rs address ≡ found_below n rs address
found_step rs address n none = ap (λ (o : Option PlainRoute). or_else o (found_below n rs address)) none

pub found_here : (rs : List PlainRoute) (address : List ℕ) (n : ℕ) (r : PlainRoute) → route_of rs (take n address) ≡ Some r
    → found_below (suc n) rs address ≡ Some r
found_here rs address n r is = ap (λ (o : Option PlainRoute). or_else o (found_below n rs address)) is
