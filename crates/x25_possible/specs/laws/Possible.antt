-- An end that keeps rules, told of by a tape of both ends, once for every set of rules: which states it may be in.
use Rattle.std.specs.Prelude.{◌≡◌, ◌⊎◌, List, [], ◌∷◌, ◌++◌, flat_map, Option, Some, None}

-- ---- rules, and an end that keeps them

-- What an end begins as, what it may send in a state, by what is on the way to it, and is then, and what it may make of
-- what comes and is then. Nothing of the other end is said: that sends what it likes.
pub record Rules (S I : Type 0) : Type 1 where
  pub Begins : S → Type 0
  pub Sends : S → List I → I → S → Type 0
  pub Takes : S → I → S → Type 0

-- an item of a tape: of the end, or of the other one
pub data Item (I : Type 0) : Type 0 where
  Own : I → Item I
  Other : I → Item I

-- The end may stand so behind a tape, latest first, with what the other end sent on the way to it, front first: it
-- sends what the rules allow; the other end sends anything; what is in front comes, at any moment.
pub data Stands {S I : Type 0} (R : Rules S I) : List (Item I) → S → List I → Type 0 where
  Begins : (s : S) → R.Begins s → Stands R [] s []
  Sends : (tape : List (Item I)) (s r : S) (way : List I) (x : I) → R.Sends s way x r → Stands R tape s way
      → Stands R (Own x ∷ tape) r way
  Shows : (tape : List (Item I)) (s : S) (way : List I) (x : I) → Stands R tape s way
      → Stands R (Other x ∷ tape) s (way ++ x ∷ [])
  Takes : (tape : List (Item I)) (s r : S) (way : List I) (x : I) → R.Takes s x r → Stands R tape s (x ∷ way)
      → Stands R tape r way

-- no run of an end that keeps the rules explains the tape
abbrev pub IsUnexplained : {S I : Type 0} → Rules S I → List (Item I) → Type 0
IsUnexplained {S} {I} R tape = (s : S) (way : List I) → Stands R tape s way → ⊥

-- ---- the judge: the set of the places in which the end may be

-- a state, and what is on the way
pub record Place (S I : Type 0) : Type 0 where
  pub state : S
  pub way : List I

abbrev pub at : {S I : Type 0} → S → List I → Place S I
at s way = record { state = s; way = way }

-- What the judge goes by: what may be sent and taken, each a finite choice; and what may be taken at once, since
-- nothing is lost by it.
pub record Choices (S I : Type 0) : Type 0 where
  pub sends : S → List I → I → List S
  pub takes : S → I → List S
  pub at_once : S → I → Option S

abbrev pub settled_by : {S I : Type 0} → Option S → S → List I → (S → List (Place S I)) → List S → List (Place S I)
settled_by (Some u) s way next us = next u
settled_by None s way next us = at s way ∷ flat_map next us

-- all places to which it comes by taking what is on the way, but those where it leaves what may be taken at once
abbrev pub settled : {S I : Type 0} → Choices S I → List I → S → List (Place S I)
settled c [] s = at s [] ∷ []
settled c (x ∷ way) s = settled_by (c.at_once s x) s (x ∷ way) (settled c way) (c.takes s x)

-- behind an item of the end, and of the other one
abbrev pub after_own : {S I : Type 0} → Choices S I → I → Place S I → List (Place S I)
after_own c x q = flat_map (settled c q.way) (c.sends q.state q.way x)

-- where something waits already, the places behind it are there too
abbrev pub grown : {S I : Type 0} → Choices S I → I → S → List I → List (Place S I)
grown c x s [] = settled c (x ∷ []) s
grown c x s (y ∷ way) = at s (y ∷ way ++ x ∷ []) ∷ []

abbrev pub after_other : {S I : Type 0} → Choices S I → I → Place S I → List (Place S I)
after_other c x q = grown c x q.state q.way

abbrev pub after : {S I : Type 0} → Choices S I → Item I → List (Place S I) → List (Place S I)
after c (Own x) places = flat_map (after_own c x) places
after c (Other x) places = flat_map (after_other c x) places

-- behind a tape, latest first, that begins in one of these states
abbrev pub possible : {S I : Type 0} → Choices S I → List S → List (Item I) → List (Place S I)
possible c begins [] = flat_map (settled c []) begins
possible c begins (x ∷ tape) = after c x (possible c begins tape)

-- ---- which choices do for which rules

abbrev pub IsIn : {X : Type 0} → X → List X → Type 0
IsIn x [] = ⊥
IsIn x (y ∷ ys) = (x ≡ y) ⊎ IsIn x ys

-- Each choice is one that the rules allow, and for each that they allow there is one that is at least as good: a state
-- is at least as good as another where the end may do there what it may do in the other, for ever. What is taken at
-- once is the best that may be made of it, and commutes with what the end sends.
pub record AreFavourites {S I : Type 0} (R : Rules S I) (c : Choices S I) (begun : List S) (AsGood : S → S → Type 0)
    : Type 0 where
  pub may_begin : (s : S) → IsIn s begun → R.Begins s
  pub may_send : (s : S) (way : List I) (x : I) (r : S) → IsIn r (c.sends s way x) → R.Sends s way x r
  pub may_take : (s : S) (x : I) (r : S) → IsIn r (c.takes s x) → R.Takes s x r
  pub may_take_at_once : (s : S) (x : I) (r : S) → c.at_once s x ≡ Some r → R.Takes s x r
  pub begins : (s : S) → R.Begins s → (u : S) × AsGood s u × IsIn u begun
  pub sends : (s u : S) (way : List I) (x : I) (r : S) → AsGood s u → R.Sends s way x r
      → (v : S) × AsGood r v × IsIn v (c.sends u way x)
  pub takes : (s u : S) (x : I) (r : S) → AsGood s u → R.Takes s x r → (v : S) × AsGood r v × IsIn v (c.takes u x)
  pub transitive : (s u v : S) → AsGood s u → AsGood u v → AsGood s v
  pub best : (s : S) (x : I) (u v : S) → c.at_once s x ≡ Some u → IsIn v (c.takes s x) → AsGood v u
  pub commutes : (s : S) (x : I) (u : S) (way : List I) (y : I) (r : S) → c.at_once s x ≡ Some u
      → IsIn r (c.sends s (x ∷ way) y) → (v : S) × (c.at_once r x ≡ Some v) × IsIn v (c.sends u way y)

-- ---- the theorem

-- nothing is possible exactly where no run explains the tape
pub record TellsExactly {S I : Type 0} (R : Rules S I) (c : Choices S I) (begun : List S) : Type 0 where
  pub told : (tape : List (Item I)) → possible c begun tape ≡ [] → IsUnexplained R tape
  pub untold : (tape : List (Item I)) → IsUnexplained R tape → possible c begun tape ≡ []
  pub stands : (tape : List (Item I)) (q : Place S I) → IsIn q (possible c begun tape) → Stands R tape q.state q.way

-- the rules that any finite choices are
abbrev pub rules_of : {S I : Type 0} → Choices S I → List S → Rules S I
rules_of c begun = record {
  Begins = λ s. IsIn s begun;
  Sends = λ s way x r. IsIn r (c.sends s way x);
  Takes = λ s x r. IsIn r (c.takes s x);
}

-- nothing is taken at once
abbrev pub patient : {S I : Type 0} → Choices S I → Choices S I
patient c = record { sends = c.sends; takes = c.takes; at_once = λ s x. None }
