-- What a line does to what is on it: it keeps the order, and may lose one or damage one (profile: the line).
use Rattle.std.specs.Prelude.{ℕ, zero, suc, List, [], ◌∷◌}
-- the one at a place is lost, where there is one
pub use Rattle.std.specs.Prelude.{remove}

-- another comes in the place of the one at a place, where there is one
abbrev pub replaced : {T : Type 0} → List T → ℕ → (T → T) → List T
replaced [] i damaged = []
replaced (x ∷ xs) zero damaged = damaged x ∷ xs
replaced (x ∷ xs) (suc i) damaged = x ∷ replaced xs i damaged

-- At this place of a line one is lost, or another comes in its place, as `Damage` has it; or the line ends before.
pub data LessAt {T : Type 0} (Damage : T → T → Type 0) : ℕ → List T → List T → Type 0 where
  nothing : (i : ℕ) → LessAt Damage i [] []
  gone : (x : T) (xs : List T) → LessAt Damage 0 (x ∷ xs) xs
  hurt : (x y : T) (xs : List T) → Damage x y → LessAt Damage 0 (x ∷ xs) (y ∷ xs)
  deeper : (i : ℕ) (x : T) (xs ys : List T) → LessAt Damage i xs ys → LessAt Damage (suc i) (x ∷ xs) (x ∷ ys)

-- so it is at some place
abbrev pub Less : {T : Type 0} → (T → T → Type 0) → List T → List T → Type 0
Less Damage xs ys = (i : ℕ) × LessAt Damage i xs ys
