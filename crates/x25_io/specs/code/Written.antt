-- What was written, where that is known, and what waits to be written.
use Rattle.std.specs.Prelude.{◌≡◌, ℕ, List, ◌++◌, Option, Result, MatchResult}
use Rattle.std.specs.Io.KnownBytes.{Appends}

-- the octets written grow by a beginning of the text
abbrev pub AppendsPrefix : Option (List ℕ) → Option (List ℕ) → List ℕ → Type 0
AppendsPrefix old new text = (part : List ℕ) × (rest : List ℕ) × (text ≡ part ++ rest) × Appends old new part

-- The writer held `old` at first and holds `now`, and `text` waits; all of it is what was told.
pub record Tells (old now : Option (List ℕ)) (text told : List ℕ) : Type 0 where
  pub written : List ℕ
  pub appends : Appends old now written
  pub same : written ++ text ≡ told

-- behind all that was told `more` is told as well; where that failed, a beginning of it all is written
abbrev pub TellsMore : {T E : Type 0} → Result T E → Option (List ℕ) → Option (List ℕ) → List ℕ → List ℕ → List ℕ
    → Type 0
TellsMore r was now waited waits more = (old : Option (List ℕ)) (told : List ℕ) → Tells old was waited told
    → MatchResult r (λ _. Tells old now waits (told ++ more)) (λ _. AppendsPrefix old now (told ++ more))
