-- The exit statuses where nothing runs (profile).
use Rattle.std.specs.Prelude.{◌≡◌, ◌⊎◌, ℕ}
use Rattle.x25_settings.specs.declared.words.Why.{Why}
use Rattle.x25_settings.specs.declared.words.Why.TheVariants.{Help, Version}

-- help and the version end with 0, or with 3 where they can't be written, and mistakes with 2
abbrev pub IsToldOf : Why → ℕ → Type 0
IsToldOf Help status = (status ≡ 0) ⊎ (status ≡ 3)
IsToldOf Version status = (status ≡ 0) ⊎ (status ≡ 3)
IsToldOf why status = status ≡ 2
