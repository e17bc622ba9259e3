-- The name of a stretch, as a C program takes it (profile).
use Rattle.std.specs.Prelude.{◌≡◌, Bool, true, false, Option, Some, None}
use Rattle.x25_handshakes.specs.laws.Names.{Name}
use Rattle.x25_c.specs.declared.stretch_name.StretchName.{StretchName}

abbrev pub name_told : Name → StretchName
name_told name = record { restarts = name.restarts; clears = name.clears; resets = name.resets }

-- of what has none
abbrev pub no_name : StretchName
no_name = record { restarts = 0; clears = 0; resets = 0 }

-- whether one is open, whose name is written then; else what stood there stands
abbrev pub Names : Option Name → Bool → StretchName → StretchName → Type 0
Names None is_open old new = (is_open ≡ false) × (new ≡ old)
Names (Some name) is_open old new = (is_open ≡ true) × (new ≡ name_told name)
