-- The addresses of a call, as C hands them over (profile): octets that are no text are no address, as `?` isn't.
use Rattle.std.specs.Prelude.{ℕ, List, if◌then◌else◌, codes}
use Rattle.std.specs.Str.{is_utf8}

abbrev pub dialed : List ℕ → List ℕ
dialed address = if is_utf8 address then address else codes "?"
