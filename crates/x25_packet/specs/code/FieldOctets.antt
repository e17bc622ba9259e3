-- The octets of a facility field, where packet sizes and windows have places of their own.
use Rattle.std.specs.Prelude.{ℕ, Bool, true, false, List, [], take, drop}

-- the octets of both, of which these are there
abbrev pub field_shown : List ℕ → Bool → Bool → List ℕ
field_shown octets true true = octets
field_shown octets true false = take 3 octets
field_shown octets false true = drop 3 octets
field_shown octets false false = []
