-- Bits that are read from place to place, and the spans that are lent of them. Profile.
use Rattle.std.specs.Prelude.{ℕ, ◌≡◌, ◌-◌, ◌<◌, ◌≤◌, ◌++◌, ⊤, Bool, Option, Some, None, List, [], length, take, drop}
use Rattle.std.specs.Borrow.{Fml, MutBor, follows_so}
use mathlib.Core.Option.{none}
use Rattle.x25_bits.specs.Found.{Class}
use Rattle.x25_bits.specs.code.Held.{Held, closing}
use Rattle.x25_bits.specs.code.Shows.{Shows}
use Rattle.x25_bits.specs.code.Fits.{Fits}
use Rattle.x25_bits.specs.declared.scan.Scan.{Scan}
use Rattle.x25_bits.specs.declared.deframer.Deframer as code
use Rattle.x25_bits.specs.contracts.deframer.Deframer.{the_row}

-- the bits from one place up to another
abbrev pub part : ℕ → ℕ → List Bool → List Bool
part from to bits = take (to - from) (drop from bits)

-- behind this scan and these kept bits a flag found just this, which is something
pub record Closes (scan : Scan) (bits : List Bool) (classes : List Class) : Type 0 where
  pub held : Held
  pub shows : Shows scan bits held
  pub found : closing held ≡ classes
  pub some : 0 < length classes

-- what is lent of a scan and kept bits, where there are some
abbrev pub Lends : Option Scan → List Bool → List Class → Type 0
Lends None bits classes = classes ≡ []
Lends (Some scan) bits classes = Closes scan bits classes

-- once the span that it lends has been given back, the deframer fits the bits read as well
abbrev pub EndsRead : MutBor code.Deframer → List Bool → ℕ → ℕ → Fml
EndsRead s bits at place = follows_so the_row the_row s.ghost_name none (λ _ _. ⊤)
    (λ n. (length n.kept ≤ 32831)
    × ((before : List Bool) → Fits s.now before → Fits n (before ++ part at place bits)))
