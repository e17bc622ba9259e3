-- The bits of octets, and the frame check sequence as a division of polynomials modulo 2.
use Rattle.std.specs.Prelude.{ℕ, zero, suc, ◌+◌, ◌-◌, ◌*◌, ◌/◌, ◌%◌, ◌==◌, Bool, true, false, not, if◌then◌else◌, List}
use Rattle.std.specs.Prelude.{[], ◌∷◌, ◌++◌, length, map, take, drop, replicate, codes}
use Rattle.std.specs.List.{flat_map}
pub mod Sealed

-- the lowest k bits of a number, the lowest first
unfoldable pub low_bits : ℕ → ℕ → List Bool
low_bits zero n = []
low_bits (suc k) n = (n % 2 == 1) ∷ low_bits k (n / 2)

-- the number of which these are the bits, the lowest first
unfoldable pub number_of : List Bool → ℕ
number_of [] = 0
number_of (b ∷ bits) = (if b then 1 else 0) + 2 * number_of bits

-- the bits of octets, each octet lowest bit first
abbrev pub bits_of : List ℕ → List Bool
bits_of octets = flat_map (low_bits 8) octets

-- the sum of two coefficients modulo 2
abbrev pub xor : Bool → Bool → Bool
xor true b = not b
xor false b = b

-- A polynomial is the list of its coefficients, that of the highest power first. The sum of one and of
-- another that begins at the same power.
unfoldable pub add : List Bool → List Bool → List Bool
add [] q = q
add (a ∷ p) [] = a ∷ p
add (a ∷ p) (b ∷ q) = xor a b ∷ add p q

-- x^12 + x^5 + 1, from x^15 on: the divisor x^16 + x^12 + x^5 + 1 without its first term
unfoldable pub divisor : List Bool
divisor = map (λ digit. digit == 49) (codes "0001000000100001")

-- n turns of the long division: where the first coefficient is 1 the divisor is taken away there
unfoldable pub divided : ℕ → List Bool → List Bool
divided zero p = p
divided (suc n) [] = []
divided (suc n) (true ∷ p) = divided n (add divisor p)
divided (suc n) (false ∷ p) = divided n p

-- the remainder, of sixteen coefficients
abbrev pub remainder : List Bool → List Bool
remainder p = divided (length p - 16) p

abbrev pub inverted : List Bool → List Bool
inverted p = map not (take 16 p) ++ drop 16 p

-- The frame check sequence: sixteen 0 bits behind the octets' bits, the first sixteen bits of that
-- inverted, and the complement of the remainder, whose first coefficient is the lowest bit.
unfoldable pub fcs_of : List ℕ → ℕ
fcs_of octets = number_of (map not (remainder (inverted (bits_of octets ++ replicate 16 false))))
