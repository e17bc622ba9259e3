-- The digits of addresses, in half octets or in a text. ITU-T X.25 (10/96), section 5.2.1.
use Rattle.std.specs.Prelude.{ℕ, ◌/◌, ◌%◌, ◌-◌, ◌+◌, ◌*◌, ◌≤◌, ◌≡◌, ◌==◌, Bool, true, ◌&&◌, nat_le, List, [], ◌∷◌, take}
use Rattle.std.specs.Prelude.{drop, length, map}
use Rattle.std.specs.List.{list_all}

-- the half octets, the high one first
unfoldable pub halves_of : List ℕ → List ℕ
halves_of [] = []
halves_of (octet ∷ octets) = octet / 16 ∷ octet % 16 ∷ halves_of octets

-- digits packed two to an octet, the first in the high half; a last one alone has 0 in the low half
unfoldable pub packed : List ℕ → List ℕ
packed [] = []
packed (high ∷ []) = (16 * high) ∷ []
packed (high ∷ low ∷ digits) = (16 * high + low) ∷ packed digits

-- n half octets from place i on
abbrev pub halves_at : List ℕ → ℕ → ℕ → List ℕ
halves_at octets i n = take n (drop i (halves_of octets))

abbrev pub is_digit : ℕ → Bool
is_digit digit = nat_le digit 9

-- both half octets are digits
abbrev pub is_pair : ℕ → Bool
is_pair octet = is_digit (octet / 16) && is_digit (octet % 16)

-- each half octet is a digit, and those behind this many are 0
abbrev pub hold_digits : ℕ → List ℕ → Bool
hold_digits count octets =
    list_all is_digit (halves_of octets) && list_all (λ half. half == 0) (drop count (halves_of octets))

-- an address: at most 15 digits
pub record IsAddress (digits : List ℕ) : Type 0 where
  pub short : length digits ≤ 15
  pub decimal : list_all is_digit digits ≡ true

abbrev pub is_figure : ℕ → Bool
is_figure character = nat_le 48 character && nat_le character 57

-- the digits that a text of figures shows
abbrev pub digits_of_text : List ℕ → List ℕ
digits_of_text text = map (λ c. c - 48) text
