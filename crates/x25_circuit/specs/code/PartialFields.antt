-- What the fields of a message in part stand for.
use Rattle.std.specs.Prelude.{◌≡◌, ℕ, ◌≤◌, List, [], Option, Some, None, is_some, Vec, vec_len, vec_capacity}
use Rattle.x25_circuit.specs.declared.message.PartialMessage.TheInside.{Inside}
use Rattle.x25_circuit.specs.code.PartialMessage.{ShownPartial}

-- the octets in this memory, and none where there is none
abbrev pub octets_of : {Z : Type 0} → Option (Vec ℕ Z) → List ℕ
octets_of None = []
octets_of (Some octets) = octets.items

-- where it is made, it is for so many octets, and no more came
abbrev pub IsMemoryFor : {Z : Type 0} → ℕ → Option (Vec ℕ Z) → Type 0
IsMemoryFor n None = Unit {0}
IsMemoryFor n (Some octets) = (vec_len octets ≤ n) × (vec_capacity octets ≡ n)

abbrev pub shown : Inside → ShownPartial
shown p = record {
  part = record { begun = p.begun; user = octets_of p.octets };
  made = is_some p.octets;
  longest = p.longest;
}

pub record IsSound (p : Inside) : Type 0 where
  pub few : p.longest ≤ 65535
  pub memory : IsMemoryFor p.longest p.octets
