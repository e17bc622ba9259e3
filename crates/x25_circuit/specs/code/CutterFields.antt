-- What the fields of a cutter stand for.
use Rattle.std.specs.Prelude.{◌-◌, ◌≤◌, if◌then◌else◌, [], ◌∷◌, length, take, drop, max, vec_capacity}
use Rattle.x25_circuit.specs.declared.cutter.Cutter.TheInside.{Inside}
use Rattle.x25_circuit.specs.code.Cutter.{ShownCutter}

abbrev pub shown : Inside → ShownCutter
shown c = record {
  left = if c.is_cut then [] else record { marks = c.marks; user = drop c.start c.user.items } ∷ [];
  lent = take (c.start - c.lent) (drop c.lent c.user.items);
}

pub record IsSound (c : Inside) : Type 0 where
  pub lent : c.lent ≤ c.start
  pub start : c.start ≤ length c.user.items
  pub short : length c.user.items ≤ 65535
  -- as many octets as the message has, or at most 4,096
  pub memory : vec_capacity c.user ≤ max (length c.user.items) 4096
