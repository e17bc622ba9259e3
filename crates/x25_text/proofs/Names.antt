-- The names that many of these proofs cite, passed on from one place.
pub use Rattle.hex.specs.Hex.{hex_digit_value}
pub use Rattle.std.proofs.Common.{List, [], arith, refl, ℕ, ◌≡◌, ◌∷◌, ap, false, suc, sym, true, ◌<◌, ◌≤◌, Bool, length, take, ◌%◌, ◌+◌, ◌∙◌, None, Option}
pub use Rattle.std.proofs.lemmas.{Bool.{agree_below, agree_below_at, eqb-true, ltb-false, ltb-true}, List.{take-take, take_all, length-drop, length-take-le}}
pub use Rattle.std.proofs.{Common.{Some, drop, zero, ◌*◌, ◌++◌, cond, get_or, map, ◌-◌, ◌/◌}, Math.Seq.{take-add}}
pub use Rattle.std.specs.{List.{list_all}, Prelude.{nat_lt, ◌==◌, ◌&&◌}, Simd.Lanes.{top}}
pub use Rattle.x25_text.specs.Hexadecimal.{joined, value_of}
unfoldable pub use Rattle.x25_text.specs.Hexadecimal.{octets_of}
