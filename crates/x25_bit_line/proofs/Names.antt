-- The names that many of these proofs cite, passed on from one place.
pub use Rattle.std.proofs.Common.{List, [], ap, arith, refl, sym, ℕ, ◌++◌, ◌∙◌, ◌∷◌, ◌≡◌, Bool, length, ◌≤◌, append_assoc, subst, Option, drop, false, suc}
pub use Rattle.std.proofs.Common.{take, true, ◌*◌, ◌+◌, ◌-◌, ◌<◌, length-append, length-drop, length-take-le, zero, ◌/◌}
pub use Rattle.std.{proofs.lemmas.List.{append-nil, take-append-drop}, specs.List.{flat_map}}
pub use Rattle.x25_bit_line.specs.Framing.{framed_bits}
unfoldable pub use Rattle.x25_bit_line.specs.Framing.{line_bits}
unfoldable pub use Rattle.x25_bits.specs.{Found.{octets_by}, FrameCheck.{number_of}}
pub use Rattle.x25_bits.specs.{Found.{octets_of}, Stuffing.{filled}, declared.role.Role.{Role}}
pub use Rattle.x25_io.proofs.ToldLemmas.{prefix_more}
pub use Rattle.x25_io.specs.code.Written.{AppendsPrefix, Tells}
