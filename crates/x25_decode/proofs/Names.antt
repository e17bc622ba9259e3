-- The names that many of these proofs cite, passed on from one place.
pub use Rattle.std.proofs.Common.{refl, ◌≡◌, List, Option, [], ap, true, ℕ, ◌∷◌, Bool, false, length, subst, sym, ◌++◌, ◌<◌, ◌∙◌, None, append_assoc, arith}
pub use Rattle.std.specs.{Io.KnownBytes.{Appends}, List.{flat_map}}
unfoldable pub use Rattle.x25_decode.specs.Decoding.{answer_to, is_refused}
pub use Rattle.x25_decode.specs.{Decoding.{sent_in}, declared.answer.Reading.{Reading}}
pub use Rattle.x25_io.specs.code.Written.{AppendsPrefix}
