-- The names that many of these proofs cite, passed on from one place.
pub use Rattle.std.proofs.Common.{List, sym, refl, ◌++◌, [], ◌∷◌, ◌≡◌, ap, subst, ◌∙◌, length, ℕ, None, get_or, true≢false, ◌+◌, ◌<◌, ◌≤◌, Some, arith, inl}
pub use Rattle.std.proofs.{BoxSteps.Form.{B, box_typed, word, Bx, D, P}, BoxSteps.Steps.{box_in, box_out}, Common.{inr, map}, raw_atomic.Walks.{proved_at}}
pub use Rattle.std.specs.Prelude.{Result, slice_get}
pub use Rattle.x25_c.specs.declared.held.Held.{Held}
pub use base.Fml.{fsep, ftrue}
pub use base.Logic.{ent, id⊢}
pub use contract.Monad.{fact}
pub use contract.Running.{tables}
pub use denote.Exit.{yes}
pub use denote.RawPtr.{Ptr, block_ptr}
pub use denote.Signature.{plain, type_at}
pub use denote.Steps.{nothing, heard}
pub use denote.Triple.Walked.{Stays, ends_at, says, stay_dropped, walk_of, Goes-dropped}
pub use mir.Syntax.{dnil}
pub use mir.Val.{Val}
pub use prog.Wp.{WpFn}
pub use types.ByLocal.{alloc_all, free_all, get, look_at, pass_all, sets, get_in}
pub use types.Kit.{Item, fsplit, ‵, ◌$◌, !, by, done, drop, fjoin, join, move, qed, raw, split, suffices, ◌∵◌, ◌⊛◌, use1, keep, rewrite}
pub use types.Part.{agg, sub, whole}
pub use types.Run.{and_then, enter, no_more, returns, fld, of_opd, stop}
