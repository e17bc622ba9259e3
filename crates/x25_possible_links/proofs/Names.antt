-- The names that many of these proofs cite, passed on from one place.
pub use Rattle.std.proofs.Common.{arith, inl, inr, ◌++◌, ◌∙◌, map, ◌+◌, ◌<◌, ◌==◌, flat_map, not, ◌||◌, ◌⊎◌, nat_lt, get_or, nat_le, suc, ◌&&◌}
pub use Rattle.std.proofs.Common.{◌≡◌, drop, length, List, [], ap, refl, true, ◌-◌, ◌∷◌, Bool, false, subst, None, Some, if◌then◌else◌, sym, ℕ, ◌≤◌, Option}
pub use Rattle.std.proofs.lemmas.{Bool.{both_ways, eqb-true, and_parts, cond_both, leb-true, lt-ltb, ltb-true}, Option.{none-some, same_Some, cond_some}}
pub use Rattle.x25_possible.specs.laws.Possible.{IsIn, Place, at}
pub use Rattle.x25_possible_links.specs.code.Steps.{goes, grow_all, hurried, is_large, is_lost, pressed, sent_to, settles, shifted, shown_to, walk_all}
pub use Rattle.x25_possible_links.specs.code.Steps.{spot_at, rushed, all_of, best, least, sends_to, shows_to, walks, and_then, are_known, each_of, first_of}
pub use Rattle.x25_possible_links.specs.declared.frame.Frame.TheVariants.{Info, Ready, Disc, Dm, Frmr, Sabm, Ua, Unread, Before}
pub use Rattle.x25_possible_links.specs.declared.stand.{Stand.{Stand}, Stand.TheVariants.{Free, Asking, Out, Up}}
pub use Rattle.x25_possible_links.specs.declared.{link.Mode.TheVariants.{Right}, set.LinkSet.{LinkSet}, spots.Spot.{Spot}, stand.Numbers.{Numbers}}
pub use Rattle.x25_possible_links.specs.laws.Link.{At, State, fresh, Owes, counts, heard, may_answer, MayTake, declines, is_asking, may_count, owed, MaySend}
pub use Rattle.x25_possible_links.specs.laws.Link.{begins, counted, has_ua, hears, may_acknowledge, may_number, owes, passes, sends_as, told_to}
pub use Rattle.x25_possible_links.specs.laws.Places.{onward, sends, settle, upward, is_plain, least_of, number_of, settled, first}
pub use Rattle.x25_possible_links.specs.{code.Steps.{with_first}, declared.frame.Frame.{Frame}}
