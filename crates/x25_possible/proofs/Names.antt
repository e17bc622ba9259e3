-- The names that many of these proofs cite, passed on from one place.
pub use Rattle.std.proofs.Common.{List, refl, ◌≡◌, [], subst, sym, ◌∙◌, ◌∷◌, Some, ap, false, Bool, None, Option, arith, if◌then◌else◌, inl, inr, true, ℕ}
pub use Rattle.std.proofs.Common.{flat_map, length, ◌==◌, nat_le, ◌&&◌, ◌++◌, ◌+◌, ◌≤◌, ◌⊎◌, drop, drop_of_length-le, map, not, ◌||◌, ap₂, suc, ◌-◌, ◌<◌}
pub use Rattle.std.proofs.lemmas.{Bool.{both_ways, eqb-true, leb-true, and_parts}, Option.{none-some, same_Some}}
pub use Rattle.x25_bits.specs.declared.role.Role.{Role}
pub use Rattle.x25_possible.specs.code.Steps.{sends_to, all_of, and_then, are_at_end, is_large, may_send, quietly, rude_from, settles, settles_by, shows_to}
pub use Rattle.x25_possible.specs.code.Steps.{spot_at, standing, anew, go_all, goes, goes_by, grow_all, grows, is_blind, is_known, kept, sent_to, shown_to}
pub use Rattle.x25_possible.specs.declared.phase.{Phase.TheVariants.{Idle, Calls, Clears, Resets, Restarts, Talks}, Talk.{Talk}}
pub use Rattle.x25_possible.specs.declared.{packet.Packet.{Packet}, packet.Packet.TheVariants.{Data}, phase.Phase.{Phase}}
pub use Rattle.x25_possible.specs.declared.{set.Knowledge.TheVariants.{Blind, Known}, set.Set.{Set}, set.Told.TheVariants.{Broken}, spots.Spot.{Spot}}
pub use Rattle.x25_possible.specs.laws.Possible.{IsIn, Item, Place, Own, after_other, after_own, possible, settled, IsUnexplained, Other, Stands, at, grown}
pub use Rattle.x25_possible.specs.laws.Sets.{placed, Fits, AreCounted, IsBroken, IsRude, IsUntold}
pub use Rattle.x25_possible.specs.{Channel.{at_once, channel_choices, channel_rules, sends, takes, is_polite, one}, code.Steps.{told_by, trimmed, trims}}
