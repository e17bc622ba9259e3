-- The names that many of these proofs cite, passed on from one place.
pub use Rattle.std.proofs.Common.{refl, List, [], ap, arith, sym, ℕ, ◌∙◌, ◌∷◌, ◌≡◌, Bool, false, true, ◌+◌, None, Option, Some, if◌then◌else◌, ◌≤◌, map, not}
pub use Rattle.std.proofs.Common.{is_some, subst, suc, ◌<◌, ◌==◌, inl, inr, zero, ◌⊎◌, nat_le, ◌^◌, ◌||◌, drop, length, slice_index_or, ◌++◌}
pub use Rattle.std.proofs.lemmas.{Bool.{true≢false, eq-eqb, eqb-true, and_parts, le-ltb, leb-true}, Option.{none-some}}
pub use Rattle.x25_circuit.specs.declared.awaits.{Awaits.{Awaits}, Awaits.TheVariants.{Acceptance, ClearConfirmation, InterruptConfirmation}}
pub use Rattle.x25_circuit.specs.declared.awaits.Awaits.TheVariants.{Nothing, ResetConfirmation}
pub use Rattle.x25_clock.specs.Clock.{deadline, Deadlines, is_past, number_of, overdue_of, running, sooner, time_of, wait_after, after_due, channels_from}
pub use Rattle.x25_circuit.specs.Awaits.{is_any}
pub use Rattle.x25_clock.specs.Clock.{is_same, rotated, unmoved_of}
pub use Rattle.x25_clock.specs.declared.{times.Times.{Times}, wait.Wait.{Wait}}
pub use Rattle.x25_clock.specs.laws.ClockLaw.{Watched, seen_of, AreTrue, IsSince, heeds, watched, AreAwaited, Moment, comes, watched_by, watched_from}
pub use Rattle.x25_clock.specs.laws.WaitLaw.{Happens, IsAsked, done, event_of, Deed, IsNotPast, found_by, outcome_of, AreObeyed, AwaitsAll, IsFounded}
pub use Rattle.x25_clock.specs.laws.WaitLaw.{NothingWaits, all_done, later_by, tells}
pub use Rattle.x25_clock.specs.{Clock.{heeded, next_of, renewed, renewed_on, t1_after, due_of, first_of, unless_on}, declared.due.Due.{Due}}
pub use Rattle.x25_layer.specs.{Layer.{is_channel}, code.FitsLayer.{awaited_at, unacknowledged_at}}
pub use Rattle.x25_link.specs.{Station.{is_up, LinkStation}, declared.phase.Phase.{Phase}, declared.phase.Phase.TheVariants.{Up, Closed, Down, Waiting}}
pub use Rattle.x25_station.specs.{Config.{Settings, layer_settings}, Station.{Station}, Station.Told.{is_at_rest}, Step.{Did, Outcome, Refused, Step}}
pub use Rattle.x25_station.specs.{Timer.{tells_link, is_acknowledged, runs, timer_of}, laws.SettledLaw.{IsSettled}, laws.WayOutLaw.{AwaitsStill, rank, rank_of}}
