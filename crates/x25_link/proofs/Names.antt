-- The names that many of these proofs cite, passed on from one place.
pub use Rattle.std.proofs.Common.{zero, ◌<◌, Some, rules, Ok, length-append, ◌%◌, Err, None, Result, take, drop, map, Global, Vec, append-nil, vec_capacity}
pub use Rattle.std.proofs.Common.{◌∙◌, sym, ap, arith, refl, ◌≡◌, length, ℕ, List, [], ◌+◌, false, true, ◌∷◌, Bool, if◌then◌else◌, ◌≤◌, subst, ◌++◌, suc, not}
pub use Rattle.std.proofs.{Common.{◌-◌}, lemmas.Bool.{le-ltb, and_parts, lt-ltb, ltb-false, and_right, eq-eqb, not-true}}
pub use Rattle.std.{proofs.lemmas.List.{length-drop, length-take-le}, specs.Prelude.{nat_lt, ◌&&◌, ◌||◌}}
pub use Rattle.x25_frame.specs.declared.error.FrameError.TheVariants.{NoInfoAllowed, TooLong, Undefined}
pub use Rattle.x25_frame.specs.{Frame.{PlainFrame, info, rr, rej, ua, disc, dm, rnr, sabm, frmr}, Reading.{frame_of}}
pub use Rattle.x25_frame.specs.{Spelling.{spelling_of, is_command, poll_or_final}, declared.error.FrameError.{FrameError}}
pub use Rattle.x25_link.specs.Hearing.{LinkStep, acknowledged, leaves, goes_back, other, peer_is, quiet, answers, is_taken, polls, row_of_frame, takes}
pub use Rattle.x25_link.specs.Hearing.{passes_over, row_of, is_valid, hears_info, numbered, reject_of, rejects}
pub use Rattle.x25_link.specs.Link.{alone, fires, answered, asks_again, gives_up, hears, closed_by, when_down, disconnects, puts, connects, when_waiting, when_closed}
pub use Rattle.x25_link.specs.declared.phase.{Closing.{Closing}, Closing.TheVariants.{Unasked, Asked, Ended}, Ending.{Ending}, Ending.TheVariants.{ByUa, ByDm, GivenUp}}
pub use Rattle.x25_link.specs.Outgoing.{Outgoing, is_open, added, moved_on, no_packet, next_packet, waits}
unfoldable pub use Rattle.x25_link.specs.Station.{pumped}
pub use Rattle.x25_link.specs.Station.{with_near, owes_ready, Side, may_send, LinkSettings, LinkStation, is_up, is_busy, ready, sends, ended, send_next, wanted}
pub use Rattle.x25_link.specs.declared.phase.Reason.TheVariants.{Retries, Counts, Dm, Local, Disc, FrmrGot, FrmrSent, Reset}
pub use Rattle.x25_link.specs.declared.phase.{Phase.TheVariants.{Up, Closed, Down, Waiting}, Reason.{Reason}}
pub use Rattle.x25_link.specs.{Station.{fresh, with_nothing, disconnected, finished, next_frame}, code.Fits.{FitsSide, FitsStation}}
pub use Rattle.x25_link.specs.{code.OutgoingHeld.{sending_of, FitsOutgoing}, declared.phase.Phase.{Phase}}
pub use Rattle.x25_window.specs.code.Held.{Held, Fits}
