-- The names that many of these proofs cite, passed on from one place.
pub use Rattle.std.proofs.Common.{Option, ◌+◌, if◌then◌else◌, ◌⊎◌, append-nil, map, ◌<◌, Result, zero, ◌%◌, Err, max, remove, ◌==◌, append_assoc, drop, ◌*◌}
pub use Rattle.std.proofs.Common.{[], ◌≡◌, List, refl, ℕ, ◌∷◌, ap, sym, arith, ◌∙◌, true, ◌++◌, subst, false, length, ◌≤◌, inl, inr, Bool, None, suc, Some, Ok}
pub use Rattle.std.proofs.lemmas.{List.{length_push, take-append-drop, take_all}, List.Elements.{Contains-append_cases}, Option.{slice_get_within}}
pub use Rattle.std.proofs.{Common.{◌-◌, length-append, not}, lemmas.Bool.{eqb-true, leb-true, and_parts, eq-eqb, le-ltb, ltb-false, le-leb}}
pub use Rattle.std.specs.{List.{slice_get, Contains}, Prelude.{nat_le, nat_lt, option_to_list, ◌&&◌, ◌||◌}}
pub use Rattle.x25_bits.specs.declared.role.{Role.{Role}, Role.TheVariants.{Dce, Dte}}
unfoldable pub use Rattle.x25_frame.specs.Reading.{frame_of}
pub use Rattle.x25_frame.specs.declared.error.{FrameError.{FrameError}, FrameError.TheVariants.{Short, NoInfoAllowed, TooLong, Undefined, BadFcs}}
pub use Rattle.x25_frame.specs.laws.ReadingLaw.{ReadsSpelled}
pub use Rattle.x25_frame.specs.{Frame.{PlainFrame, info, rr, sabm, rej, rnr, ua, disc, dm, frmr}, Spelling.{spelling_of, is_command, poll_or_final}}
pub use Rattle.x25_line.specs.laws.Ends.{AreOf, letter, IsSpoilt, Letter, asks, takes_sabm, Asking, Ends, OfTells, closes, free, loses, moves, put_for}
pub use Rattle.x25_line.specs.laws.Ends.{takes_disc, takes_ua, waits_on, Does, In, OfSabm, Out, Stand, leaves, listens, EndsReached, Moves, Two, ends_swapped}
pub use Rattle.x25_line.specs.laws.Peer.{Peer, fresh_peer, MaySay, numbered_to, told_to, MayHear, MayMake, IsWanted, hearing, taking}
pub use Rattle.x25_line.specs.laws.PeerJoined.{HandsDown, Hears, Ours, ReachedOnce, Sends, at_start, goes_on, JoinedOnce, our_end}
pub use Rattle.x25_line.specs.laws.PeerSessions.{IsSeenIn, stand_of, with_peer, PeerSessions, ReachedInSessions, both_ends, PeerEnd, Puts}
pub use Rattle.x25_line.specs.laws.Said.{said, sabm_of, ua_of, Said, how_many, disc_of, Tells, Sabm, Else, Carried, Ua, Odd}
pub use Rattle.x25_line.specs.laws.Sessions.{Entry, Sessions, Meeting, acts, after_step, letters, swapped, begun_by, run, sent_in, delivered, SessionEnd, meets}
pub use Rattle.x25_line.specs.laws.Sessions.{happens, turned, unless, from_set_up, AreTimely, IsStart, IsTimelyAt, extended, with_octets, IsTimely}
pub use Rattle.x25_line.specs.laws.StationClaims.{AreJoined, number_in, AreWhole, numbered_on, IsWhole, NoFrmr, HandsOne, IsSetUpOnce, MachineReaches}
pub use Rattle.x25_line.specs.laws.Stations.{Deliver, Act, Near, Far, T1, LinkEvent, Stations, Put, Connect, is_visible, Lose, Damage, start, Abandon}
pub use Rattle.x25_line.specs.laws.Stations.{Disconnect, StationEnd, Probe, stations_swapped, IsSeen}
pub use Rattle.x25_line.specs.laws.{Line.{Line, line_swapped}, Loss.{LessAt, gone, deeper, hurt, nothing, Less, replaced}}
pub use Rattle.x25_line.specs.laws.{SessionClaims.{Each, AllOf, Throughout, octets_of, SomeMet}, SessionNumbers.{Standing, standing_after, anew, place_to_hear}}
pub use Rattle.x25_line.specs.laws.{Sessions.{from_nothing, start_with}, StationClaims.{near_moves}}
pub use Rattle.x25_line.specs.{Healing.{IsDelivery, HasTries}, laws.Ends.{odd}, laws.InWindow.{IsPrefix}, laws.LawsBelow.{HealingLaws, Laws, SessionLaws}}
pub use Rattle.x25_line.specs.{laws.WholeNumbers.{machine_at_start, place_of, taken_out, first_of, given, machine_run}, rows.StationRows.{dte}}
pub use Rattle.x25_link.specs.Hearing.{other, LinkStep, is_valid, peer_is, polls, quiet, acknowledged, goes_back, hears_info, rejects}
pub use Rattle.x25_link.specs.Link.{take_step, put_step, put_refusal, timer_step, connect_refusal, timer_refusal, alone, disconnect_refusal, timer_runs}
pub use Rattle.x25_link.specs.Station.{LinkSettings, is_up, LinkStation, fresh, with_nothing, is_busy, Side, ended, wanted, sends, may_send}
unfoldable pub use Rattle.x25_link.specs.Station.{pumped}
pub use Rattle.x25_link.specs.declared.phase.{Reason.{Reason}, Reason.TheVariants.{FrmrSent, Retries, Reset, Disc, Counts, Local}}
pub use Rattle.x25_link.specs.declared.{error.LinkError.{LinkError}, phase.Phase.{Phase}, phase.Phase.TheVariants.{Up, Waiting, Down, Closed}}
pub use Rattle.x25_link.specs.laws.SetUp.{TakesPart, Is, waiting_sends, waiting_up, waiting_after}
pub use Rattle.x25_link.specs.laws.WindowLaw.{ending_of, Follows, window_of, IsOut, brought_by, Stays, IsSound, after_input, StaysOut, AreDeclining, MayHandUp}
pub use Rattle.x25_link.specs.laws.WindowMachine.{Window, ShowAll, Input, Shows, Runs, ShowsItem, rests}
pub use Rattle.x25_link.specs.laws.{AnswerLaw.{says, AreNext, heard}, BusyLaw.{BusyLaws, Says}, RestLaw.{IsAtRest}}
pub use Rattle.x25_link.specs.{Link.{abandon_step, connect_step, disconnect_step, hears, closed_by, is_idle}, Outgoing.{waits}}
pub use Rattle.x25_window.specs.laws.Window.EndStep.{HandDown, Hear, Send, Take, Tell}
pub use Rattle.x25_window.specs.{code.Modulo.{resolved}, laws.Window.{Frame, after, Numbered, End, frames_of, Allows, numbered}}
