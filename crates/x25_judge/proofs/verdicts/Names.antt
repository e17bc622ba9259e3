-- The names that several of these proofs cite, passed on from one place.
pub use Rattle.std.proofs.Common.{◌≡◌, ◌==◌, ◌⊎◌, inl, inr, ℕ, arith, Bool, true, false, zero, suc, List, [], ◌∷◌, ◌++◌, length, drop, Option, Some, None}
pub use Rattle.std.proofs.Common.{Result, Ok, Err, refl, sym, ap, ◌∙◌, subst, ◌+◌, ◌%◌, ◌≤◌, max, ◌<◌, eq-eqb, le-leb, if◌then◌else◌, ◌-◌, le_trans}
pub use Rattle.std.proofs.lemmas.Bool.{both_ways, cond_both, or_parts, and_parts, and_from, cond-true, eqb-true, lt-ltb, cases_eq}
pub use Rattle.std.proofs.lemmas.{Bool.{and_cases, or_cases, ne_eqb, cond-false}, Option.{none-some, cond_some, same_Some, slice_get_within}}
pub use Rattle.std.proofs.lemmas.List.{length_push, get_or-set_same, get_or-set_other, get_or-replicate, length-set, length-append}
pub use Rattle.std.specs.Prelude.{nat_le, not, ◌&&◌, ◌||◌, nat_lt, is_some, slice_get, slice_index_or, slice_set, replicate}
pub use Rattle.x25_bits.specs.declared.{role.Role.{Role}, role.Role.TheVariants.{Dte, Dce}}
pub use Rattle.x25_decode.specs.Decoding.{gap_in, n1, sent_in}
pub use Rattle.x25_decode.specs.declared.answer.Reading.{Reading}
pub use Rattle.x25_frame.specs.{Frame.{PlainFrame, sabm, ua, info, rr, rnr, rej, disc, dm, frmr}, Reading.{frame_of}}
pub use Rattle.x25_frame.specs.declared.{error.FrameError.{FrameError}, error.FrameError.TheVariants.{Short, BadFcs, BadAddress}}
pub use Rattle.x25_frame.specs.laws.ReadingLaw.{ReadsWhatIsSpelled, ReadsSpelled}
pub use Rattle.x25_judge.specs.Held.{Held, none_held, forgets, forgets_all, is_held, kept}
unfoldable pub use Rattle.x25_judge.specs.Held.{no_octets, differs, keeps}
pub use Rattle.x25_judge.specs.Judge.{all_told, book_of, gap_of, missed_by, next_missed, no_frame, other_of, own_of, past_gap, read_of, seen_by, sent_of}
pub use Rattle.x25_judge.specs.Judge.{tallies, Answer, counts_packet, is_open, told_frame, remark_of, next_by, begins}
unfoldable pub use Rattle.x25_judge.specs.Judge.{answer_to, counts_carried}
pub use Rattle.x25_judge.specs.Links.{forgets_each, held_by, Both, answers, asks, bits, by_own, counts_in, hears, minded_as, ready_minded, place_in}
pub use Rattle.x25_judge.specs.Links.{forgets_in}
unfoldable pub use Rattle.x25_judge.specs.Links.{shown, minds}
pub use Rattle.x25_judge.specs.Rule.{is_of_manners, breaks_order, first}
pub use Rattle.x25_judge.specs.declared.{judge.Judge.{Judge}, judge.Strictness.{Strictness}, links.End.{End}, links.Minding.{Minding}, links.Sent.{Sent}}
pub use Rattle.x25_judge.specs.declared.{manners.Manners.{Manners}, manners.Minded.{Minded}, rule.Rule.{Rule}}
pub use Rattle.x25_judge.specs.declared.rule.Rule.TheVariants.{NoPoll, RejectAgain, OverWindow, Repeats, Packet}
pub use Rattle.x25_judge.specs.laws.Session.{come, comes, has_answer, has_number, is_new, is_number, is_of_order, IsBegun, rule_of, Shows, Way, IsDamaged}
pub use Rattle.x25_judge.specs.laws.{Session.{IsTimely, IsNumbered, is_final, is_up}, Sessions.{takes_sabm, waits_on, MayStand}}
pub use Rattle.x25_judge.specs.laws.Sessions.{MaySay, MaySend, HaveNoUa, IsUa, declined, numbered, asks_again, closes, declines, rejects, takes_disc}
pub use Rattle.x25_judge.specs.laws.VerdictClaims.{after, IsClear, SetUpsBegin, GuiltyAreTold, ToldAreGuilty, NoSessionIsAccused, IsOutOfPlace}
pub use Rattle.x25_judge.specs.laws.VerdictClaims.{JudgedFinalsAreTold, JudgedSendingsAreTold, SilenceMeansNumbers, SilenceMeansRules, SilenceMeansOrder}
pub use Rattle.x25_judge.specs.laws.VerdictClaims.{NoStationIsAccused}
pub use Rattle.x25_judge.specs.laws.Watching.{more, Watched, IsSilent, Begins, Acts, Rests, Says, Comes, Fails, our_end, IsAny}
pub use Rattle.x25_line.proofs.StationLines.{visible_reads}
pub use Rattle.x25_line.specs.laws.Peer.{Peer, fresh_peer, MayAcknowledge, MayNumber, hearing, taking, MayHear, IsWanted, numbered_to, told_to}
pub use Rattle.x25_line.specs.laws.{PeerSessions.{In}, Said.{Said, Tells, said, Odd}, StationClaims.{number_in, EachEventHandsOne, HandsOne}}
pub use Rattle.x25_line.specs.laws.Stations.{is_visible, IsSeen, Near, acts}
pub use Rattle.x25_line.specs.laws.Tape.{notes, same_octets, is_item, judges_ack, then_ack, judges_item, judges, notes_said}
pub use Rattle.x25_link.specs.{Hearing.{other}, Station.{LinkSettings}}
pub use Rattle.x25_packet_judge.specs.declared.packet_rule.PacketRule.{PacketRule}
pub use Rattle.x25_possible.specs.Channel.{nth}
pub use Rattle.x25_possible.specs.laws.Possible.{IsIn, Place, at, Item, Other}
pub use Rattle.x25_possible_links.proofs.{Alike.{AllAre, sent_all, shown_all, IsPassed}, Covering.{is_untold}, Leads.{HoldsAt, Leads, Stays, Steps, stays_at}}
pub use Rattle.x25_possible_links.proofs.Covering.{Has, HasIn, blind_sends, blind_shows, has_less, has_sent, has_shown, has_taken, shows_by, trim_has}
pub use Rattle.x25_possible_links.proofs.{Sends.{counted_at, swaps}, Stands.{onward_up}, StepLemmas.{below_is}}
pub use Rattle.x25_possible_links.proofs.Stands.{AreBelow, Below, below_on, below_self, Acknowledges, acknowledges, is_numbered, counts_more, heard_below}
pub use Rattle.x25_possible_links.specs.code.Steps.{hastened, is_below, numbers_below, sends_to, set_as, shows_to, spot_at, trimmed, begun_as, played, unknown}
pub use Rattle.x25_possible_links.specs.declared.{frame.Frame.{Frame}, frame.Frame.TheVariants.{Before, Disc, Info, Ready, Sabm, Ua, Unread, Dm, Frmr}}
pub use Rattle.x25_possible_links.specs.declared.{set.LinkSet.{LinkSet}, set.Told.{Told}, set.Told.TheVariants.{Broken, Nothing, Skips}, spots.Spot.{Spot}}
pub use Rattle.x25_possible_links.specs.declared.{stand.Numbers.{Numbers}, stand.Stand.{Stand}, stand.Stand.TheVariants.{Asking, Free, Out, Up}}
pub use Rattle.x25_possible_links.specs.laws.Link.{At, Owes, State, fresh, has_ua, heard, is_asking, may_answer, owes, passes, sends, is_ua, may_acknowledge}
pub use Rattle.x25_possible_links.specs.laws.Link.{may_number, sends_as, may_count, counts}
pub use Rattle.x25_possible_links.specs.laws.Places.{is_plain, onward, settled, upward, least_of, number_of, goes, settle}
pub use Rattle.x25_text.specs.declared.text.TheConstants.{ROOM}
