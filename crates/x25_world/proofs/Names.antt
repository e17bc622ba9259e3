-- The names that many of these proofs cite, passed on from one place.
pub use Rattle.std.proofs.Common.{nat_le, nat_lt, IfErr, OnOk, ◌*◌, length-append, slice_get, ◌||◌, Contains, OnErr, not, remove}
pub use Rattle.std.proofs.Common.{suc, ◌+◌, ◌<◌, if◌then◌else◌, ap₂, ◌&&◌, ◌⊎◌, Ok, zero, ◌==◌, append-nil, append_assoc, map, Err, Result, ◌-◌, drop, take}
pub use Rattle.std.proofs.Common.{sym, ap, refl, ◌∙◌, ◌≡◌, List, [], ℕ, subst, arith, ◌∷◌, false, ◌++◌, true, inl, None, inr, ◌≤◌, Some, Bool, length, Option}
pub use Rattle.std.proofs.lemmas.Bool.{and_parts, eqb-true, cond_both, leb-true, eq-eqb, ne_eqb}
pub use Rattle.std.proofs.lemmas.{List.{append_cancel_left, length-map, map-append, take-append-drop}, List.Elements.{All-nil}, Result.{err_from_is_err_and}}
pub use Rattle.std.specs.{List.{list_any}, Prelude.{is_none}}
unfoldable pub use Rattle.x25_bits.specs.{FrameCheck.{add, divided, divisor, fcs_of, number_of}, FrameCheck.Sealed.{is_sealed}}
pub use Rattle.x25_bits.specs.{Role.{end_of}, declared.role.Role.{Role}, declared.role.Role.TheVariants.{Dte, Dce}}
pub use Rattle.x25_circuit.specs.declared.state.State.TheVariants.{Open, Arriving, Calling, Clearing, Free}
pub use Rattle.x25_circuit.specs.declared.{error.CircuitError.TheVariants.{BadParameter}, state.State.{State}}
pub use Rattle.x25_circuit.specs.{Calling.{Calls, Done, outcome}, Cause.{may_clear_for}, Circuit.{Circuit, is_open, waits, Talk, is_open_in, silent}}
pub use Rattle.x25_circuit.specs.{Hearing.{answers, Answer}, Message.{Piece}, Params.{Proposal, default_params, field_for, may_answer}}
unfoldable pub use Rattle.x25_frame.specs.Reading.{frame_of}
pub use Rattle.x25_frame.specs.{Frame.{PlainFrame, sabm, ua, frmr, info}, Spelling.{spelling_of, information_of}}
pub use Rattle.x25_given.specs.Given.{PlainGiven, may_give}
pub use Rattle.x25_handshakes.specs.laws.{Histories.{IsPrefix}, Names.{Name, same_name, both}}
pub use Rattle.x25_layer.specs.Calls.{LayerRequest, PullsAll, layer_outcome, Accepted, Dials, LayerOutcome, layer_pulled, outcome_in, Restarts, dialled}
pub use Rattle.x25_layer.specs.Layer.{Layer, LayerSettings, goes_up, is_channel, LayerNotice, layer_answers, answers_in, answers_on, drops, restart_cause}
pub use Rattle.x25_layer.specs.declared.{error.LayerError.{LayerError}, ranges.Ranges.{Ranges}}
pub use Rattle.x25_layer.specs.laws.Apart.{OwnMove, own_run, AreInOrder, Takes, apart_start, Ends, own_moves, ApartEvent, alone, apart_run, AlwaysApart}
pub use Rattle.x25_layer.specs.laws.{Apart.{IsInOrder, Pulls, apart_happens, as_move, as_world}, ApartLaw.{BeginsRestarted, IsToldFirst}}
pub use Rattle.x25_layer.specs.laws.{Law.{HasAllOf, HandsUpLawfully}, NameLaw.{counted, first_name}, Quiet.{AreNoFaults}, RoundLaw.{moves_all, pulls_of}}
pub use Rattle.x25_layer.specs.laws.{Rounds.{LinkView}, Transcript.{name_of, Entry, messages_in, under}}
pub use Rattle.x25_layer.specs.laws.{TwoLayers.{started, moves_in, pulled_in, entries_asked, requested}, WaitLaw.{PullsNone}}
pub use Rattle.x25_layer.specs.{Calls.{free_channel, outcome_on, where_room}, Layer.{rested}, code.FitsLayer.{waits_up_to}}
pub use Rattle.x25_line.proofs.sessions.SessionsForgotten.{Lasts, runs_alike}
pub use Rattle.x25_line.proofs.{HealingSteps.{links_append}, Lists.{each_append}, ends.Meetings.{all_some, all_no_earlier}}
pub use Rattle.x25_line.specs.laws.SessionClaims.{Each, octets_of, OnlyBegunHaveLists, SomeMet, IdleHasArrived, InStep, IsNoEarlier, MetAreInOrder}
pub use Rattle.x25_line.specs.laws.Sessions.{Sessions, Meeting, SessionEnd, from_nothing, AreTimely, IsTimely, begun_by, IsTimelyAt, letters, sent_in}
pub use Rattle.x25_line.specs.laws.Stations.{is_visible, StationEnd}
pub use Rattle.x25_line.specs.laws.{HealingPuts.{AreFree}, Loss.{replaced}, Said.{Said, how_many, sabm_of, said, ua_of}}
unfoldable pub use Rattle.x25_link.specs.Station.{pumped}
pub use Rattle.x25_link.specs.{Hearing.{other, LinkStep}, Link.{abandon_step, take_step, timer_refusal, timer_runs, timer_step}}
pub use Rattle.x25_link.specs.{Station.{is_up, LinkSettings, LinkStation, awaits_ua}, declared.error.LinkError.{LinkError}}
pub use Rattle.x25_link.specs.{declared.phase.Phase.TheVariants.{Waiting}, laws.NoteLaw.{IsQuiet}, laws.RestLaw.{IsAtRest}}
pub use Rattle.x25_packet.specs.{Packet.{PlainPacket, restart, accept, call, clear, restart_conf, user_data}, Spelling.{channel_of, longest_user}}
pub use Rattle.x25_packet.specs.{Taking.{read_in}, declared.error.PacketError.{PacketError}, declared.marks.Marks.{Marks}}
pub use Rattle.x25_peer.proofs.sessions.LinkSteps.{puts_of, SessionGoes, all_act, spelled, puts_spelled, PutsRead, StepGoes, puts_go, puts_up, spelled_with}
pub use Rattle.x25_peer.proofs.{Granted.{timer_silent}, sessions.LinkSteps.{step_as}, sessions.SessionLayers.{asked_leaves, pulls_asked}}
pub use Rattle.x25_station.specs.Entry.{StationEntry, layer_notices, link_up, layer_entries, link_down, entries_noted, relink_asked, connect_asked}
pub use Rattle.x25_station.specs.Station.Told.{stretch, is_at_rest}
pub use Rattle.x25_station.specs.Step.{Step, follows, Did, Outcome, Refused, fires, receives, commands, connects_asked, layer_at, led_by, requests, unless}
pub use Rattle.x25_station.specs.laws.{GivenLaw.{GivesOctets}, JoinLaw.{station_with}, KeepLaw.{ConnectKeeps, IsKept, KeptBy}, ReadLaw.{AreReadable, AreOctets}}
pub use Rattle.x25_station.specs.{Beside.{PlainBeside, beside_in, fields, nothing}, Command.{Connects, Relinks, Disconnects, Probes, Requests, said_by}}
pub use Rattle.x25_station.specs.{Config.{settings_from, Settings, layer_settings, config_refusal, longest_packet, link_settings}, Confirming.{confirmed}}
pub use Rattle.x25_station.specs.{Entry.{disconnect_asked}, Giving.{suits}, Station.{Station, new_station, all_put, view_of}}
pub use Rattle.x25_station.specs.{code.FitsStation.{FitsStation}, declared.config.Cfg.{Cfg}, declared.error.StationError.{StationError}}
pub use Rattle.x25_world.specs.Healing.{AreReceiptsAndRequests, ArrivesByHealing, FreeThroughout, HealsWithPuts, IsDrained, RestShowsAll, behind, fire_and_pull}
pub use Rattle.x25_world.specs.Healing.{next_end, all_received, deliveries, if_accepted, IsReceiptOrRequest, RestShows, both_tried, firing, receipt, AreLinksOf}
unfoldable pub use Rattle.x25_world.specs.Healing.{pull_rounds, arrivals}
pub use Rattle.x25_world.specs.World.{AreAccepted, Fires, Loses, acts, fired, on_line, tapped, OnTap, damaged, event_of}
pub use Rattle.x25_world.specs.World.{World, run, after, Event, happens, refusal_of, Act, Declined, after_step, mirrored, Happened, of_station, AtEnd}
pub use Rattle.x25_world.specs.World.{WorldOutcome, entered, connected, delivered, Receives, established, is_on_line, swapped_back, Commands, Damages, start}
pub use Rattle.x25_world.specs.code.FitsHealing.{most_times, telling, Tells, GoesBy, GoesPartly, TellingWorld}
pub use Rattle.x25_world.specs.code.{FitsWorld.{FitsWorld, ClaimsOfNew, FitsRun, HasHappened, IsRefusal}, PlainTold.{plain_told}}
pub use Rattle.x25_world.specs.code.{ShownLine.{ShownLine, put_by, line_to}, ShownWorld.{ShownWorld, line_of, shown_with}}
pub use Rattle.x25_world.specs.declared.{error.WorldError.{WorldError}, set_up.SetUpFrame.TheVariants.{Sabm, Ua}, told.Entered.{Entered}}
pub use Rattle.x25_world.specs.laws.BesideClaims.{Gave, came_in, AreSomeOf, IsGiven, Came, channel_for, gave_in, gave_where}
pub use Rattle.x25_world.specs.laws.Claims.{IsBeginning, IsLawful, IsNamed, NoneConnects, entry_of_end, station_at}
pub use Rattle.x25_world.specs.laws.Claims.{link_of, AreInOctets, entries_at, IsUpOnce, HasNoProcedureError, IsUpAtMostOnce, ActsInOctets, ArrivesAll}
pub use Rattle.x25_world.specs.laws.SessionClaims.{Throughout, AllArrive, ThroughoutAlong, AreLawfulWhereMet, AreNamedInSessions, MeetInStep, OpenStretchesMeet}
pub use Rattle.x25_world.specs.laws.Sessions.{Progress, last_session, meets, after_entries, none_begun, session_from, handed_in, is_in, after_entry, entry_if}
pub use Rattle.x25_world.specs.laws.WaitClaims.{UnpulledWaitForUsers, ClosedKeepNone, MessagesWaitForUsers, PullsLeaveNone, pull_at}
pub use Rattle.x25_world.specs.laws.{ConfirmedClaims.{confirmed_in, ConfirmedAreHandedUp, asked_among}, LawsBelow.{SessionLaws, Laws}}
pub use Rattle.x25_world.specs.laws.{SessionClaims.{SessionsKeepOrder, UnmetAreToldNothing}, SessionWindow.{Asks, all_at, at_end, both_put, links_by}}
pub use Rattle.x25_world.specs.laws.{Sessions.{first_of, met_by, session_at}, TapOctets.{AreOfFrame, IsTapOfOctets}}
pub use Rattle.x25_world.specs.{Healing.{healing, one_if, pull_round, received_in}, SetUp.{reads_as, carries}}
