-- The names that many of these proofs cite, passed on from one place.
pub use Rattle.std.proofs.Common.{drop, take, ◌⊎◌, All, OnErr, length-append, ◌%◌, ◌*◌, ◌≢◌, IsErrAnd, IsErrOf, OnOk, is_some, max, option_copied, ◌/◌}
pub use Rattle.std.proofs.Common.{length, ◌==◌, Ok, ◌<◌, Result, suc, nat_lt, zero, ◌+◌, Err, map, ◌&&◌, not, option_to_list, inl, ◌-◌, ap₂, nat_le, ◌||◌, inr}
pub use Rattle.std.proofs.Common.{◌∙◌, ap, ◌≡◌, sym, List, refl, ℕ, Bool, true, subst, Some, [], false, arith, None, Option, if◌then◌else◌, ◌∷◌, ◌++◌, ◌≤◌}
pub use Rattle.std.proofs.Math.{Bool.{or-true}, Nat.{le_trans}, Path.{fun_ext}}
pub use Rattle.std.proofs.lemmas.{Bool.{eqb-true, and_parts, leb-true, true≢false, ltb-true, eq-eqb, lt-ltb, le-ltb, le-leb}, Bool.Decides.{nat_tests}}
pub use Rattle.std.proofs.lemmas.{List.Folds.{list_all-append}, List.Sums.{sum_by-cons}, Option.{same_Some, none-some}}
pub use Rattle.std.proofs.lemmas.{List.{append-nil, map-append, append_assoc, take_all, length-map, take_min}, List.Elements.{All-append, All-from_get_or}}
pub use Rattle.std.specs.{List.{list_all, sum_by, list_any}, Option.{unwrap_or}, Prelude.{IfSome}, Result.{is_ok}}
pub use Rattle.x25_bits.specs.{Bits.{bit}, declared.role.Role.{Role}, declared.role.Role.TheVariants.{Dce, Dte}}
pub use Rattle.x25_circuit.specs.Calling.{Request, Calls, outcome, Accepts, Done, Sends, send_in, Clears, Interrupts, call_in, clear_in, pulled, Pulled}
pub use Rattle.x25_circuit.specs.Calling.{accept_in, interrupt_in, pull_in, pull_open, Resets, SaysNotReady, SaysReady, data_packet, does, is_address_text}
pub use Rattle.x25_circuit.specs.Circuit.{Circuit, CircuitSettings, Talk, is_open_in, is_open, outgoing, unconfirmed, incoming, talking, awaited_by}
pub use Rattle.x25_circuit.specs.Hearing.{answers, Answer, row_accept, row_call, row_clear, undecoded, confirms, data_ground, hears_status, number_ground}
pub use Rattle.x25_circuit.specs.Hearing.{request_in, row_clear_conf, row_data, row_reset, row_reset_conf, row_undecoded, takes}
pub use Rattle.x25_circuit.specs.Message.{Piece, joining, no_part, piece_of, Last, Message, More, Partial, asked_in, cut, cut_from}
pub use Rattle.x25_circuit.specs.Notice.{CallRequest, PlainNotice, connected, collided}
pub use Rattle.x25_circuit.specs.declared.state.State.TheVariants.{Free, Open, Calling, Clearing, Collision, Resetting, Arriving}
pub use Rattle.x25_circuit.specs.declared.{notice.Notice.{Notice}, params.Params.{Params}, state.State.{State}}
pub use Rattle.x25_circuit.specs.{Awaits.{awaited_in}, Calling.{may_call, pulls_nothing, ready_in, reset_in}, Cause.{may_clear_for, may_reset_for, may_restart_for}}
pub use Rattle.x25_circuit.specs.{Params.{Proposal, in_brief, default_params, may_answer, said_in, field_for}, Request.{plain_request}}
pub use Rattle.x25_circuit.specs.{code.Replies.{plain_notice}, declared.awaits.Awaits.{Awaits}, declared.error.CircuitError.{CircuitError}}
pub use Rattle.x25_frame.specs.{Frame.{PlainFrame, disc}, Reading.{frame_of}}
pub use Rattle.x25_given.specs.{Given.{PlainGiven, given_with, may_give}, Writing.{write, written}, laws.ReadingLaw.{WrittenIsInForm, WrittenIsRead}}
pub use Rattle.x25_handshakes.specs.laws.Names.{Name, same_name}
pub use Rattle.x25_layer.specs.Calls.{Asks, layer_outcome, Declined, LayerOutcome, Accepted, Dials, LayerRequest, outcome_in, PullsAll, free_channel}
pub use Rattle.x25_layer.specs.Calls.{asked_where, asks_memory, first_free, first_of, highest_free, lowest_free, where_callable}
pub use Rattle.x25_layer.specs.Calls.{outcome_on, Restarts, if_at_once, puts_at_once, layer_pulled, dialled, where_room, outcome_ready, restarted_for}
pub use Rattle.x25_layer.specs.Layer.{LayerSettings, Layer, is_channel, LayerAnswer, LayerNotice, answers_in, answers_on, drops, put_at, answers_ready}
pub use Rattle.x25_layer.specs.Layer.{answers_restarting, goes_up, layer_answers, on_channel, restarting_from, is_ready, layer_fault, notices_on, restart_done}
pub use Rattle.x25_layer.specs.laws.Rounds.{Putting, LinkView, rounds, Went, Refuses, begin, Answered, went, calls, backlog, pull_one, round, with_pulled}
pub use Rattle.x25_layer.specs.laws.TwoLayers.{shown, Move, TwoLayers, moves, moves_in, requested, HandsUp, entry_of_dial, handed_up}
pub use Rattle.x25_layer.specs.laws.{Rounds.{rounds_of, hears, refusal_of}, Transcript.{name_of, Asked, Told}}
pub use Rattle.x25_layer.specs.{Layer.{restarted, undecoded_in, packet_on}, Receiving.{answer_to, undecoded_at}, code.Answering.{spelled, Answers, Gives}}
pub use Rattle.x25_layer.specs.{code.FitsLayer.{FitsLayer, is_open_at, is_full}, declared.error.LayerError.{LayerError}, declared.ranges.Ranges.{Ranges}}
pub use Rattle.x25_layer.specs.{declared.stretch.Stretch.{Stretch}, laws.RoundLaw.{AreChannels, CallsRun, moves_all, pulls_of}}
pub use Rattle.x25_link.specs.Hearing.{LinkStep, quiet, leaves, other}
pub use Rattle.x25_link.specs.Link.{alone, take_step, abandon_step, put_step, timer_step, relink_refusal, relink_step, connect_refusal, connect_step}
pub use Rattle.x25_link.specs.Link.{disconnect_refusal, disconnect_step, probe_refusal, timer_refusal, asks_again, put_refusal, timer_runs, closed_by}
pub use Rattle.x25_link.specs.Station.{LinkStation, Side, is_up, LinkSettings, with_near, with_nothing, ended, is_busy, may_send, owes_ready, ready, send_next}
unfoldable pub use Rattle.x25_link.specs.Station.{pumped}
pub use Rattle.x25_link.specs.code.FitsLink.{FitsWhole, ShownLink, LinkState, after_put_to, waits_of, FitsLink, up_of, waiting_of, limit_of, up_at}
pub use Rattle.x25_link.specs.declared.phase.{Phase.TheVariants.{Up, Down, Closed, Waiting}, Reason.{Reason}, Reason.TheVariants.{Retries}}
pub use Rattle.x25_link.specs.laws.SetUp.{RelinkIsTwoSteps}
pub use Rattle.x25_link.specs.laws.{LinkLaws.{link_waits}, NoteLaw.{PutTells, TakeTells, TakeHandsUp, Tells, AbandonTells, IsQuiet, TimerTells}}
pub use Rattle.x25_link.specs.{Outgoing.{waits, added, Outgoing}, Station.{sends, Lists, fresh}, code.Bounds.{WindowIsSmall, FewStand}}
pub use Rattle.x25_link.specs.{code.Frames.{places_left}, declared.error.LinkError.{LinkError}, declared.phase.Notes.{Notes}, declared.phase.Phase.{Phase}}
unfoldable pub use Rattle.x25_packet.specs.Digits.{packed}
pub use Rattle.x25_packet.specs.Packet.{PlainPacket, clear, accept, call, restart, clear_conf, reset, reset_conf, restart_conf, interrupt, interrupt_conf, rnr}
pub use Rattle.x25_packet.specs.declared.{error.PacketError.{PacketError}, form.Form.{Form}, form.Forms.TheVariants.{Any}, marks.Marks.{Marks}}
pub use Rattle.x25_packet.specs.laws.{ReadingLaw.{ReadsWhatIsSpelled, ReadsFormsThatAreSpelled}, TakingLaw.{TakesWhatIsSpelled, TakesWhatIsWritten}}
pub use Rattle.x25_packet.specs.{Digits.{is_digit, IsAddress, is_figure}, Facilities.{IsFacilityField}, Form.{PlainForm, plain}, Form.Spelling.{Spells}}
pub use Rattle.x25_packet.specs.{Grammar.{form_in}, Marks.{with_q}, Packet.{rr, user_data}, Reading.{channel_in, packet_of}}
pub use Rattle.x25_packet.specs.{Spelling.{spelling_of, longest_user, IsInRange, HasChannel, IsWithoutD, body_of, channel_of, header_of}, Taking.{read_in}}
pub use Rattle.x25_station.specs.Beside.{beside_in, PlainBeside, nothing, IsReadShorter, beside_kind, beside_or_none, diagnosed, fields, plain_beside}
pub use Rattle.x25_station.specs.Entry.{StationEntry, of_channel, bringing, entries_beside, entries_down, relink_asked, restart_asked, station_asked}
pub use Rattle.x25_station.specs.Entry.{entries_noted, was_confirmed, entries_up, entry_told, layer_entries, layer_notices, link_down, link_up, of_channels}
pub use Rattle.x25_station.specs.Entry.{station_told, connect_asked, disconnect_asked, at_fault, entries_behind, restart_confirmed, was_restarted, came_beside}
pub use Rattle.x25_station.specs.Step.{Step, Outcome, Did, did, entries_of_outcome, Refused, follows, requests, requests_of, layer_answer, unless, layer_at}
pub use Rattle.x25_station.specs.Step.{gave, led_by, abandons, confirmed_by, where_asked, with_puts, asks, entries_heard, entries_of_answer, entries_of_packet}
pub use Rattle.x25_link.specs.{Link.{answered, gives_up}, Station.{awaits_end, disconnected}, declared.phase.Closing.{Closing}, declared.phase.Ending.{Ending}}
pub use Rattle.x25_link.specs.declared.phase.{Closing.TheVariants.{Asked}, Ending.TheVariants.{GivenUp}}
pub use Rattle.x25_station.specs.Entry.{end_if, end_between, entries_ended}
pub use Rattle.x25_station.specs.Step.{ends, layer_down, receives, with_given, commands, fires, gives}
pub use Rattle.x25_station.specs.code.FitsStation.{Enters, FitsStation, Does, IsEmpty, LeavesParts, RefusesOnly, Leaves}
pub use Rattle.x25_station.specs.code.LinkCalls.{calls_link, link_refusal, step_of_call}
pub use Rattle.x25_station.specs.code.OverLink.{after_all, LayerGives, LinkGives, all_with, seen_at, seen_with, DrivesAsked, GoesWith}
pub use Rattle.x25_station.specs.code.{Entries.{IsBrief, comes_beside, ShownEntries}, FitsParts.{FitsParts, AreMeant}}
pub use Rattle.x25_station.specs.declared.{error.StationError.{StationError}, lent.Lent.{Lent}, linking.LinkCall.{LinkCall}}
pub use Rattle.x25_station.specs.declared.{linking.LinkCall.TheVariants.{Connect, Disconnect, Relink, Fire, Probe}, timer.Timer.{Timer}}
pub use Rattle.x25_station.specs.laws.{EndLaw.{is_answered_on, is_left_on}, GivenLaw.{AreTaken}, JoinLaw.{AreAccepted}}
pub use Rattle.x25_station.specs.laws.{KeepLaw.{KeptBy, IsKept, GivenKeeps, RequestKeeps}, ReadLaw.{AreOctets, IsReadable}, WayOutLaw.{rank_in, rank_of}}
pub use Rattle.x25_station.specs.{Beside.{unless_written}, Command.{may_ask, said_by, Connects, Disconnects, Probes, Relinks, Requests, RequestsWith, may_mark}}
pub use Rattle.x25_station.specs.{Config.{layer_settings, link_settings, Settings, manner_of}, Confirming.{named_by, confirmed, goes_on}, Entry.{was_diagnosed}}
pub use Rattle.x25_station.specs.{Error.{of_layer}, Giving.{view_given, is_taken, not_taken, all_given, suits}, Pulling.{pulled_of}}
pub use Rattle.x25_station.specs.{Receiving.{kept_of, AreTellable, CanPut, IsShort}, Station.{Station, view_of, all_put, put_on, waiting_after, behind}}
pub use Rattle.x25_station.specs.{Timer.{tells_link, runs, timer_of, is_acknowledged, pulled_timer, is_anew, is_of_link}, code.Confirming.{Stands}}
pub use Rattle.x25_station.specs.{code.PlainEntry.{plain_entry, plain_name, plain_told}, declared.config.Manner.{Manner}, declared.entry.Entry.{Entry}}
pub use Rattle.x25_window.specs.code.Modulo.{resolved}
