-- The names that many of these proofs cite, passed on from one place.
pub use Rattle.std.proofs.Common.{append-nil, ap₂, drop, is_some, take, vec_capacity, vec_len, w64, ◌*◌}
pub use Rattle.std.proofs.Common.{append_assoc, get_or, length-set, set, ◌||◌, eq-eqb, not, Result, length-append, ◌%◌, All, IfOk, IfSome, MatchOption}
pub use Rattle.std.proofs.Common.{◌∙◌, sym, ◌≡◌, ℕ, ap, subst, List, true, Bool, length, arith, refl, false, Some, if◌then◌else◌, ◌≤◌, None, [], Option, suc}
pub use Rattle.std.proofs.Common.{◌∷◌, ◌++◌, ◌+◌, ◌<◌, inr, ◌-◌, inl, ◌==◌, rules, ◌&&◌, ◌⊎◌, zero, nat_lt, option_to_list, slice_get, ◌^◌, Err, nat_le, Ok}
pub use Rattle.std.proofs.lemmas.{Bool.{eqb-true, and_parts, cases_lt, leb-true}, Option.{none-some, same_Some, slice_get-get_or, slice_get_within}}
pub use Rattle.std.specs.Int.{bit_not, trailing_zeros}
pub use Rattle.x25_bits.specs.declared.role.{Role.{Role}, Role.TheVariants.{Dce, Dte}}
pub use Rattle.x25_circuit.specs.Awaits.{is_any}
pub use Rattle.x25_circuit.specs.Calling.{outcome, pulled, Calls, Outcome, Pulled, Refused, Accepts, Request, Done, Sends, Clears, Interrupts, Resets, may_call}
pub use Rattle.x25_circuit.specs.Calling.{pull_in, pull_open, request_of, SaysNotReady, SaysReady, call_sent, does, pulls_nothing, data_packet}
pub use Rattle.x25_circuit.specs.Cause.{may_restart_for, is_of_end, may_clear_for, may_reset_for}
pub use Rattle.x25_circuit.specs.Circuit.{Circuit, CircuitSettings, forgotten, Talk, is_open, waits, is_free, is_free_in, outgoing, begun, silent, awaited_by}
pub use Rattle.x25_circuit.specs.Hearing.{answers, Answer, clears_for, collides, confirms, goes, hears_status, request_in, takes, unless}
pub use Rattle.x25_circuit.specs.Message.{Message, Piece, wholes, completed, joining, no_part, piece_of, carried}
pub use Rattle.x25_circuit.specs.Notice.{CallRequest, PlainNotice, connected, deliveries}
pub use Rattle.x25_circuit.specs.code.{FitsCircuit.{FitsCircuit, clears_of, resets_of}, Replies.{plain_read, plain_sent}}
pub use Rattle.x25_circuit.specs.declared.state.{State.{State}, State.TheVariants.{Open, Calling, Free, Arriving, Clearing, Collision, Resetting}}
pub use Rattle.x25_circuit.specs.declared.{awaits.Awaits.TheVariants.{Nothing}, error.CircuitError.{CircuitError}}
pub use Rattle.x25_circuit.specs.declared.{error.CircuitError.TheVariants.{BadParameter}, params.Params.{Params}, requested.Requested.{Requested}}
pub use Rattle.x25_circuit.specs.{Params.{Proposal, default_params, field_for, may_answer, may_propose, said_in}, Request.{plain_request}}
pub use Rattle.x25_handshakes.specs.laws.Calls.{Unused, Waiting, Offered, Crossed, Talking}
pub use Rattle.x25_handshakes.specs.laws.Handshake.{At, Side, Live, Left, state_of, has_left, left, live}
pub use Rattle.x25_handshakes.specs.laws.{Histories.{IsPrefix, Lists, none}, Layers.{LayerPacket, On}, Names.{Name, same_name, IsEarlier, both}}
pub use Rattle.x25_handshakes.specs.laws.{Stretch.{Packet, Accept, Call, Clear, Data}, Terms.{Terms}}
pub use Rattle.x25_layer.specs.Calls.{LayerOutcome, layer_pulled, Accepted, Declined, layer_outcome, LayerRequest, PullsAll, outcome_in, Asks, Dials, Restarts}
pub use Rattle.x25_layer.specs.Calls.{free_channel, highest_free, lowest_free, puts_at_once, LayerPulled, declined_for, dialled, if_at_once, outcome_on}
pub use Rattle.x25_layer.specs.Full.{HasCountsLeft}
pub use Rattle.x25_layer.specs.Layer.{LayerSettings, Layer, is_channel, packet_on, LayerAnswer, answers_in, layer_answers, put_at, LayerNotice, at_rest}
pub use Rattle.x25_layer.specs.Layer.{is_ready, notices_on, drops, answers_on, answers_ready, answers_restarting, goes_up, restart_cause, restarting_from}
pub use Rattle.x25_layer.specs.code.FitsLayer.{FitsCircuits, FitsLayer, awaited_up_to, full_up_to, waits_up_to, awaited_at, is_most}
pub use Rattle.x25_layer.specs.laws.Apart.{AlwaysApart, ApartEvent, AreInOrder, Ends, IsInOrder, IsNext, OwnMove, Takes, alone, apart_happens, apart_run}
pub use Rattle.x25_layer.specs.laws.Law.{Always, KeepsOrder, ArrivesAll, HasAllOf, IsIdleTo, IsLawfulWorld, IsQuietEnd, IsQuietWorld}
pub use Rattle.x25_layer.specs.laws.NameLaw.{NoClearComesInP1, FrontIsNoClearInP1, IsNoClearInP1, NamesAreCounted, named_by}
pub use Rattle.x25_layer.specs.laws.Quiet.{AreNoFaults, AreQuiet, IsQuiet}
pub use Rattle.x25_layer.specs.laws.Rounds.{LinkView, Putting, backlog, begin, pull_one, round, rounds, rounds_of, whole_rounds, with_pulled, Refuses, Went, went}
pub use Rattle.x25_layer.specs.laws.Transcript.{Handed, Entry, name_of, under, messages_in, interrupts_in, nothing_handed, added, calls_in, told_by_all}
pub use Rattle.x25_layer.specs.laws.Transcript.{asked_by}
pub use Rattle.x25_layer.specs.laws.TwoLayers.{HandsUp, Pulls, Requests, entries_asked, EndMove, GoesDown, happens, answered, moves, puts}
pub use Rattle.x25_layer.specs.laws.TwoLayers.{TwoLayers, End, run, settings_of, start, moves_in, pulled_in, requested, Move, entries_told, handed_up, turned}
pub use Rattle.x25_layer.specs.laws.WaitLaw.{ClosedKeepNone, NoneOpenInRestart, WaitForUsersAlone}
pub use Rattle.x25_layer.specs.laws.{Apart.{as_move, as_world, coming, own_moves, own_run}, ApartLaw.{IsOverLinks}, Bare.{bare_layers, bare, bare_layer}}
pub use Rattle.x25_layer.specs.{Asking.{with_circuit}, Calls.{restarted_for, where_callable, where_room, first_free, first_of, outcome_ready}}
pub use Rattle.x25_layer.specs.{Ranges.{is_number, two_way}, Receiving.{answer_to, hears_on}, code.Answering.{Gives, spelled}}
pub use Rattle.x25_layer.specs.{code.Idle.{IdleBeside, IsOutside, IsIdle}, code.Pulling.{IsPut, next_packet}, declared.error.LayerError.{LayerError}}
pub use Rattle.x25_layer.specs.{declared.ranges.Ranges.{Ranges}, laws.Acknowledged.{AcknowledgedAreHandedUp}}
pub use Rattle.x25_packet.specs.Packet.{PlainPacket, restart, restart_conf, call, accept, clear, interrupt, plain, reset, user_data, clear_conf, interrupt_conf}
pub use Rattle.x25_packet.specs.{Facilities.{IsFacilityField}, Packet.{reset_conf, rnr, rr}}
pub use Rattle.x25_packet.specs.{Spelling.{HasChannel, channel_of, moved_to, spelling_of, longest_user}, Taking.{read_in}, declared.marks.Marks.{Marks}}
