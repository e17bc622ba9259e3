-- The worked row, by computing.
use Rattle.hex.specs.Hex.{decode_pairs}
use Rattle.std.proofs.Common.{◌≡◌, [], ◌∷◌, refl, sym, true, false}
use Rattle.std.specs.{Fmt.{digits}, Prelude.{codes}}
use Rattle.x25_bits.specs.declared.role.Role.TheVariants.{Dte}
use Rattle.x25_bits.specs.{FrameCheck.{fcs_of, number_of, divided, low_bits, add, divisor}, FrameCheck.Sealed.{is_sealed}}
use Rattle.x25_clock.specs.{Times.{standard}, declared.times.Times.{Times}}
use Rattle.x25_console.specs.Telling.{refusal_line, frame_line}
use Rattle.x25_frame.specs.Reading.{frame_of}
use Rattle.x25_io.specs.Lines.{lines_of}
use Rattle.x25_joined.proofs.rows.JoinedRowLemmas.{opens}
use Rattle.x25_joined.specs.laws.BesidePeer.{Program, nothing_read}
use Rattle.x25_joined.specs.rows.JoinedRows.{usual}
use Rattle.x25_line.specs.laws.{Ends.{moves, loses}, Loss.{gone}, PeerSessions.{nothing}}
use Rattle.x25_link.specs.Station.{pumped}
use Rattle.x25_peer.specs.laws.BesideSessions as beside
use Rattle.x25_peer.specs.laws.BesideSessions.{BesideSessions, links}
use Rattle.x25_packet.specs.{Classes.{own_in}, Digits.{halves_of, packed}, Facilities.{facilities_of}, Grammar.{read_of}}
use Rattle.x25_pipe.specs.Pipe.{event_act, event_in, saying_line}
use Rattle.x25_pipe.specs.Timed.{due_turns, moment_in, next_line, time_said, timed, timed_turn, timed_turns, timeout_line}
use Rattle.x25_script.specs.Reading.{parts_of, number_in, small_number_in, params_in, with_params_in, call_in, accept_in, send_in, interrupt_in, with_fields}
use Rattle.x25_script.specs.Reading.{command_in, lose_in, damage_in, drain_in, line_in}
use Rattle.x25_station.specs.Config.{Settings, settings_from}
use Rattle.x25_transcript.specs.EntryText.{entry_line}
use Rattle.x25_joined.specs.laws.TimedPeer.{ReachedTimed, at_start, bare, goes_on, Reads, Elsewhere}
use Rattle.x25_joined.specs.rows.TimedRows.{TimeHasToWait, LinkIsSetUpTimed, SabmGoesAgain, sabm}

abbrev ours : Settings
ours = settings_from Dte usual

abbrev times : Times
times = standard Dte

pub sabm_goes_again : SabmGoesAgain
unfolding digits event_act event_in lines_of line_in parts_of number_in lose_in damage_in drain_in command_in with_fields small_number_in params_in
    with_params_in call_in accept_in send_in interrupt_in saying_line entry_line frame_line refusal_line pumped frame_of is_sealed fcs_of number_of divided
    low_bits add divisor due_turns moment_in next_line time_said timed timed_turn timed_turns timeout_line
sabm_goes_again =
    let p0 : Program = nothing_read in
    let pa : Program = record p0 { read = codes "@ 0\n" } in
    let ra : ReachedTimed ours times pa = goes_on p0 pa at_start
    (Reads (codes "@ 0") (record { is_line = opens (codes "@ 0") refl; is_no_frame = tt; in_time = tt; said = (tt, tt) })) in
    let p1 : Program = record p0 { read = codes "@ 0\ndte connect\n"; out = sabm ∷ [] } in
    let r1 : ReachedTimed ours times p1 = goes_on pa p1 ra
    (Reads (codes "dte connect") (record { is_line = opens (codes "dte connect") refl; is_no_frame = tt; in_time = tt; said = (tt, (tt, tt)) })) in
    let v2 : BesideSessions = record (bare ours times p1) { out = [] } in
    let p2 : Program = record p1 { out = [] } in
    let r2 : ReachedTimed ours times p2 = goes_on p1 p2 r1 (Elsewhere v2
    (beside.Links (links v2) (record { does = λ crossing. moves _ (loses 0 [] (gone _ _)); left = (0, gone _ _); puts = nothing }))) in
    let p3 : Program = record p2 { read = codes "@ 0\ndte connect\n@ 3000\n"; out = sabm ∷ [] } in
    let r3 : ReachedTimed ours times p3 = goes_on p2 p3 r2
    (Reads (codes "@ 3000") (record {
      is_line = opens (codes "@ 3000") refl;
      is_no_frame = tt;
      in_time = λ waiting. record { sabm = refl; ua = refl; crossing = tt };
      said = (tt, (tt, tt));
    })) in
    record { program = p3; reached = r3; text = refl; out = refl }

never : false ≡ true → ⊥
never e = cc

pub link_is_set_up : LinkIsSetUpTimed
unfolding digits decode_pairs event_act event_in lines_of line_in parts_of number_in lose_in damage_in drain_in command_in with_fields small_number_in params_in
    with_params_in call_in accept_in send_in interrupt_in saying_line entry_line frame_line refusal_line pumped frame_of read_of halves_of packed own_in
    facilities_of is_sealed fcs_of number_of divided low_bits add divisor due_turns moment_in next_line time_said timed timed_turn timed_turns timeout_line
link_is_set_up = record {
  possible = (
    record { is_line = opens (codes "@ 0") refl; is_no_frame = tt; in_time = tt; said = (tt, tt) },
    (
      record { is_line = opens (codes "dte connect") refl; is_no_frame = tt; in_time = tt; said = (tt, (tt, tt)) },
      (tt, (record { is_line = opens (codes "@ 3000") refl; is_no_frame = tt; in_time = refl; said = (tt, (tt, tt)) }, (tt, (tt, (tt, (tt, (tt, (tt, tt)))))))),
    ),
  );
  near = refl;
  far = refl;
  out = refl;
  back = refl;
}

pub firing_has_to_wait : TimeHasToWait
unfolding digits decode_pairs event_act event_in lines_of line_in parts_of number_in lose_in damage_in drain_in command_in with_fields small_number_in params_in
    with_params_in call_in accept_in send_in interrupt_in saying_line entry_line frame_line refusal_line pumped frame_of read_of halves_of packed own_in
    facilities_of is_sealed fcs_of number_of divided low_bits add divisor due_turns moment_in next_line time_said timed timed_turn timed_turns timeout_line
firing_has_to_wait = λ may. never (sym may.in_time)
