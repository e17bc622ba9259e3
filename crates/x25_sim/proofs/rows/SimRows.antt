-- Worked scripts of the simulator, by computation.
use Rattle.x25_sim.proofs.Names.{refl, line_in, lines_of, refusal_line, saying_line, event_turn, drained, tried, both_tried, fired, pulled, emptied, healed}
use Rattle.hex.specs.Hex.{decode_pairs}
use Rattle.std.specs.Fmt.{digits}
use Rattle.x25_bits.specs.{FrameCheck.{fcs_of, number_of, divided, low_bits, add, divisor}, FrameCheck.Sealed.{is_sealed}}
use Rattle.x25_console.specs.Telling.{frame_line}
use Rattle.x25_frame.specs.Reading.{frame_of}
use Rattle.x25_link.specs.Station.{pumped}
use Rattle.x25_packet.specs.{Classes.{own_in}, Digits.{halves_of, packed}, Facilities.{facilities_of}, Grammar.{read_of}}
use Rattle.x25_script.specs.Reading.{parts_of, number_in, small_number_in, params_in, with_params_in, call_in, accept_in, send_in, interrupt_in, with_fields}
use Rattle.x25_script.specs.Reading.{command_in, lose_in, damage_in, drain_in}
use Rattle.x25_sim.{proofs.Names.{line_turn, asked_in, turn, turns, set_up, simulated}, specs.Telling.{mark_line}}
use Rattle.x25_sim.specs.rows.ScriptRows.{LinksComeUp, FramesAreWritten, LinkGoesDown, DamageIsSeen, EventsAreTold, CallsCollide, OtherLinesAreRefused}
use Rattle.x25_sim.specs.rows.ScriptRows.{MessagesArrive, ResetIsDone, RestartIsDone, BothEndsGoDown, LinkIsSetUp, LostUaComesAgain, LinkIsSetUpAgain}
use Rattle.x25_sim.specs.rows.ScriptRows.{LostFrameArrives, BothEndsHeal, WaitingMessageIsPulled, LinksThatAreDownHeal}
use Rattle.x25_transcript.specs.EntryText.{entry_line}

pub links_come_up : LinksComeUp
unfolding digits decode_pairs simulated set_up event_turn line_turn drained turn turns asked_in lines_of line_in parts_of number_in lose_in damage_in drain_in
    command_in with_fields small_number_in params_in with_params_in call_in accept_in send_in interrupt_in saying_line entry_line frame_line refusal_line
    pumped frame_of read_of halves_of packed own_in facilities_of is_sealed fcs_of number_of divided low_bits add divisor
links_come_up = (refl, refl)

pub frames_are_written : FramesAreWritten
unfolding digits decode_pairs simulated set_up event_turn line_turn drained turn turns asked_in lines_of line_in parts_of number_in lose_in damage_in drain_in
    command_in with_fields small_number_in params_in with_params_in call_in accept_in send_in interrupt_in saying_line entry_line frame_line refusal_line
    pumped frame_of read_of halves_of packed own_in facilities_of is_sealed fcs_of number_of divided low_bits add divisor
frames_are_written = (refl, refl)

pub events_are_told : EventsAreTold
unfolding digits decode_pairs simulated set_up event_turn line_turn drained turn turns asked_in lines_of line_in parts_of number_in lose_in damage_in drain_in
    command_in with_fields small_number_in params_in with_params_in call_in accept_in send_in interrupt_in saying_line mark_line entry_line frame_line
    refusal_line pumped frame_of read_of halves_of packed own_in facilities_of is_sealed fcs_of number_of divided low_bits add divisor
events_are_told = (refl, refl)

pub link_goes_down : LinkGoesDown
unfolding digits decode_pairs simulated set_up event_turn line_turn drained turn turns asked_in lines_of line_in parts_of number_in lose_in damage_in drain_in
    command_in with_fields small_number_in params_in with_params_in call_in accept_in send_in interrupt_in saying_line entry_line frame_line refusal_line
    pumped frame_of read_of halves_of packed own_in facilities_of is_sealed fcs_of number_of divided low_bits add divisor
link_goes_down = (refl, refl)

pub damage_is_seen : DamageIsSeen
unfolding digits decode_pairs simulated set_up event_turn line_turn drained turn turns asked_in lines_of line_in parts_of number_in lose_in damage_in drain_in
    command_in with_fields small_number_in params_in with_params_in call_in accept_in send_in interrupt_in saying_line entry_line frame_line refusal_line
    pumped frame_of read_of halves_of packed own_in facilities_of is_sealed fcs_of number_of divided low_bits add divisor
damage_is_seen = (refl, refl)

pub calls_collide : CallsCollide
unfolding digits decode_pairs simulated set_up event_turn line_turn drained turn turns asked_in lines_of line_in parts_of number_in lose_in damage_in drain_in
    command_in with_fields small_number_in params_in with_params_in call_in accept_in send_in interrupt_in saying_line entry_line frame_line refusal_line
    pumped frame_of read_of halves_of packed own_in facilities_of is_sealed fcs_of number_of divided low_bits add divisor
calls_collide = (refl, refl)

pub other_lines_are_refused : OtherLinesAreRefused
unfolding digits decode_pairs simulated set_up event_turn line_turn drained turn turns asked_in lines_of line_in parts_of number_in lose_in damage_in drain_in
    command_in with_fields small_number_in params_in with_params_in call_in accept_in send_in interrupt_in saying_line entry_line frame_line refusal_line
    pumped frame_of read_of halves_of packed own_in facilities_of is_sealed fcs_of number_of divided low_bits add divisor
other_lines_are_refused = (refl, refl)

pub messages_arrive : MessagesArrive
unfolding digits decode_pairs simulated set_up event_turn line_turn drained turn turns asked_in lines_of line_in parts_of number_in lose_in damage_in drain_in
    command_in with_fields small_number_in params_in with_params_in call_in accept_in send_in interrupt_in saying_line entry_line frame_line refusal_line
    pumped frame_of read_of halves_of packed own_in facilities_of is_sealed fcs_of number_of divided low_bits add divisor
messages_arrive = (refl, refl)

pub reset_is_done : ResetIsDone
unfolding digits decode_pairs simulated set_up event_turn line_turn drained turn turns asked_in lines_of line_in parts_of number_in lose_in damage_in drain_in
    command_in with_fields small_number_in params_in with_params_in call_in accept_in send_in interrupt_in saying_line entry_line frame_line refusal_line
    pumped frame_of read_of halves_of packed own_in facilities_of is_sealed fcs_of number_of divided low_bits add divisor
reset_is_done = (refl, refl)

pub restart_is_done : RestartIsDone
unfolding digits decode_pairs simulated set_up event_turn line_turn drained turn turns asked_in lines_of line_in parts_of number_in lose_in damage_in drain_in
    command_in with_fields small_number_in params_in with_params_in call_in accept_in send_in interrupt_in saying_line entry_line frame_line refusal_line
    pumped frame_of read_of halves_of packed own_in facilities_of is_sealed fcs_of number_of divided low_bits add divisor
restart_is_done = (refl, refl)

pub both_ends_go_down : BothEndsGoDown
unfolding digits decode_pairs simulated set_up event_turn line_turn drained turn turns asked_in lines_of line_in parts_of number_in lose_in damage_in drain_in
    command_in with_fields small_number_in params_in with_params_in call_in accept_in send_in interrupt_in saying_line entry_line frame_line refusal_line
    pumped frame_of read_of halves_of packed own_in facilities_of is_sealed fcs_of number_of divided low_bits add divisor
both_ends_go_down = (refl, refl)

pub link_is_set_up : LinkIsSetUp
unfolding digits decode_pairs simulated set_up event_turn line_turn drained turn turns asked_in lines_of line_in parts_of number_in lose_in damage_in drain_in
    command_in with_fields small_number_in params_in with_params_in call_in accept_in send_in interrupt_in saying_line entry_line frame_line refusal_line
    pumped frame_of read_of halves_of packed own_in facilities_of is_sealed fcs_of number_of divided low_bits add divisor
link_is_set_up = (refl, refl)

pub lost_ua_comes_again : LostUaComesAgain
unfolding digits decode_pairs simulated set_up event_turn line_turn drained turn turns asked_in lines_of line_in parts_of number_in lose_in damage_in drain_in
    command_in with_fields small_number_in params_in with_params_in call_in accept_in send_in interrupt_in saying_line entry_line frame_line refusal_line
    pumped frame_of read_of halves_of packed own_in facilities_of is_sealed fcs_of number_of divided low_bits add divisor
lost_ua_comes_again = (refl, refl)

pub link_is_set_up_again : LinkIsSetUpAgain
unfolding digits decode_pairs simulated set_up event_turn line_turn drained turn turns asked_in lines_of line_in parts_of number_in lose_in damage_in drain_in
    command_in with_fields small_number_in params_in with_params_in call_in accept_in send_in interrupt_in saying_line entry_line frame_line refusal_line
    pumped frame_of read_of halves_of packed own_in facilities_of is_sealed fcs_of number_of divided low_bits add divisor
link_is_set_up_again = (refl, refl)

pub lost_frame_arrives : LostFrameArrives
unfolding digits decode_pairs simulated set_up event_turn line_turn drained tried both_tried fired pulled emptied healed turn turns asked_in lines_of line_in
    parts_of number_in lose_in damage_in drain_in command_in with_fields small_number_in params_in with_params_in call_in accept_in send_in interrupt_in
    saying_line entry_line frame_line refusal_line pumped frame_of read_of halves_of packed own_in facilities_of is_sealed fcs_of number_of divided low_bits
    add divisor
lost_frame_arrives = (refl, refl)

pub both_ends_heal : BothEndsHeal
unfolding digits decode_pairs simulated set_up event_turn line_turn drained tried both_tried fired pulled emptied healed turn turns asked_in lines_of line_in
    parts_of number_in lose_in damage_in drain_in command_in with_fields small_number_in params_in with_params_in call_in accept_in send_in interrupt_in
    saying_line entry_line frame_line refusal_line pumped frame_of read_of halves_of packed own_in facilities_of is_sealed fcs_of number_of divided low_bits
    add divisor
both_ends_heal = (refl, refl)

pub waiting_message_is_pulled : WaitingMessageIsPulled
unfolding digits decode_pairs simulated set_up event_turn line_turn drained tried both_tried fired pulled emptied healed turn turns asked_in lines_of line_in
    parts_of number_in lose_in damage_in drain_in command_in with_fields small_number_in params_in with_params_in call_in accept_in send_in interrupt_in
    saying_line entry_line frame_line refusal_line pumped frame_of read_of halves_of packed own_in facilities_of is_sealed fcs_of number_of divided low_bits
    add divisor
waiting_message_is_pulled = (refl, refl)

pub links_that_are_down_heal : LinksThatAreDownHeal
unfolding digits decode_pairs simulated set_up event_turn line_turn drained tried both_tried fired pulled emptied healed turn turns asked_in lines_of line_in
    parts_of number_in lose_in damage_in drain_in command_in with_fields small_number_in params_in with_params_in call_in accept_in send_in interrupt_in
    saying_line entry_line frame_line refusal_line pumped frame_of read_of halves_of packed own_in facilities_of is_sealed fcs_of number_of divided low_bits
    add divisor
links_that_are_down_heal = (refl, refl)
