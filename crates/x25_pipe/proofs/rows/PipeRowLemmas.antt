-- Worked input of one station behind a pipe, by computation.
use Rattle.hex.specs.Hex.{decode_pairs}
use Rattle.std.specs.Fmt.{digits}
use Rattle.x25_bits.specs.{FrameCheck.{fcs_of, number_of, divided, low_bits, add, divisor}, FrameCheck.Sealed.{is_sealed}}
use Rattle.x25_console.specs.Telling.{frame_line, refusal_line}
use Rattle.x25_frame.specs.Reading.{frame_of}
use Rattle.x25_link.specs.Station.{pumped}
use Rattle.x25_packet.specs.{Classes.{own_in}, Digits.{halves_of, packed}, Facilities.{facilities_of}, Grammar.{read_of}}
use Rattle.x25_pipe.{proofs.Names.{refl, lines_of, saying_line, event_in, turn, turns}, specs.Pipe.{event_turn, piped}}
use Rattle.x25_pipe.specs.rows.PipeRows.{MarkComesFirst, CallGoesOut, OthersAreRefused}
use Rattle.x25_script.specs.Reading.{parts_of, number_in, small_number_in, params_in, with_params_in, call_in, accept_in, send_in, interrupt_in, with_fields}
use Rattle.x25_script.specs.Reading.{command_in, lose_in, damage_in, drain_in, line_in}
use Rattle.x25_transcript.specs.EntryText.{entry_line}

pub mark_comes_first : MarkComesFirst
unfolding digits decode_pairs piped event_turn turn turns event_in lines_of saying_line entry_line frame_line refusal_line pumped
mark_comes_first = (refl, refl)

pub call_goes_out : CallGoesOut
unfolding digits decode_pairs piped event_turn turn turns event_in lines_of line_in parts_of number_in lose_in damage_in drain_in command_in with_fields
    small_number_in params_in with_params_in call_in accept_in send_in interrupt_in saying_line entry_line frame_line refusal_line pumped frame_of read_of
    halves_of packed own_in facilities_of is_sealed fcs_of number_of divided low_bits add divisor
call_goes_out = (refl, refl)

pub others_are_refused : OthersAreRefused
unfolding digits decode_pairs piped event_turn turn turns event_in lines_of line_in parts_of number_in lose_in damage_in drain_in command_in with_fields
    small_number_in params_in with_params_in call_in accept_in send_in interrupt_in saying_line entry_line frame_line refusal_line pumped frame_of read_of
    halves_of packed own_in facilities_of is_sealed fcs_of number_of divided low_bits add divisor
others_are_refused = (refl, refl)
