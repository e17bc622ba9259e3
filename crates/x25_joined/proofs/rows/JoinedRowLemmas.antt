-- The worked rows, by computing.
use Rattle.x25_joined.proofs.Names.{◌≡◌, ◌∙◌, ℕ, Bool, true, false, ◌&&◌, List, [], ◌∷◌, ◌<◌, ap, sym, refl, arith, All-nil, All-cons, decode_pairs, line_in}
use Rattle.x25_joined.proofs.Names.{IsOpen, lines_of, frame_line, saying_line, event_in, event_turn, turn, turns, piped, AreOfFrame}
use Rattle.std.{proofs.Common.{nat_eq}, specs.Fmt.{digits}, specs.List.{list_all}, specs.Prelude.{not, ◌==◌, ◌≢◌, codes}}
use Rattle.x25_bits.specs.{FrameCheck.{fcs_of, number_of, divided, low_bits, add, divisor}, FrameCheck.Sealed.{is_sealed}}
use Rattle.x25_console.specs.Telling.{refusal_line}
use Rattle.x25_frame.specs.Reading.{frame_of}
use Rattle.x25_joined.specs.rows.JoinedRows.{LinkIsSetUp, LostSabmGoesAgain, FiringHasToWait, OtherLinesDoNothing, MessageArrives}
use Rattle.x25_link.specs.Station.{pumped}
use Rattle.x25_packet.specs.{Classes.{own_in}, Digits.{halves_of, packed}, Facilities.{facilities_of}, Grammar.{read_of}}
use Rattle.x25_script.specs.Reading.{parts_of, number_in, small_number_in, params_in, with_params_in, call_in, accept_in, send_in, interrupt_in, with_fields}
use Rattle.x25_script.specs.Reading.{command_in, lose_in, damage_in, drain_in}
use Rattle.x25_transcript.specs.EntryText.{entry_line}

-- ---- lines of users, and what comes in the place of a frame

abbrev IsOctet : ℕ → Type 0
IsOctet octet = octet < 256

abbrev is_open : List ℕ → Bool
is_open line = list_all (λ (o : ℕ). not (o == 10)) line

never : false ≡ true → ⊥
never e = cc

opened : (o : ℕ) (line : List ℕ) (b : Bool) → nat_eq o 10 ≡ b → (not b && is_open line) ≡ true → (o ≢ 10) × (is_open line ≡ true)
opened o line true is all = absurd (never all)
opened o line false is all = (λ (e : o ≡ 10). never (sym is ∙ ap (λ (n : ℕ). nat_eq n 10) e), all)

pub opens : (line : List ℕ) → is_open line ≡ true → IsOpen line
opens [] all = tt
opens (o ∷ line) all = let h = opened o line (nat_eq o 10) refl all in (h.0, opens line h.1)

damage : AreOfFrame (1 ∷ 63 ∷ 0 ∷ 0 ∷ [])
damage = record {
  each = All-cons IsOctet 1 (63 ∷ 0 ∷ 0 ∷ []) (omega arith)
      (All-cons IsOctet 63 (0 ∷ 0 ∷ []) (omega arith) (All-cons IsOctet 0 (0 ∷ []) (omega arith) (All-cons IsOctet 0 [] (omega arith) (All-nil IsOctet))));
  short = omega arith;
}

-- ---- rows

pub link_is_set_up : LinkIsSetUp
unfolding digits decode_pairs piped event_turn turn turns event_in lines_of line_in parts_of number_in lose_in damage_in drain_in command_in with_fields
    small_number_in params_in with_params_in call_in accept_in send_in interrupt_in saying_line entry_line frame_line refusal_line pumped frame_of read_of
    halves_of packed own_in facilities_of is_sealed fcs_of number_of divided low_bits add divisor
link_is_set_up = record {
  possible = (record { is_line = opens (codes "dte connect") refl; is_no_frame = tt; in_time = tt }, (tt, (tt, (tt, (tt, (tt, (tt, tt)))))));
  near = refl;
  far = refl;
  out = refl;
  back = refl;
}

pub lost_sabm_goes_again : LostSabmGoesAgain
unfolding digits decode_pairs piped event_turn turn turns event_in lines_of line_in parts_of number_in lose_in damage_in drain_in command_in with_fields
    small_number_in params_in with_params_in call_in accept_in send_in interrupt_in saying_line entry_line frame_line refusal_line pumped frame_of read_of
    halves_of packed own_in facilities_of is_sealed fcs_of number_of divided low_bits add divisor
lost_sabm_goes_again = record {
  possible = (
    record { is_line = opens (codes "dte connect") refl; is_no_frame = tt; in_time = tt },
    (
      tt,
      (
        record { is_line = opens (codes "t1 dte") refl; is_no_frame = tt; in_time = refl },
        (record { is_seen = refl; fits = damage }, (tt, (record { is_line = opens (codes "t1 dte") refl; is_no_frame = tt; in_time = refl }, (tt, tt)))),
      ),
    ),
  );
  near = refl;
  far = refl;
  out = refl;
  back = refl;
}

pub firing_has_to_wait : FiringHasToWait
unfolding digits decode_pairs piped event_turn turn turns event_in lines_of line_in parts_of number_in lose_in damage_in drain_in command_in with_fields
    small_number_in params_in with_params_in call_in accept_in send_in interrupt_in saying_line entry_line frame_line refusal_line pumped frame_of read_of
    halves_of packed own_in facilities_of is_sealed fcs_of number_of divided low_bits add divisor
firing_has_to_wait = λ may. never (sym may.in_time)

pub other_lines_do_nothing : OtherLinesDoNothing
unfolding digits decode_pairs piped event_turn turn turns event_in lines_of line_in parts_of number_in lose_in damage_in drain_in command_in with_fields
    small_number_in params_in with_params_in call_in accept_in send_in interrupt_in saying_line entry_line frame_line refusal_line pumped frame_of read_of
    halves_of packed own_in facilities_of is_sealed fcs_of number_of divided low_bits add divisor
other_lines_do_nothing = record {
  possible = (
    record { is_line = opens (codes "dce connect") refl; is_no_frame = tt; in_time = tt },
    (
      record { is_line = opens (codes "drain 1") refl; is_no_frame = tt; in_time = tt },
      (
        record { is_line = opens (codes "t1 dte") refl; is_no_frame = tt; in_time = refl },
        (record { is_line = opens (codes "dte connect") refl; is_no_frame = tt; in_time = tt }, (tt, tt)),
      ),
    ),
  );
  near = refl;
  far = refl;
  out = refl;
  back = refl;
}

pub message_arrives : MessageArrives
unfolding digits decode_pairs piped event_turn turn turns event_in lines_of line_in parts_of number_in lose_in damage_in drain_in command_in with_fields
    small_number_in params_in with_params_in call_in accept_in send_in interrupt_in saying_line entry_line frame_line refusal_line pumped frame_of read_of
    halves_of packed own_in facilities_of is_sealed fcs_of number_of divided low_bits add divisor
message_arrives = (refl, refl, refl, refl)
