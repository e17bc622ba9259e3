-- The definitions give the stored vectors.
use Rattle.hex.specs.Hex.{decode_pairs}
use Rattle.std.specs.{Fmt.{digits}, List.{list_all}}
use Rattle.x25_bits.specs.{FrameCheck.{fcs_of, number_of, low_bits, add, divisor, divided}, FrameCheck.Sealed.{is_sealed}}
use Rattle.x25_decode.{proofs.Names.{◌≡◌, true, refl, answer_to}, specs.TestVectors.{is_check_right, is_right, stored}}
use Rattle.x25_frame.specs.Reading.{frame_of}
use Rattle.x25_packet.specs.{Classes.{own_in}, Digits.{halves_of}, Facilities.{facilities_of}, Grammar.{read_of}}

pub check_right : is_check_right ≡ true
unfolding fcs_of number_of low_bits add divisor divided
check_right = refl

pub stored_right : list_all is_right stored ≡ true
unfolding digits stored answer_to decode_pairs is_sealed frame_of read_of halves_of own_in facilities_of fcs_of number_of low_bits add divisor divided
stored_right = refl
