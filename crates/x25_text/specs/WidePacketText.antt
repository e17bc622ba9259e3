-- The text that a trace shows of a packet that has other forms than the one that a station writes (profile). Labels
-- stand where there is what they name, so that the text tells all octets.
use Rattle.std.specs.Prelude.{ℕ, Bool, true, false, List, [], ◌∷◌, ◌++◌, map, codes, decimal, Option, Some, None}
use Rattle.std.specs.Prelude.{Result, Ok, Err}
use Rattle.std.specs.Fmt.{digit_glyph}
use Rattle.x25_packet.specs.Packet.{PlainPacket}
use Rattle.x25_packet.specs.Reading.{packet_of}
use Rattle.x25_packet.specs.Spelling.{longest_user}
use Rattle.x25_packet.specs.declared.error.PacketError.{PacketError}
use Rattle.x25_packet.specs.Block.{PlainBlock, PlainFields, called_in, calling_in}
use Rattle.x25_packet.specs.Form.{PlainKind, PlainForm, call, accept, clear, extended_clear, clear_conf}
use Rattle.x25_packet.specs.Form.{user_data, rr}
use Rattle.x25_packet.specs.Form.{rnr, rej, interrupt, interrupt_conf, reset, reset_conf, restart, restart_conf}
use Rattle.x25_packet.specs.Form.{diagnostic, registration, registration_conf}
use Rattle.x25_packet.specs.Grammar.{form_in}
use Rattle.x25_text.specs.PacketText.{reason_text, addresses_text, fields_text, numbers_text, marks_text}
use Rattle.x25_text.specs.PacketText.{confirmation_text, packet_text}
use Rattle.x25_text.specs.PacketText.{packet_fault_text}
use Rattle.x25_text.specs.Text.{octets_text}

-- A, where it is set
abbrev pub format_text : Bool → List ℕ
format_text true = codes " A=1"
format_text false = []

abbrev pub wide_fields_text : Option PlainFields → List ℕ
wide_fields_text None = []
wide_fields_text (Some f) = fields_text f.facilities f.user

-- half octets as hexadecimal digits, `-` where there are none
abbrev pub halves_text : List ℕ → List ℕ
halves_text [] = codes "-"
halves_text (half ∷ halves) = map (λ h. digit_glyph false h) (half ∷ halves)

-- An address where A is 1: the type of address, the numbering plan and the digits, with a stroke behind each of the
-- first two. 47 is the stroke.
abbrev pub typed_text : List ℕ → List ℕ
typed_text [] = codes "-"
typed_text (type_of_address ∷ []) = digit_glyph false type_of_address ∷ []
typed_text (type_of_address ∷ plan ∷ digits) =
    digit_glyph false type_of_address ∷ 47 ∷ digit_glyph false plan ∷ 47 ∷ halves_text digits

abbrev pub typed_addresses_text : List ℕ → List ℕ → List ℕ
typed_addresses_text called calling = codes " called=" ++ typed_text called ++ codes " calling=" ++ typed_text calling

-- by A
abbrev pub block_text : Bool → PlainBlock → List ℕ
block_text false b = addresses_text (called_in b) (calling_in b) ++ wide_fields_text b.fields
block_text true b = typed_addresses_text (called_in b) (calling_in b) ++ wide_fields_text b.fields

abbrev pub optional_block_text : Bool → Option PlainBlock → List ℕ
optional_block_text a None = []
optional_block_text a (Some b) = block_text a b

abbrev pub wide_reason_text : ℕ → Option ℕ → List ℕ
wide_reason_text cause None = codes " cause=" ++ decimal cause
wide_reason_text cause (Some reason) = reason_text cause reason

-- by its channel, its Q or A, and its D
abbrev pub kind_text : ℕ → Bool → Bool → PlainKind → List ℕ
kind_text channel a d (call block) = codes "CALL ch=" ++ decimal channel ++ format_text a ++ confirmation_text d
    ++ block_text a block
kind_text channel a d (accept block) = codes "ACCEPT ch=" ++ decimal channel ++ format_text a ++ confirmation_text d
    ++ optional_block_text a block
kind_text channel a d (clear cause reason) = codes "CLEAR ch=" ++ decimal channel ++ format_text a
    ++ wide_reason_text cause reason
kind_text channel a d (extended_clear cause reason block) = codes "CLEAR ch=" ++ decimal channel ++ format_text a
    ++ reason_text cause reason ++ block_text a block
kind_text channel a d (clear_conf block) = codes "CLEARCONF ch=" ++ decimal channel ++ format_text a
    ++ optional_block_text a block
kind_text channel q d (user_data m ps pr user) = codes "DATA ch=" ++ decimal channel ++ numbers_text ps pr
    ++ marks_text m q
    ++ confirmation_text d ++ (codes " data=" ++ octets_text user)
kind_text channel q d (rr pr) = codes "RR ch=" ++ decimal channel ++ (codes " R=" ++ decimal pr)
kind_text channel q d (rnr pr) = codes "RNR ch=" ++ decimal channel ++ (codes " R=" ++ decimal pr)
kind_text channel q d (rej pr) = codes "REJ ch=" ++ decimal channel ++ (codes " R=" ++ decimal pr)
kind_text channel q d (interrupt user) = codes "INT ch=" ++ decimal channel ++ (codes " data=" ++ octets_text user)
kind_text channel q d interrupt_conf = codes "INTCONF ch=" ++ decimal channel
kind_text channel q d (reset cause reason) = codes "RESET ch=" ++ decimal channel ++ wide_reason_text cause reason
kind_text channel q d reset_conf = codes "RESETCONF ch=" ++ decimal channel
kind_text channel q d (restart cause reason) = codes "RESTART" ++ wide_reason_text cause reason
kind_text channel q d restart_conf = codes "RESTARTCONF"
kind_text channel q d (diagnostic number explanation) = codes "DIAG diag=" ++ decimal number
    ++ (codes " expl=" ++ octets_text explanation)
kind_text channel q d (registration octets) = codes "REG data=" ++ octets_text octets
kind_text channel q d (registration_conf octets) = codes "REGCONF data=" ++ octets_text octets

abbrev pub wide_packet_text : PlainForm → List ℕ
wide_packet_text w = kind_text w.channel w.bit_8 w.d w.kind ++ codes " ~ wide"

abbrev pub wide_or_fault_text : Result PlainForm PacketError → List ℕ
wide_or_fault_text (Ok w) = wide_packet_text w
wide_or_fault_text (Err error) = packet_fault_text error

-- a packet in the form that a station writes, and else what the octets are in any form
abbrev pub either_text : Result PlainPacket PacketError → Result PlainForm PacketError → List ℕ
either_text (Ok v) wide = packet_text v
either_text (Err error) wide = wide_or_fault_text wide

-- what stands behind the bar of an I frame
abbrev pub wide_information_text : Bool → List ℕ → List ℕ
wide_information_text long_data octets = either_text (packet_of (longest_user long_data) octets)
    (form_in (longest_user long_data) octets)
