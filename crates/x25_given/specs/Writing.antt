-- The octets of a packet with what is given beside it. ITU-T X.25 (10/96), sections 5.2.1 to 5.2.3.
use Rattle.std.specs.Prelude.{ℕ, ◌+◌, ◌*◌, ◌/◌, ◌%◌, Bool, false, List, [], ◌∷◌, ◌++◌}
use Rattle.std.specs.Prelude.{length, Option, Some, None, Result, Ok, Err}
use Rattle.x25_bits.specs.Bits.{bit}
use Rattle.x25_packet.specs.Digits.{packed}
use Rattle.x25_packet.specs.Packet.{PlainPacket, call, accept, clear}
use Rattle.x25_packet.specs.Reading.{packet_of}
use Rattle.x25_packet.specs.Spelling as plain
use Rattle.x25_packet.specs.declared.error.PacketError.{PacketError}
use Rattle.x25_packet.specs.Block.{PlainBlock, PlainFields}
use Rattle.x25_packet.specs.Form.{PlainKind, PlainForm}
use Rattle.x25_packet.specs.Form as wide
use Rattle.x25_packet.specs.Form.Spelling.{spelling_of}
use Rattle.x25_given.specs.Given.{PlainGiven}

abbrev pub fields : List ℕ → List ℕ → PlainFields
fields facilities user = record { facilities = facilities; user = user }

-- without addresses
abbrev pub bare_block : PlainFields → PlainBlock
bare_block f = record { called = 0; calling = 0; addresses = []; fields = Some f }

abbrev pub call_block : List ℕ → List ℕ → PlainFields → PlainBlock
call_block called calling f = record {
  called = length called;
  calling = length calling;
  addresses = packed (called ++ calling);
  fields = Some f;
}

abbrev pub headed : ℕ → Bool → PlainKind → PlainForm
headed channel d kind = record { channel = channel; bit_8 = false; d = d; kind = kind }

-- the first three octets of such a packet: bits 5 and 6 are 01, bit 7 is D, bit 8 is 0 (section 5.1.1)
abbrev pub head_of : Bool → ℕ → ℕ → List ℕ
head_of d channel kind = (128 * bit false + 64 * bit d + 16 + channel / 256) ∷ channel % 256 ∷ kind ∷ []

-- the packet in the form in which what is given has a place: that of CALL, ACCEPT and CLEAR, of which CLEAR has no D
abbrev pub form_of : PlainGiven → PlainPacket → Option PlainForm
form_of g (call channel called calling field user) =
    Some (headed channel g.d (wide.call (call_block called calling (fields (field ++ g.facilities) user))))
form_of g (accept channel field) =
    Some (headed channel g.d (wide.accept (Some (bare_block (fields (field ++ g.facilities) g.user)))))
form_of g (clear channel cause diagnostic) =
    Some (headed channel false (wide.extended_clear cause diagnostic (bare_block (fields g.facilities g.user))))
form_of g v = None

abbrev pub spelled_as : List ℕ → Option PlainForm → List ℕ
spelled_as octets None = octets
spelled_as octets (Some w) = spelling_of w

-- all other packets are as they are
abbrev pub written : PlainGiven → PlainPacket → List ℕ
written g v = spelled_as (plain.spelling_of v) (form_of g v)

-- the same of octets, which stay as they are where they spell no packet
abbrev pub written_read : PlainGiven → List ℕ → Result PlainPacket PacketError → List ℕ
written_read g octets (Ok v) = written g v
written_read g octets (Err e) = octets

abbrev pub write : PlainGiven → List ℕ → List ℕ
write g octets = written_read g octets (packet_of 128 octets)
