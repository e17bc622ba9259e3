-- What a packet is read to: the packet as it is, or what a station takes it for.
use Rattle.std.specs.Prelude.{Result, Ok, Err, ◌≡◌}
use Rattle.x25_packet.specs.declared.error.PacketError.{PacketError}
use Rattle.x25_packet.specs.declared.made.Head.{Head}
use Rattle.x25_packet.specs.Form.{PlainKind, PlainForm}
use Rattle.x25_packet.specs.Grammar.{with_head}

abbrev pub head_with : Head → PlainKind → PlainForm
head_with head kind = record { channel = head.channel; bit_8 = head.bit_8; d = head.d; kind = kind }

-- this is the answer for what was read, or its error
abbrev pub Reads : {M : Type 0} → (Result M PacketError → PlainForm → Type 0) → Result M PacketError
    → Result PlainForm PacketError → Type 0
Reads gives r (Ok w) = gives r w
Reads gives r (Err e) = r ≡ Err e

-- and behind the head
abbrev pub Makes : {M : Type 0} → (Result M PacketError → PlainForm → Type 0) → Head → Result M PacketError
    → Result PlainKind PacketError → Type 0
Makes gives head r read = Reads gives r (with_head head.channel head.bit_8 head.d read)
