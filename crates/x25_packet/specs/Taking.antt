-- What a station takes octets for: what the packet in any form is taken for (profile).
use Rattle.std.specs.Prelude.{ℕ, Bool, true, false, List, Option, IfSome, Result}
use Rattle.x25_packet.specs.Packet.{PlainPacket}
use Rattle.x25_packet.specs.Reading.{packet_of}
use Rattle.x25_packet.specs.declared.error.PacketError.{PacketError}
use Rattle.x25_packet.specs.Narrowing.{taken_of}
use Rattle.x25_packet.specs.declared.form.Form.{Form}
use Rattle.x25_packet.specs.Form.{plain}
use Rattle.x25_packet.specs.Grammar.{Gives, form_in}

abbrev pub taken_in : ℕ → List ℕ → Result PlainPacket PacketError
taken_in most octets = taken_of (form_in most octets)

-- what octets are read to in any form, where that is asked
abbrev pub IsFormOf : ℕ → List ℕ → Option (Result Form PacketError) → Type 0
IsFormOf most octets form = IfSome form (λ read. Gives plain read (form_in most octets))

-- what a station reads octets as: in the form that it writes alone, or in any
abbrev pub read_in : Bool → ℕ → List ℕ → Result PlainPacket PacketError
read_in false most octets = packet_of most octets
read_in true most octets = taken_in most octets
