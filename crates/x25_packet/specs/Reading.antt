-- What octets read as in the form of each packet that a station writes: the packet that they spell, or else their first
-- error.
use Rattle.std.specs.Prelude.{ℕ, ◌+◌, ◌*◌, ◌%◌, List, [], ◌∷◌, Option, Some, None, Result}
use Rattle.x25_packet.specs.declared.error.PacketError.{PacketError}
use Rattle.x25_packet.specs.declared.form.Forms.TheVariants.{Written}
use Rattle.x25_packet.specs.Narrowing.{taken_of}
use Rattle.x25_packet.specs.Packet.{PlainPacket}
use Rattle.x25_packet.specs.Grammar.{read_of}
pub mod FirstError

abbrev pub packet_of : ℕ → List ℕ → Result PlainPacket PacketError
packet_of most octets = taken_of (read_of Written most octets)

-- the channel that the first two octets name, in three octets or more
abbrev pub channel_in : List ℕ → Option ℕ
channel_in [] = None
channel_in (first ∷ []) = None
channel_in (first ∷ second ∷ []) = None
channel_in (first ∷ second ∷ kind ∷ body) = Some (first % 16 * 256 + second)
