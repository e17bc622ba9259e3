-- What octets read as, and the grammar of packets.
use Rattle.std.specs.Prelude.{◌≡◌, ◌<◌, ◌↔◌, ℕ, List, All, Ok, Err}
use Rattle.x25_packet.specs.Packet.{PlainPacket}
use Rattle.x25_packet.specs.Form.{PlainForm}
use Rattle.x25_packet.specs.Form.Spelling as form
use Rattle.x25_packet.specs.Grammar.{read_of}
use Rattle.x25_packet.specs.Spelling.{Spells}
use Rattle.x25_packet.specs.Reading.{packet_of}
use Rattle.x25_packet.specs.Reading.FirstError.{IsFirstError}
use Rattle.x25_packet.specs.declared.error.PacketError.{PacketError}
use Rattle.x25_packet.specs.declared.form.Forms.{Forms}

-- octets are read as a packet exactly where they spell it
abbrev pub ReadsWhatIsSpelled : Type 0
ReadsWhatIsSpelled = (most : ℕ) (v : PlainPacket) (octets : List ℕ) → All (λ octet. octet < 256) octets
    → (packet_of most octets ≡ Ok v) ↔ Spells most v octets

-- and so in any form
abbrev pub ReadsFormsThatAreSpelled : Type 0
ReadsFormsThatAreSpelled = (forms : Forms) (most : ℕ) (w : PlainForm) (octets : List ℕ)
    → All (λ octet. octet < 256) octets → (read_of forms most octets ≡ Ok w) ↔ form.Spells forms most w octets

-- and else as their first error
abbrev pub ReadsTheFirstError : Type 0
ReadsTheFirstError = (most : ℕ) (octets : List ℕ) (e : PacketError) → All (λ octet. octet < 256) octets
    → packet_of most octets ≡ Err e → IsFirstError most octets e
