-- What octets bring beside the packet that a station takes them for (profile): the fields of a call and of its clearing
-- that have no place in that packet, and the code of a DIAGNOSTIC.
use Rattle.std.specs.Prelude.{ℕ, ◌+◌, ◌≤◌, nat_lt, Bool, true, false, List, [], length, if◌then◌else◌}
use Rattle.std.specs.Prelude.{Option, Some}
use Rattle.std.specs.Prelude.{None, Result, Ok, Err}
use Rattle.x25_packet.specs.Packet.{PlainPacket}
use Rattle.x25_packet.specs.Reading.{packet_of}
use Rattle.x25_packet.specs.declared.error.PacketError.{PacketError}
use Rattle.x25_packet.specs.Block.{PlainBlock, PlainFields}
use Rattle.x25_packet.specs.Form.{PlainKind, PlainForm, call, accept, extended_clear, clear_conf, diagnostic}
use Rattle.x25_packet.specs.declared.form.Form.{Form}
use Rattle.x25_packet.specs.Form.{plain}
use Rattle.x25_packet.specs.Grammar.{Gives, form_in}
use Rattle.x25_station.specs.declared.beside.Beside.{Beside}
use Rattle.x25_station.specs.declared.beside.Beside.TheVariants as code

pub data PlainBeside : Type 0 where
  nothing : PlainBeside
  fields : List ℕ → List ℕ → PlainBeside
  diagnosed : ℕ → PlainBeside

abbrev pub plain_beside : Beside → PlainBeside
plain_beside code.Nothing = nothing
plain_beside (code.Fields f) = fields f.facilities.now f.user.now
plain_beside (code.Diagnostic number) = diagnosed number

-- fields that aren't both empty
abbrev pub of_fields : Option PlainFields → PlainBeside
of_fields None = nothing
of_fields (Some f) = if nat_lt 0 (length f.facilities + length f.user) then fields f.facilities f.user else nothing

abbrev pub of_block : Option PlainBlock → PlainBeside
of_block None = nothing
of_block (Some block) = of_fields block.fields

-- the user data of a CALL is told with it
abbrev pub without_user : Option PlainFields → Option PlainFields
without_user None = None
without_user (Some f) = Some (record { facilities = f.facilities; user = [] })

-- in a form that a station doesn't write
abbrev pub beside_kind : PlainKind → PlainBeside
beside_kind (call block) = of_fields (without_user block.fields)
beside_kind (accept block) = of_block block
beside_kind (extended_clear cause reason block) = of_fields block.fields
beside_kind (clear_conf block) = of_block block
beside_kind (diagnostic number explanation) = diagnosed number
beside_kind _ = nothing

abbrev pub beside_or_none : Result PlainForm PacketError → PlainBeside
beside_or_none (Ok w) = beside_kind w.kind
beside_or_none (Err e) = nothing

abbrev pub unless_written : Result PlainPacket PacketError → PlainBeside → PlainBeside
unless_written (Ok v) beside = nothing
unless_written (Err e) beside = beside

-- where a station reads packets in the form that it writes alone, or in any; how long the user data of a CALL may be is
-- judged where the packet is read
abbrev pub beside_in : Bool → List ℕ → PlainBeside
beside_in false octets = nothing
beside_in true octets = unless_written (packet_of 128 octets) (beside_or_none (form_in 128 octets))

-- octets are read to this in any form, with so much user data in a CALL or less
abbrev pub IsReadShorter : Result Form PacketError → List ℕ → Type 0
IsReadShorter form octets = (most : ℕ) × (most ≤ 128) × Gives plain form (form_in most octets)

-- sections 7.1 and 6.16
abbrev pub AreFew : PlainBeside → Type 0
AreFew (fields facilities user) = (length facilities ≤ 109) × (length user ≤ 128)
AreFew _ = Unit {0}
