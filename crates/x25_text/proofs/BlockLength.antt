-- What has no user data has at most 128 octets of it.
use Rattle.x25_text.proofs.Names.{arith, Bool, Option, Some, None}
use Rattle.x25_packet.specs.{Block.{PlainBlock, PlainFields, MayBeFields, MayBeBlock}, declared.form.Forms.TheVariants.{Any}}

fields_with : (f : Option PlainFields) → MayBeFields Any 0 f → MayBeFields Any 128 f
fields_with None h = tt
fields_with (Some f) h = record { facilities = h.facilities; few = h.few; short = (let none = h.short in omega arith) }

pub with_user_data : (a : Bool) (b : Option PlainBlock) → MayBeBlock Any a 0 b → MayBeBlock Any a 128 b
with_user_data a None h = tt
with_user_data a (Some b) h = record { addresses = h.addresses; fields = fields_with b.fields h.fields }
