-- What a packet is taken for is in its ranges.
use Rattle.x25_packet.proofs.Names.{ℕ, ◌+◌, ◌-◌, ◌<◌, ◌≤◌, ◌≡◌, Bool, true, false, List, [], length, refl, sym, subst, inl, inr, arith, Option, Some, None}
use Rattle.x25_packet.proofs.Names.{Result, Ok, Err, max, nat_le, ◌&&◌, and_parts, leb-true, IsAddress, halves_at, hold_digits, PacketError, Directions}
use Rattle.x25_packet.proofs.Names.{MayBeFields, PlainBlock, PlainFields, none_own, own_in, field_in, field_said, digits_behind, with_field, PlainKind, call}
use Rattle.x25_packet.proofs.Names.{accept, user_data, rr, rnr, rej, interrupt, restart, restart_conf, diagnostic, registration, registration_conf, HasPlace}
use Rattle.std.specs.Prelude.{if◌then◌else◌}
use Rattle.x25_packet.proofs.{AddressLaws.{address_at, block_when}, FacilityLaws.{chosen, ok_err, ok_same}, FieldLaws.{no_field}, Names.{IsKind, Own, Any}}
use Rattle.x25_packet.specs.{Block.{AreAddresses}, Narrowing.{are_within, field_taken, user_taken, called_taken, calling_taken}}
use Rattle.x25_packet.specs.Facilities as strict_field
use Rattle.x25_packet.specs.Packet as strict
use Rattle.x25_packet.specs.Spelling as strict_spelling

-- ---- the facility field

given : (least most : ℕ) (o : Option Directions) → are_within least most o ≡ true → strict_field.IfGiven o (strict_field.AreWithin least most)
given least most None h = tt
given least most (Some v) h =
    let parts = and_parts (strict_field.is_within least most v.called) (strict_field.is_within least most v.calling) h in
    let first = and_parts (nat_le least v.called) (nat_le v.called most) parts.0 in
    let second = and_parts (nat_le least v.calling) (nat_le v.calling most) parts.1 in
    record {
      called_least = leb-true _ _ first.0;
      called_most = leb-true _ _ first.1;
      calling_least = leb-true _ _ second.0;
      calling_most = leb-true _ _ second.1;
    }

said_fits : (own : Own) (field : List ℕ) → field_said own ≡ Ok field → strict_field.IsFacilityField field
said_fits own field e = elim (chosen (are_within 4 12 own.packet_size && are_within 1 7 own.window_size) _ _ _ e) [
  | inl p ↦
      let parts = and_parts (are_within 4 12 own.packet_size) (are_within 1 7 own.window_size) p.0 in (
        record { packet_size = own.packet_size; window_size = own.window_size },
        record { sizes = given 4 12 own.packet_size parts.0; windows = given 1 7 own.window_size parts.1 },
        sym (ok_same p.1),
      )
  | inr p ↦ absurd (ok_err p.1)
]

taken_fits : (f : Option PlainFields) (field : List ℕ) → field_taken f ≡ Ok field → strict_field.IsFacilityField field
taken_fits None field e = subst strict_field.IsFacilityField (ok_same e) no_field
taken_fits (Some f) field e = said_fits (own_in none_own 0 f.facilities) field e

nothing_fits : (field : List ℕ) → (let r : Result (List ℕ) PacketError = Ok [] in r ≡ Ok field) → strict_field.IsFacilityField field
nothing_fits field e = subst strict_field.IsFacilityField (ok_same e) no_field

pub field_fits : (k : PlainKind) (field : List ℕ) → field_in k ≡ Ok field → strict_field.IsFacilityField field
field_fits (call block) field e = taken_fits block.fields field e
field_fits (accept (Some block)) field e = taken_fits block.fields field e
field_fits k field e = nothing_fits field e

-- ---- the packet

user_few : (most : ℕ) (f : Option PlainFields) → most ≤ 128 → MayBeFields Any (max most 128) f → length (user_taken f) ≤ 128
user_few most None within h = omega arith
user_few most (Some f) within h = let short = h.short in omega arith

no_digits : IsAddress []
no_digits = record { short = omega arith; decimal = refl }

behind_address : (b : PlainBlock) (start count : ℕ) → AreAddresses true b → start + count ≤ b.called + b.calling → IsAddress (digits_behind b start count)
behind_address b start count h room = go _ refl
  where
    total : ℕ
    total = b.called + b.calling

    go : (are : Bool) → are ≡ (hold_digits total b.addresses && (nat_le 2 count && nat_le count 17))
        → IsAddress (if are then halves_at b.addresses (start + 2) (count - 2) else [])
    go true e =
        let parts = and_parts (hold_digits total b.addresses) (nat_le 2 count && nat_le count 17) (sym e) in
        let bounds = and_parts (nat_le 2 count) (nat_le count 17) parts.1 in
        let two : 2 ≤ count = leb-true _ _ bounds.0 in
        let few : count ≤ 17 = leb-true _ _ bounds.1 in
        let size = h.size in
        address_at total (start + 2) (count - 2) b.addresses (block_when total b.addresses parts.0) (omega arith) (omega arith)
    go false e = no_digits

called_address : (a : Bool) (b : PlainBlock) → AreAddresses a b → IsAddress (called_taken a b)
called_address true b h = behind_address b 0 b.called h (omega arith)
called_address false b h =
    let size = h.size in
    let few : b.called < 16 = h.called in
    address_at (b.called + b.calling) 0 b.called b.addresses (block_when (b.called + b.calling) b.addresses h.halves) (omega arith) (omega arith)

calling_address : (a : Bool) (b : PlainBlock) → AreAddresses a b → IsAddress (calling_taken a b)
calling_address true b h = behind_address b b.called b.calling h (omega arith)
calling_address false b h =
    let size = h.size in
    let few : b.calling < 16 = h.calling in
    address_at (b.called + b.calling) b.called b.calling b.addresses (block_when (b.called + b.calling) b.addresses h.halves) (omega arith) (omega arith)

abbrev pub InRange : Result strict.PlainPacket PacketError → Type 0
InRange (Ok v) = strict_spelling.IsInRange 128 v
InRange (Err e) = Unit {0}

pub in_range : (most channel : ℕ) (q d : Bool) (k : PlainKind) (field : List ℕ) → most ≤ 128 → channel ≤ 4095 → HasPlace channel k → IsKind Any q most k
    → strict_field.IsFacilityField field → InRange (with_field channel q d k field)
in_range most channel q d (call block) field within few place h f =
    ((place, few), called_address q block h.0.addresses, calling_address q block h.0.addresses, f, user_few most block.fields within h.0.fields)
in_range most channel q d (accept block) field within few place h f = ((place, few), f)
in_range most channel q d (user_data m ps pr user) field within few place h f = ((place, few), h.0, h.1, h.2)
in_range most channel q d (rr pr) field within few place h f = ((place, few), h)
in_range most channel q d (rnr pr) field within few place h f = ((place, few), h)
in_range most channel q d (rej pr) field within few place h f = tt
in_range most channel q d (interrupt user) field within few place h f = ((place, few), h.0, h.1)
in_range most channel q d (restart cause reason) field within few place h f = tt
in_range most channel q d restart_conf field within few place h f = tt
in_range most channel q d (diagnostic number explanation) field within few place h f = tt
in_range most channel q d (registration octets) field within few place h f = tt
in_range most channel q d (registration_conf octets) field within few place h f = tt
in_range most channel q d k field within few place h f = (place, few)
