-- What a station takes a packet for: one of those that it writes, or an error (profile).
use Rattle.std.specs.Prelude.{ℕ, ◌+◌, ◌-◌, ◌&&◌, nat_le, Bool, true, false, List, [], if◌then◌else◌, Option}
use Rattle.std.specs.Prelude.{Some, None, Result, Ok, Err}
use Rattle.x25_packet.specs.Digits.{halves_at, hold_digits}
use Rattle.x25_packet.specs.Facilities.{field_of, is_within}
use Rattle.x25_packet.specs.Packet.Plain as written
use Rattle.x25_packet.specs.declared.error.PacketError.{PacketError}
use Rattle.x25_packet.specs.declared.error.PacketError.TheVariants.{BadParameter, Unidentified}
use Rattle.x25_packet.specs.declared.facilities.Directions.{Directions}
use Rattle.x25_packet.specs.Block.{PlainBlock, PlainFields}
use Rattle.x25_packet.specs.Classes.{none_own, own_in}
use Rattle.x25_packet.specs.Form.{PlainKind, PlainForm, call, accept, clear, extended_clear, clear_conf}
use Rattle.x25_packet.specs.Form.{user_data, rr}
use Rattle.x25_packet.specs.Form.{rnr}
use Rattle.x25_packet.specs.Form.{rej, interrupt, interrupt_conf, reset, reset_conf, restart, restart_conf}
use Rattle.x25_packet.specs.Form.{diagnostic}
use Rattle.x25_packet.specs.Form.{registration, registration_conf}
use Rattle.x25_packet.specs.declared.classes.Own.{Own}

abbrev pub are_within : ℕ → ℕ → Option Directions → Bool
are_within least most None = true
are_within least most (Some values) = is_within least most values.called && is_within least most values.calling

-- packet sizes and window sizes, in the order of the profile
abbrev pub field_asked : Own → List ℕ
field_asked own = field_of (record { packet_size = own.packet_size; window_size = own.window_size })

-- values out of their ranges are an error as there
abbrev pub field_said : Own → Result (List ℕ) PacketError
field_said own = if are_within 4 12 own.packet_size && are_within 1 7 own.window_size
    then Ok (field_asked own) else Err BadParameter

-- the facilities before a marker that a station knows
abbrev pub field_taken : Option PlainFields → Result (List ℕ) PacketError
field_taken None = Ok []
field_taken (Some f) = field_said (own_in none_own 0 f.facilities)

-- the field of that, which was checked
abbrev pub field_shown : Option PlainFields → List ℕ
field_shown None = []
field_shown (Some f) = field_asked (own_in none_own 0 f.facilities)

abbrev pub user_taken : Option PlainFields → List ℕ
user_taken None = []
user_taken (Some f) = f.user

-- the facility field of what a packet is taken for
abbrev pub field_in : PlainKind → Result (List ℕ) PacketError
field_in (call block) = field_taken block.fields
field_in (accept (Some block)) = field_taken block.fields
field_in _ = Ok []

-- Of an address with its type and plan, which are its first two half octets, the digits behind these: where both
-- addresses are of digits alone, and it has at most 15. Else there is none.
abbrev pub digits_behind : PlainBlock → ℕ → ℕ → List ℕ
digits_behind b start count =
    if hold_digits (b.called + b.calling) b.addresses && (nat_le 2 count && nat_le count 17)
    then halves_at b.addresses (start + 2) (count - 2)
    else []

abbrev pub taken_at : Bool → PlainBlock → ℕ → ℕ → List ℕ
taken_at false b start count = halves_at b.addresses start count
taken_at true b start count = digits_behind b start count

abbrev pub called_taken : Bool → PlainBlock → List ℕ
called_taken a b = taken_at a b 0 b.called

abbrev pub calling_taken : Bool → PlainBlock → List ℕ
calling_taken a b = taken_at a b b.called b.calling

-- no diagnostic is taken for 0
abbrev pub reason_taken : Option ℕ → ℕ
reason_taken None = 0
reason_taken (Some reason) = reason

-- D is taken off but of DATA, and so are types and plans of addresses, and the addresses and user data of an answer;
-- what has no place in a station's table is unidentified, as it is there
abbrev pub with_field : ℕ → Bool → Bool → PlainKind → List ℕ → Result written.PlainPacket PacketError
with_field channel bit_8 d (call block) field =
    Ok (written.call channel (called_taken bit_8 block) (calling_taken bit_8 block) field (user_taken block.fields))
with_field channel bit_8 d (accept block) field = Ok (written.accept channel field)
with_field channel bit_8 d (clear cause reason) field = Ok (written.clear channel cause (reason_taken reason))
with_field channel bit_8 d (extended_clear cause reason block) field = Ok (written.clear channel cause reason)
with_field channel bit_8 d (clear_conf block) field = Ok (written.clear_conf channel)
with_field channel bit_8 d (user_data m ps pr user) field =
    Ok (written.user_data channel (record { q = bit_8; d = d }) m ps pr user)
with_field channel bit_8 d (rr pr) field = Ok (written.rr channel pr)
with_field channel bit_8 d (rnr pr) field = Ok (written.rnr channel pr)
with_field channel bit_8 d (interrupt user) field = Ok (written.interrupt channel user)
with_field channel bit_8 d interrupt_conf field = Ok (written.interrupt_conf channel)
with_field channel bit_8 d (reset cause reason) field = Ok (written.reset channel cause (reason_taken reason))
with_field channel bit_8 d reset_conf field = Ok (written.reset_conf channel)
with_field channel bit_8 d (restart cause reason) field = Ok (written.restart cause (reason_taken reason))
with_field channel bit_8 d restart_conf field = Ok written.restart_conf
with_field channel bit_8 d (rej pr) field = Err Unidentified
with_field channel bit_8 d (diagnostic number explanation) field = Err Unidentified
with_field channel bit_8 d (registration octets) field = Err Unidentified
with_field channel bit_8 d (registration_conf octets) field = Err Unidentified

abbrev pub narrowed : PlainForm → Result (List ℕ) PacketError → Result written.PlainPacket PacketError
narrowed w (Ok field) = with_field w.channel w.bit_8 w.d w.kind field
narrowed w (Err e) = Err e

abbrev pub narrow_of : PlainForm → Result written.PlainPacket PacketError
narrow_of w = narrowed w (field_in w.kind)

-- what octets are taken for
abbrev pub taken_of : Result PlainForm PacketError → Result written.PlainPacket PacketError
taken_of (Ok w) = narrow_of w
taken_of (Err e) = Err e
