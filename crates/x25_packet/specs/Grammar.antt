-- What octets read as, in the form of each packet that a station writes or in any: the packet that they spell, or else
-- their first error, from the front. ITU-T X.25 (10/96), section 5; the order of the errors is of the profile.
use Rattle.std.specs.Prelude.{ℕ, ◌+◌, ◌*◌, ◌/◌, ◌%◌, ◌==◌, ◌&&◌, ◌||◌, nat_lt, nat_le, Bool, not, true, false, List}
use Rattle.std.specs.Prelude.{max}
use Rattle.std.specs.Prelude.{[], ◌∷◌, length, take, drop, if◌then◌else◌, Option, Some, None, Result, Ok, Err, ◌≡◌}
use Rattle.x25_packet.specs.declared.error.PacketError.{PacketError}
use Rattle.x25_packet.specs.declared.error.PacketError.TheVariants.{TooShort, BadFormat, Unidentified, TooLong}
use Rattle.x25_packet.specs.declared.error.PacketError.TheVariants.{BadDigit, BadParameter}
use Rattle.x25_packet.specs.Block.{PlainBlock, PlainFields, hold_addresses}
use Rattle.x25_packet.specs.Facilities.{facilities_of}
use Rattle.x25_packet.specs.Classes.{are_facilities, asks_fast_select}
use Rattle.x25_packet.specs.Form.{PlainKind, PlainForm, call, accept, clear, extended_clear, clear_conf}
use Rattle.x25_packet.specs.Form.{user_data, rr}
use Rattle.x25_packet.specs.Form.{rnr}
use Rattle.x25_packet.specs.Form.{rej, interrupt, interrupt_conf, reset, reset_conf, restart, restart_conf}
use Rattle.x25_packet.specs.Form.{diagnostic}
use Rattle.x25_packet.specs.Form.{registration, registration_conf}
use Rattle.x25_packet.specs.Form.Spelling.{may_have}
use Rattle.x25_packet.specs.declared.form.Forms.{Forms}
use Rattle.x25_packet.specs.declared.form.Forms.TheVariants.{Written, Any}

-- an answer is what the octets read as
abbrev pub Gives : {A B : Type 0} → (A → B) → Result A PacketError → Result B PacketError → Type 0
Gives plain (Ok v) read = read ≡ Ok (plain v)
Gives plain (Err e) read = read ≡ Err e

abbrev pub mapped : {A B : Type 0} → (A → B) → Result A PacketError → Result B PacketError
mapped f (Ok v) = Ok (f v)
mapped f (Err e) = Err e

-- nothing is wrong so far
abbrev pub when : {A : Type 0} → Result (Unit {0}) PacketError → Result A PacketError → Result A PacketError
when (Ok done) next = next
when (Err e) next = Err e

-- ---- addresses, facilities and user data

abbrev pub is_over : Forms → ℕ → Bool
is_over Written size = false
is_over Any size = nat_lt 109 size

abbrev pub field_read : Forms → List ℕ → Result (Unit {0}) PacketError
field_read Written field = mapped (λ facilities. tt) (facilities_of field)
field_read Any field = if are_facilities 0 field then Ok tt else Err BadParameter

abbrev pub no_fields : Forms → Result (Option PlainFields) PacketError
no_fields Written = Err TooShort
no_fields Any = Ok None

abbrev pub fields_of : Forms → ℕ → List ℕ → Result (Option PlainFields) PacketError
fields_of forms most [] = no_fields forms
fields_of forms most (size ∷ rest) =
    if is_over forms size then Err TooLong
    else if nat_lt (length rest) size then Err TooShort
    else when (field_read forms (take size rest)) (if nat_lt most (length (drop size rest)) then Err TooLong
    else Ok (Some (record { facilities = take size rest; user = drop size rest })))

abbrev pub with_addresses : ℕ → ℕ → List ℕ → Result (Option PlainFields) PacketError → Result PlainBlock PacketError
with_addresses called calling addresses (Ok fields) =
    Ok (record { called = called; calling = calling; addresses = addresses; fields = fields })
with_addresses called calling addresses (Err e) = Err e

-- behind the lengths
abbrev pub addressed : Forms → Bool → ℕ → ℕ → ℕ → List ℕ → Result PlainBlock PacketError
addressed forms a most called calling octets =
    let size = (called + calling + 1) / 2 in
    if nat_lt (length octets) size then Err TooShort
    else if not (hold_addresses a (called + calling) (take size octets)) then Err BadDigit
    else with_addresses called calling (take size octets) (fields_of forms most (drop size octets))

abbrev pub block_of : Forms → Bool → ℕ → List ℕ → Result PlainBlock PacketError
block_of forms false most [] = Err TooShort
block_of forms false most (lengths ∷ octets) = addressed forms false most (lengths % 16) (lengths / 16) octets
block_of forms true most [] = Err TooShort
block_of forms true most (called ∷ []) = Err TooShort
block_of forms true most (called ∷ calling ∷ octets) = addressed forms true most called calling octets

abbrev pub optional_block : Forms → Bool → ℕ → List ℕ → Result (Option PlainBlock) PacketError
optional_block forms a most [] = Ok None
optional_block forms a most (octet ∷ rest) = mapped Some (block_of forms a most (octet ∷ rest))

-- ---- bodies

-- a packet that ends with its type
abbrev pub bare : PlainKind → List ℕ → Result PlainKind PacketError
bare kind [] = Ok kind
bare kind (octet ∷ rest) = Err TooLong

-- user data of a CALL: more than `most` octets with fast select alone, and then 128 at most
abbrev pub is_short : ℕ → Option PlainFields → Bool
is_short most None = true
is_short most (Some f) = nat_le (length f.user) most || asks_fast_select f.facilities

abbrev pub called : ℕ → Result PlainBlock PacketError → Result PlainKind PacketError
called most (Ok block) = if is_short most block.fields then Ok (call block) else Err TooLong
called most (Err e) = Err e

abbrev pub call_of : Forms → Bool → ℕ → List ℕ → Result PlainKind PacketError
call_of Written a most body = mapped call (block_of Written a most body)
call_of Any a most body = called most (block_of Any a (max most 128) body)

-- a station writes address lengths of 0 in an ACCEPT, and some facilities (profile)
abbrev pub written_answer : List ℕ → Result (Unit {0}) PacketError
written_answer [] = Ok tt
written_answer (lengths ∷ []) = if lengths == 0 then Ok tt else Err BadDigit
written_answer (lengths ∷ size ∷ rest) =
    if lengths == 0 then (if size == 0 then Err BadParameter else Ok tt) else Err BadDigit

abbrev pub answer_read : Forms → List ℕ → Result (Unit {0}) PacketError
answer_read Written body = written_answer body
answer_read Any body = Ok tt

abbrev pub answer_most : Forms → ℕ
answer_most Written = 0
answer_most Any = 128

abbrev pub accept_of : Forms → Bool → List ℕ → Result PlainKind PacketError
accept_of forms a body = when (answer_read forms body) (mapped accept (optional_block forms a (answer_most forms) body))

abbrev pub cause_alone : Forms → ℕ → Result (ℕ × Option ℕ) PacketError
cause_alone Written cause = Err TooShort
cause_alone Any cause = Ok (cause, None)

-- a cause, and the diagnostic that may follow it
abbrev pub reason_of : Forms → List ℕ → Result (ℕ × Option ℕ) PacketError
reason_of forms [] = Err TooShort
reason_of forms (cause ∷ []) = cause_alone forms cause
reason_of forms (cause ∷ reason ∷ []) = Ok (cause, Some reason)
reason_of forms (cause ∷ reason ∷ octet ∷ rest) = Err TooLong

abbrev pub caused : (ℕ → Option ℕ → PlainKind) → Result (ℕ × Option ℕ) PacketError → Result PlainKind PacketError
caused kind (Ok (cause, reason)) = Ok (kind cause reason)
caused kind (Err e) = Err e

abbrev pub extended_of : Forms → Bool → ℕ → ℕ → List ℕ → Result PlainKind PacketError
extended_of Written a cause reason octets = Err TooLong
extended_of Any a cause reason octets = mapped (extended_clear cause reason) (block_of Any a 128 octets)

abbrev pub clear_of : Forms → Bool → List ℕ → Result PlainKind PacketError
clear_of forms a [] = Err TooShort
clear_of forms a (cause ∷ []) = caused clear (cause_alone forms cause)
clear_of forms a (cause ∷ reason ∷ []) = Ok (clear cause (Some reason))
clear_of forms a (cause ∷ reason ∷ octet ∷ rest) = extended_of forms a cause reason (octet ∷ rest)

abbrev pub clear_conf_of : Forms → Bool → List ℕ → Result PlainKind PacketError
clear_conf_of Written a body = bare (clear_conf None) body
clear_conf_of Any a body = mapped clear_conf (optional_block Any a 0 body)

abbrev pub interrupt_of : List ℕ → Result PlainKind PacketError
interrupt_of [] = Err TooShort
interrupt_of (octet ∷ rest) =
    if nat_le (length (octet ∷ rest)) 32 then Ok (interrupt (octet ∷ rest)) else Err TooLong

abbrev pub data_of : ℕ → List ℕ → Result PlainKind PacketError
data_of kind user = if nat_le (length user) 4096
    then Ok (user_data (kind / 16 % 2 == 1) (kind / 2 % 8) (kind / 32) user)
    else Err TooLong

abbrev pub diagnostic_of : List ℕ → Result PlainKind PacketError
diagnostic_of [] = Err TooShort
diagnostic_of (number ∷ explanation) =
    if nat_le (length explanation) 3 then Ok (diagnostic number explanation) else Err TooLong

-- REGISTRATION is kept as octets, no more than a data packet has (profile)
abbrev pub registered : List ℕ → Result (List ℕ) PacketError
registered octets = if nat_le (length octets) 4096 then Ok octets else Err TooLong

abbrev pub rej_of : Forms → ℕ → List ℕ → Result PlainKind PacketError
rej_of Written pr body = Err Unidentified
rej_of Any pr body = bare (rej pr) body

-- ---- by the type

-- on channel 0, of packets that a station doesn't write
abbrev pub unwritten : ℕ → List ℕ → Result PlainKind PacketError
unwritten kind body =
    if kind == 241 then diagnostic_of body
    else if kind == 243 then mapped registration (registered body)
    else if kind == 247 then mapped registration_conf (registered body)
    else Err Unidentified

abbrev pub others : Forms → ℕ → List ℕ → Result PlainKind PacketError
others Written kind body = Err Unidentified
others Any kind body = unwritten kind body

-- on channel 0
abbrev pub unchannelled : Forms → ℕ → List ℕ → Result PlainKind PacketError
unchannelled forms kind body =
    if kind == 251 then caused restart (reason_of forms body)
    else if kind == 255 then bare restart_conf body
    else others forms kind body

-- by a type without a number
abbrev pub named : Forms → Bool → ℕ → ℕ → List ℕ → Result PlainKind PacketError
named forms a most kind body =
    if kind == 11 then call_of forms a most body
    else if kind == 15 then accept_of forms a body
    else if kind == 19 then clear_of forms a body
    else if kind == 23 then clear_conf_of forms a body
    else if kind == 35 then interrupt_of body
    else if kind == 39 then bare interrupt_conf body
    else if kind == 27 then caused reset (reason_of forms body)
    else if kind == 31 then bare reset_conf body
    else Err Unidentified

-- on a channel, but for data
abbrev pub without_data : Forms → Bool → ℕ → ℕ → List ℕ → Result PlainKind PacketError
without_data forms a most kind body =
    if kind % 32 == 1 then bare (rr (kind / 32)) body
    else if kind % 32 == 5 then bare (rnr (kind / 32)) body
    else if kind % 32 == 9 then rej_of forms (kind / 32) body
    else named forms a most kind body

-- on a channel
abbrev pub channelled : Forms → Bool → ℕ → ℕ → List ℕ → Result PlainKind PacketError
channelled forms a most kind body =
    if kind % 2 == 0 then data_of kind body else without_data forms a most kind body

abbrev pub kind_of : Forms → Bool → ℕ → ℕ → ℕ → List ℕ → Result PlainKind PacketError
kind_of forms a most channel kind body =
    if channel == 0 then unchannelled forms kind body else channelled forms a most kind body

-- modulo 8, and Q, A and D where they may be
abbrev pub has_format : Forms → ℕ → ℕ → Bool
has_format forms first kind = first / 16 % 4 == 1 && may_have forms (first / 128 == 1) (first / 64 % 2 == 1) kind

abbrev pub with_head : ℕ → Bool → Bool → Result PlainKind PacketError → Result PlainForm PacketError
with_head channel bit_8 d (Ok kind) = Ok (record { channel = channel; bit_8 = bit_8; d = d; kind = kind })
with_head channel bit_8 d (Err e) = Err e

unfoldable pub read_of : Forms → ℕ → List ℕ → Result PlainForm PacketError
read_of forms most [] = Err TooShort
read_of forms most (first ∷ []) = Err TooShort
read_of forms most (first ∷ second ∷ []) = Err TooShort
read_of forms most (first ∷ second ∷ kind ∷ body) =
    if has_format forms first kind
    then with_head (first % 16 * 256 + second) (first / 128 == 1) (first / 64 % 2 == 1)
    (kind_of forms (first / 128 == 1) most (first % 16 * 256 + second) kind body)
    else Err BadFormat

-- in any form
abbrev pub form_in : ℕ → List ℕ → Result PlainForm PacketError
form_in most octets = read_of Any most octets
