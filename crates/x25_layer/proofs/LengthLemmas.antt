-- How many octets spell a packet at most.
use Rattle.x25_layer.proofs.Names.{◌≡◌, ℕ, ◌+◌, ◌≤◌, List, [], ◌∷◌, ◌++◌, length, length-append, Option, Some, None, ap, ◌∙◌, arith, PlainPacket, call, accept}
use Rattle.x25_layer.proofs.Names.{user_data, interrupt, ◌*◌, IsFacilityField, spelling_of}
use Rattle.x25_circuit.specs.code.FitsCircuit.{user_octets}
use Rattle.x25_packet.specs.{Digits.{packed, IsAddress}, Facilities.{facility}, Spelling.{addresses, call_body, accept_body, IsInRange}}
use Rattle.x25_packet.specs.declared.facilities.Directions.{Directions}

pub packed_short : (digits : List ℕ) → 2 * length (packed digits) ≤ length digits + 1
unfolding packed
packed_short [] = omega arith
packed_short (high ∷ []) = omega arith
packed_short (high ∷ low ∷ digits) = let e = packed_short digits in omega (arith, e)

facility_short : (code : ℕ) (o : Option Directions) → length (facility code o) ≤ 3
facility_short code None = omega arith
facility_short code (Some d) = omega arith

pub field_short : (field : List ℕ) → IsFacilityField field → length field ≤ 6
field_short field is =
    let a = facility_short 66 is.0.packet_size in
    let b = facility_short 67 is.0.window_size in
    let e : length field ≡ length (facility 66 is.0.packet_size) + length (facility 67 is.0.window_size) =
    ap length is.2 ∙ length-append (facility 66 is.0.packet_size) (facility 67 is.0.window_size) in
    omega (arith, a, b, e)

pub call_short : (called calling facilities user : List ℕ) → IsAddress called → IsAddress calling → IsFacilityField facilities
    → length (call_body called calling facilities user) ≤ 23 + length user
call_short called calling facilities user a b f =
    let d = packed_short (called ++ calling) in
    let e = length-append called calling in
    let g = field_short facilities f in
    let h = length-append (addresses called calling) (length facilities ∷ facilities ++ user) in
    let i = length-append facilities user in
    let j = a.short in
    let k = b.short in
    omega (arith, d, e, g, h, i, j, k)

pub accept_short : (facilities : List ℕ) → IsFacilityField facilities → length (accept_body facilities) ≤ 32
accept_short [] f = omega arith
accept_short (octet ∷ facilities) f = let g = field_short (octet ∷ facilities) f in omega (arith, g)

-- a packet that brings no user data for a message
pub spelled_short : (p : PlainPacket) → IsInRange 128 p → user_octets p ≡ [] → length (spelling_of p) ≤ 260
spelled_short (call channel called calling facilities user) is none =
    let low = call_short called calling facilities user is.1 is.2 is.3 in let few : length user ≤ 128 = is.4 in omega (arith, low, few)
spelled_short (accept channel facilities) is none = let low = accept_short facilities is.1 in omega (arith, low)
spelled_short (user_data channel marks m ps pr user) is none = let empty : length user ≡ 0 = ap (λ (xs : List ℕ). length xs) none in omega (arith, empty)
spelled_short (interrupt channel user) is none = let low : length user ≤ 32 = is.2 in omega (arith, low)
spelled_short p is none = omega arith

-- any packet
pub spelled_long : (p : PlainPacket) → IsInRange 128 p → length (spelling_of p) ≤ 4099
spelled_long (call channel called calling facilities user) is =
    let low = call_short called calling facilities user is.1 is.2 is.3 in let few : length user ≤ 128 = is.4 in omega (arith, low, few)
spelled_long (accept channel facilities) is = let low = accept_short facilities is.1 in omega (arith, low)
spelled_long (user_data channel marks m ps pr user) is = let low : length user ≤ 4096 = is.3 in omega (arith, low)
spelled_long (interrupt channel user) is = let low : length user ≤ 32 = is.2 in omega (arith, low)
spelled_long p is = omega arith
