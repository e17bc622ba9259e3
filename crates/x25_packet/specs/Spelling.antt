-- The octets that spell a packet. ITU-T X.25 (10/96), sections 5.1 to 5.5.
use Rattle.std.specs.Prelude.{ℕ, ◌+◌, ◌*◌, ◌/◌, ◌%◌, ◌<◌, ◌≤◌, ◌≡◌, List, [], ◌∷◌, ◌++◌, length, Bool, false}
use Rattle.std.specs.Prelude.{if◌then◌else◌}
pub use Rattle.x25_bits.specs.Bits.{bit}
use Rattle.x25_packet.specs.Packet.{PlainPacket, call, accept, clear, clear_conf, user_data, rr, rnr, interrupt}
use Rattle.x25_packet.specs.Packet.{interrupt_conf, reset, reset_conf, restart, restart_conf}
use Rattle.x25_packet.specs.Digits.{packed, IsAddress}
use Rattle.x25_packet.specs.Facilities.{IsFacilityField}

-- Section 5.1.2 and 5.1.3: RESTART and its confirmation are of channel 0.
abbrev pub channel_of : PlainPacket → ℕ
channel_of (call channel called calling facilities user) = channel
channel_of (accept channel facilities) = channel
channel_of (clear channel cause diagnostic) = channel
channel_of (clear_conf channel) = channel
channel_of (user_data channel marks m ps pr user) = channel
channel_of (rr channel pr) = channel
channel_of (rnr channel pr) = channel
channel_of (interrupt channel user) = channel
channel_of (interrupt_conf channel) = channel
channel_of (reset channel cause diagnostic) = channel
channel_of (reset_conf channel) = channel
channel_of (restart cause diagnostic) = 0
channel_of restart_conf = 0

-- a packet of a channel, as all but RESTART and its confirmation are
abbrev pub HasChannel : PlainPacket → Type 0
HasChannel (restart cause diagnostic) = ⊥
HasChannel restart_conf = ⊥
HasChannel _ = Unit {0}

-- the same packet on this channel
abbrev pub moved_to : ℕ → PlainPacket → PlainPacket
moved_to to (call channel called calling facilities user) = call to called calling facilities user
moved_to to (accept channel facilities) = accept to facilities
moved_to to (clear channel cause diagnostic) = clear to cause diagnostic
moved_to to (clear_conf channel) = clear_conf to
moved_to to (user_data channel marks m ps pr user) = user_data to marks m ps pr user
moved_to to (rr channel pr) = rr to pr
moved_to to (rnr channel pr) = rnr to pr
moved_to to (interrupt channel user) = interrupt to user
moved_to to (interrupt_conf channel) = interrupt_conf to
moved_to to (reset channel cause diagnostic) = reset to cause diagnostic
moved_to to (reset_conf channel) = reset_conf to
moved_to to v = v

-- Section 5.1.1: the general format identifier, bits 5 to 8 of the first octet. It is 1 for sequence numbers modulo 8;
-- of a data packet bit 8 is the qualifier, and bit 7 asks for confirmation of its delivery; else both are 0 (profile).
abbrev pub format_of : PlainPacket → ℕ
format_of (user_data channel marks m ps pr user) = 1 + 4 * bit marks.d + 8 * bit marks.q
format_of _ = 1

-- Table 5-2: the packet type identifier, which is the third octet
abbrev pub type_of : PlainPacket → ℕ
type_of (call channel called calling facilities user) = 11
type_of (accept channel facilities) = 15
type_of (clear channel cause diagnostic) = 19
type_of (clear_conf channel) = 23
type_of (user_data channel marks m ps pr user) = 2 * ps + 16 * bit m + 32 * pr
type_of (rr channel pr) = 1 + 32 * pr
type_of (rnr channel pr) = 5 + 32 * pr
type_of (interrupt channel user) = 35
type_of (interrupt_conf channel) = 39
type_of (reset channel cause diagnostic) = 27
type_of (reset_conf channel) = 31
type_of (restart cause diagnostic) = 251
type_of restart_conf = 255

-- The address block of a CALL: the lengths, the calling one in the high half, and the digits, the called ones first.
-- Section 5.2.1.
abbrev pub addresses : List ℕ → List ℕ → List ℕ
addresses called calling = (16 * length calling + length called) ∷ packed (called ++ calling)

-- The body of a CALL: addresses, the facility field behind its length, and the user data. Section 5.2.1.
abbrev pub call_body : List ℕ → List ℕ → List ℕ → List ℕ → List ℕ
call_body called calling facilities user = addresses called calling ++ (length facilities ∷ facilities ++ user)

-- The body of an ACCEPT: nothing, or address lengths of 0 and the facility field behind its length (profile).
abbrev pub accept_body : List ℕ → List ℕ
accept_body [] = []
accept_body (octet ∷ facilities) = 0 ∷ length (octet ∷ facilities) ∷ octet ∷ facilities

-- what follows the third octet
abbrev pub body_of : PlainPacket → List ℕ
body_of (call channel called calling facilities user) = call_body called calling facilities user
body_of (accept channel facilities) = accept_body facilities
body_of (clear channel cause diagnostic) = cause ∷ diagnostic ∷ []
body_of (user_data channel marks m ps pr user) = user
body_of (interrupt channel user) = user
body_of (reset channel cause diagnostic) = cause ∷ diagnostic ∷ []
body_of (restart cause diagnostic) = cause ∷ diagnostic ∷ []
body_of _ = []

-- the first three octets: format and channel group, channel number, type
abbrev pub header_of : PlainPacket → List ℕ
header_of v = (16 * format_of v + channel_of v / 256) ∷ (channel_of v % 256) ∷ type_of v ∷ []

-- all octets of the packet
abbrev pub spelling_of : PlainPacket → List ℕ
spelling_of v = header_of v ++ body_of v

abbrev pub IsChannel : ℕ → Type 0
IsChannel channel = (1 ≤ channel) × (channel ≤ 4095)

-- The most octets of user data in a CALL: 16 (section 5.2.1), and where it may be long 128, as with fast select
-- (section
-- 6.16), but without that facility (profile).
abbrev pub longest_user : Bool → ℕ
longest_user long_data = if long_data then 128 else 16

-- the fields are in their ranges, with at most `most` octets of user data in a CALL
abbrev pub IsInRange : ℕ → PlainPacket → Type 0
IsInRange most (call channel called calling facilities user) = IsChannel channel × IsAddress called × IsAddress calling
    × IsFacilityField facilities × (length user ≤ most)
IsInRange most (accept channel facilities) = IsChannel channel × IsFacilityField facilities
IsInRange most (clear channel cause diagnostic) = IsChannel channel
IsInRange most (clear_conf channel) = IsChannel channel
IsInRange most (user_data channel marks m ps pr user) = IsChannel channel × (ps < 8) × (pr < 8) × (length user ≤ 4096)
IsInRange most (rr channel pr) = IsChannel channel × (pr < 8)
IsInRange most (rnr channel pr) = IsChannel channel × (pr < 8)
IsInRange most (interrupt channel user) = IsChannel channel × (1 ≤ length user) × (length user ≤ 32)
IsInRange most (interrupt_conf channel) = IsChannel channel
IsInRange most (reset channel cause diagnostic) = IsChannel channel
IsInRange most (reset_conf channel) = IsChannel channel
IsInRange most (restart cause diagnostic) = Unit {0}
IsInRange most restart_conf = Unit {0}

-- no confirmation is asked
abbrev pub IsWithoutD : PlainPacket → Type 0
IsWithoutD (user_data channel marks m ps pr user) = marks.d ≡ false
IsWithoutD _ = Unit {0}

-- the octets spell the packet, which has no D (profile)
pub record Spells (most : ℕ) (v : PlainPacket) (octets : List ℕ) : Type 0 where
  pub in_range : IsInRange most v
  pub without_d : IsWithoutD v
  pub spelling : octets ≡ spelling_of v
