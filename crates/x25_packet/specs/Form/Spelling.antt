-- The octets that spell a packet. ITU-T X.25 (10/96), section 5.
use Rattle.std.specs.Prelude.{ℕ, ◌+◌, ◌*◌, ◌/◌, ◌%◌, ◌<◌, ◌≤◌, ◌≡◌, ◌⊎◌, ◌==◌, ◌||◌, ◌&&◌, not, Bool, true, List, []}
use Rattle.std.specs.Prelude.{max, ◌∷◌, length}
use Rattle.std.specs.Prelude.{Option, Some, None}
use Rattle.x25_bits.specs.Bits.{bit}
use Rattle.x25_packet.specs.Block.{PlainBlock, PlainFields, block_octets, optional_octets, IsBlock, MayBeBlock, OfAny}
use Rattle.x25_packet.specs.declared.form.Forms.{Forms}
use Rattle.x25_packet.specs.declared.form.Forms.TheVariants.{Written, Any}
use Rattle.x25_packet.specs.Classes.{asks_fast_select}
use Rattle.x25_packet.specs.Form.{PlainKind, PlainForm, call, accept, clear, extended_clear, clear_conf}
use Rattle.x25_packet.specs.Form.{user_data, rr}
use Rattle.x25_packet.specs.Form.{rnr}
use Rattle.x25_packet.specs.Form.{rej, interrupt, interrupt_conf, reset, reset_conf, restart, restart_conf}
use Rattle.x25_packet.specs.Form.{diagnostic}
use Rattle.x25_packet.specs.Form.{registration, registration_conf}

-- Table 5-2: the packet type identifier, which is the third octet. Bit 1 is 0 for DATA alone.
abbrev pub type_of : PlainKind → ℕ
type_of (call block) = 11
type_of (accept block) = 15
type_of (clear cause reason) = 19
type_of (extended_clear cause reason block) = 19
type_of (clear_conf block) = 23
type_of (user_data m ps pr user) = 2 * ps + 16 * bit m + 32 * pr
type_of (rr pr) = 1 + 32 * pr
type_of (rnr pr) = 5 + 32 * pr
type_of (rej pr) = 9 + 32 * pr
type_of (interrupt user) = 35
type_of interrupt_conf = 39
type_of (reset cause reason) = 27
type_of reset_conf = 31
type_of (restart cause reason) = 251
type_of restart_conf = 255
type_of (diagnostic number explanation) = 241
type_of (registration octets) = 243
type_of (registration_conf octets) = 247

-- a cause, and the diagnostic that may follow it: sections 5.2.3, 5.4.3 and 5.5.1
abbrev pub reason_octets : ℕ → Option ℕ → List ℕ
reason_octets cause None = cause ∷ []
reason_octets cause (Some reason) = cause ∷ reason ∷ []

-- What follows the third octet, by A. CLEAR and its confirmation have a basic format, and an extended one with a block.
abbrev pub body_of : Bool → PlainKind → List ℕ
body_of a (call block) = block_octets a block
body_of a (accept block) = optional_octets a block
body_of a (clear cause reason) = reason_octets cause reason
body_of a (extended_clear cause reason block) = cause ∷ reason ∷ block_octets a block
body_of a (clear_conf block) = optional_octets a block
body_of a (user_data m ps pr user) = user
body_of a (interrupt user) = user
body_of a (reset cause reason) = reason_octets cause reason
body_of a (restart cause reason) = reason_octets cause reason
body_of a (diagnostic number explanation) = number ∷ explanation
body_of a (registration octets) = octets
body_of a (registration_conf octets) = octets
body_of a _ = []

-- The first octet: the general format identifier (section 5.1.1) and the channel's group. Bits 5 and 6 are 01 for
-- sequence numbers modulo 8, bit 7 is D, bit 8 is Q or A.
abbrev pub first_of : PlainForm → ℕ
first_of w = 128 * bit w.bit_8 + 64 * bit w.d + 16 + w.channel / 256

abbrev pub spelling_of : PlainForm → List ℕ
spelling_of w = first_of w ∷ w.channel % 256 ∷ type_of w.kind ∷ body_of w.bit_8 w.kind

-- ---- which values are packets

-- Q is of DATA, whose type is even, A of CALL, ACCEPT, CLEAR and CLEAR CONFIRMATION, D of DATA, CALL and ACCEPT:
-- section 5.1.1. A station writes neither A nor D (profile).
abbrev pub may_have : Forms → Bool → Bool → ℕ → Bool
may_have Written bit_8 d kind = (not bit_8 || kind % 2 == 0) && not d
may_have Any bit_8 d kind = (not bit_8 || kind % 2 == 0 || kind == 11 || kind == 15 || kind == 19 || kind == 23)
    && (not d || kind % 2 == 0 || kind == 11 || kind == 15)

-- RESTART, DIAGNOSTIC and REGISTRATION are of channel 0, all others of a logical channel: section 5.1.2
abbrev pub HasPlace : ℕ → PlainKind → Type 0
HasPlace channel (restart cause reason) = channel ≡ 0
HasPlace channel restart_conf = channel ≡ 0
HasPlace channel (diagnostic number explanation) = channel ≡ 0
HasPlace channel (registration octets) = channel ≡ 0
HasPlace channel (registration_conf octets) = channel ≡ 0
HasPlace channel _ = 1 ≤ channel

-- the user data of a CALL is no longer than this, or fast select is asked for
abbrev pub IsShort : ℕ → Option PlainFields → Type 0
IsShort most None = Unit {0}
IsShort most (Some f) = (length f.user ≤ most) ⊎ (asks_fast_select f.facilities ≡ true)

-- User data is at most 128 octets with fast select (section 6.16): called in ACCEPT, clear user data in CLEAR. Without
-- it a CALL has at most `most`, which is 16 in the standard.
abbrev pub IsCall : Forms → Bool → ℕ → PlainBlock → Type 0
IsCall Written a most block = IsBlock Written a most block
IsCall Any a most block = IsBlock Any a (max most 128) block × IsShort most block.fields

abbrev pub HasFacilities : Option PlainFields → Type 0
HasFacilities None = ⊥
HasFacilities (Some f) = 1 ≤ length f.facilities

-- a station writes no addresses and no user data in it, and no empty facility field (profile)
abbrev pub IsAnswer : Forms → Bool → Option PlainBlock → Type 0
IsAnswer Any a block = MayBeBlock Any a 128 block
IsAnswer Written a None = Unit {0}
IsAnswer Written a (Some b) = IsBlock Written a 0 b × (b.called ≡ 0) × (b.calling ≡ 0) × HasFacilities b.fields

-- which a station always writes
abbrev pub MayLack : Forms → Option ℕ → Type 0
MayLack forms None = OfAny forms (Unit {0})
MayLack forms (Some reason) = Unit {0}

abbrev pub IsCleared : Forms → Bool → Option PlainBlock → Type 0
IsCleared Written a block = block ≡ None
IsCleared Any a block = MayBeBlock Any a 0 block

abbrev pub IsKind : Forms → Bool → ℕ → PlainKind → Type 0
IsKind forms a most (call block) = IsCall forms a most block
IsKind forms a most (accept block) = IsAnswer forms a block
IsKind forms a most (clear cause reason) = MayLack forms reason
IsKind forms a most (extended_clear cause reason block) = OfAny forms (IsBlock Any a 128 block)
IsKind forms a most (clear_conf block) = IsCleared forms a block
IsKind forms a most (user_data m ps pr user) = (ps < 8) × (pr < 8) × (length user ≤ 4096)
IsKind forms a most (rr pr) = pr < 8
IsKind forms a most (rnr pr) = pr < 8
IsKind forms a most (rej pr) = OfAny forms (pr < 8)
IsKind forms a most (interrupt user) = (1 ≤ length user) × (length user ≤ 32)
IsKind forms a most (reset cause reason) = MayLack forms reason
IsKind forms a most (restart cause reason) = MayLack forms reason
IsKind forms a most (diagnostic number explanation) = OfAny forms (length explanation ≤ 3)
IsKind forms a most (registration octets) = OfAny forms (length octets ≤ 4096)
IsKind forms a most (registration_conf octets) = OfAny forms (length octets ≤ 4096)
IsKind forms a most _ = Unit {0}

pub record IsPacket (forms : Forms) (most : ℕ) (w : PlainForm) : Type 0 where
  pub channel : w.channel ≤ 4095
  pub place : HasPlace w.channel w.kind
  pub marks : may_have forms w.bit_8 w.d (type_of w.kind) ≡ true
  pub kind : IsKind forms w.bit_8 most w.kind

-- the octets spell the packet
pub record Spells (forms : Forms) (most : ℕ) (w : PlainForm) (octets : List ℕ) : Type 0 where
  pub packet : IsPacket forms most w
  pub spelling : octets ≡ spelling_of w
