-- A packet whose fields fit is read again from its octets.
use Rattle.x25_station.proofs.Names.{◌≡◌, ℕ, ◌+◌, ◌*◌, ◌%◌, ◌<◌, ◌≤◌, List, [], ◌∷◌, ◌++◌, length, Option, Some, None, Ok, Bool, true, false, not, ◌||◌, refl}
use Rattle.x25_station.proofs.Names.{sym, ap, subst, ◌∙◌, arith, length-append, ◌/◌, and_parts, leb-true, All-append, list_all-append, list_all, bit, is_digit}
use Rattle.x25_station.proofs.Names.{packed, IsAddress, IsFacilityField, restart_conf, PlainPacket, call, accept, clear, clear_conf, user_data, rr, rnr}
use Rattle.x25_station.proofs.Names.{interrupt, interrupt_conf, reset, reset_conf, restart, spelling_of, IsInRange, longest_user, channel_of, HasChannel}
use Rattle.x25_station.proofs.Names.{body_of, header_of, IsWithoutD, read_in, ReadsWhatIsSpelled, TakesWhatIsSpelled, may_mark, AreOctets, IsReadable}
use Rattle.std.{proofs.lemmas.List.Elements.{All-nil, All-cons}, specs.Prelude.{◌&&◌}}
use Rattle.x25_packet.specs.{Facilities.{facility, field_of, AreWithin, IfGiven}, Spelling.{moved_to, format_of, type_of, call_body, accept_body}}
use Rattle.x25_packet.specs.declared.facilities.Directions.{Directions}

abbrev pub IsOctet : ℕ → Type 0
IsOctet octet = octet < 256

-- with as much user data of a CALL as it may have
abbrev pub Fits : Bool → Bool → PlainPacket → Type 0
Fits wide long_data (call h called calling facilities user) =
    IsAddress called × IsAddress calling × IsFacilityField facilities × (length user ≤ longest_user long_data) × AreOctets user
Fits wide long_data (accept h facilities) = IsFacilityField facilities
Fits wide long_data (clear h cause diagnostic) = (cause < 256) × (diagnostic < 256)
Fits wide long_data (clear_conf h) = Unit {0}
Fits wide long_data (user_data h q m ps pr user) = (ps < 8) × (pr < 8) × (length user ≤ 4096) × AreOctets user × (may_mark wide q ≡ true)
Fits wide long_data (rr h pr) = pr < 8
Fits wide long_data (rnr h pr) = pr < 8
Fits wide long_data (interrupt h user) = (1 ≤ length user) × (length user ≤ 32) × AreOctets user
Fits wide long_data (interrupt_conf h) = Unit {0}
Fits wide long_data (reset h cause diagnostic) = (cause < 256) × (diagnostic < 256)
Fits wide long_data (reset_conf h) = Unit {0}
Fits wide long_data (restart cause diagnostic) = (cause < 256) × (diagnostic < 256)
Fits wide long_data restart_conf = Unit {0}

-- of one of 4,095 channels, where it is of one
abbrev pub IsOn : PlainPacket → Type 0
IsOn p = HasChannel p → (1 ≤ channel_of p) × (channel_of p ≤ 4095)

pub moved_fits : (wide long_data : Bool) (h : ℕ) (p : PlainPacket) → Fits wide long_data p → Fits wide long_data (moved_to h p)
moved_fits wide long_data h (call k called calling facilities user) f = f
moved_fits wide long_data h p f = f

pub moved_on : (h : ℕ) (p : PlainPacket) → HasChannel p → 1 ≤ h → h ≤ 4095 → IsOn (moved_to h p)
moved_on h (restart cause diagnostic) has low high there = absurd has
moved_on h restart_conf has low high there = absurd has
moved_on h p has low high there = (low, high)

-- ---- in range

in_range : (wide long_data : Bool) (p : PlainPacket) → Fits wide long_data p → IsOn p → IsInRange (longest_user long_data) p
in_range wide long_data (call h called calling facilities user) f on = (on tt, f.0, f.1, f.2, f.3)
in_range wide long_data (accept h facilities) f on = (on tt, f)
in_range wide long_data (user_data h q m ps pr user) f on = (on tt, f.0, f.1, f.2)
in_range wide long_data (rr h pr) f on = (on tt, f)
in_range wide long_data (rnr h pr) f on = (on tt, f)
in_range wide long_data (interrupt h user) f on = (on tt, f.0, f.1)
in_range wide long_data (restart cause diagnostic) f on = tt
in_range wide long_data restart_conf f on = tt
in_range wide long_data p f on = on tt

-- ---- octets

pub no_octets : AreOctets []
no_octets = All-nil IsOctet

pub octets_more : (a : ℕ) (xs : List ℕ) → a < 256 → AreOctets xs → AreOctets (a ∷ xs)
octets_more a xs low all = All-cons IsOctet a xs low all

pub two : (a b : ℕ) → a < 256 → b < 256 → AreOctets (a ∷ b ∷ [])
two a b low high = octets_more a (b ∷ []) low (octets_more b [] high no_octets)

pub bit_low : (b : Bool) → bit b ≤ 1
bit_low true = omega arith
bit_low false = omega arith

pub packed_octets : (digits : List ℕ) → list_all is_digit digits ≡ true → AreOctets (packed digits)
unfolding packed
packed_octets [] all = no_octets
packed_octets (high ∷ []) all =
    let small : high ≤ 9 = leb-true high 9 (and_parts (is_digit high) true all).0 in
    octets_more (16 * high) [] (omega (arith, small)) no_octets
packed_octets (high ∷ low ∷ digits) all =
    let parts = and_parts (is_digit high) (is_digit low && list_all is_digit digits) all in
    let more = and_parts (is_digit low) (list_all is_digit digits) parts.1 in
    let small : high ≤ 9 = leb-true high 9 parts.0 in
    let small_low : low ≤ 9 = leb-true low 9 more.0 in
    octets_more (16 * high + low) (packed digits) (omega (arith, small, small_low)) (packed_octets digits more.1)

pub length_packed : (digits : List ℕ) → length (packed digits) ≡ (length digits + 1) / 2
unfolding packed
length_packed [] = refl
length_packed (high ∷ []) = refl
length_packed (high ∷ low ∷ digits) = let rest = length_packed digits in omega arith

-- a facility is three octets or none, and each is low
facility_octets : (code least most : ℕ) (values : Option Directions) → code < 256 → most < 256 → IfGiven values (AreWithin least most)
    → AreOctets (facility code values)
facility_octets code least most None low high within = no_octets
facility_octets code least most (Some values) low high within =
    octets_more code (values.called ∷ values.calling ∷ []) low
    (two values.called values.calling (omega (arith, within.called_most, high)) (omega (arith, within.calling_most, high)))

facility_short : (code : ℕ) (values : Option Directions) → length (facility code values) ≤ 3
facility_short code None = omega arith
facility_short code (Some values) = omega arith

pub field_octets : (field : List ℕ) → IsFacilityField field → AreOctets field
field_octets field is =
    subst AreOctets (sym is.2)
    (All-append IsOctet (facility 66 is.0.packet_size) (facility 67 is.0.window_size)
    (facility_octets 66 4 12 is.0.packet_size (omega arith) (omega arith) is.1.sizes)
    (facility_octets 67 1 7 is.0.window_size (omega arith) (omega arith) is.1.windows))

pub field_short : (field : List ℕ) → IsFacilityField field → length field ≤ 6
field_short field is =
    subst (λ (x : List ℕ). length x ≤ 6) (sym is.2)
    (let a : length (field_of is.0) ≡ length (facility 66 is.0.packet_size)
    + length (facility 67 is.0.window_size) = length-append (facility 66 is.0.packet_size) (facility 67 is.0.window_size) in
    let b : length (facility 66 is.0.packet_size) ≤ 3 = facility_short 66 is.0.packet_size in
    let d : length (facility 67 is.0.window_size) ≤ 3 = facility_short 67 is.0.window_size in
    omega (arith, a, b, d))

call_octets : (called calling facilities user : List ℕ) → IsAddress called → IsAddress calling → IsFacilityField facilities → AreOctets user
    → AreOctets (call_body called calling facilities user)
call_octets called calling facilities user a b field octets =
    let few : length facilities ≤ 6 = field_short facilities field in
    let both : list_all is_digit (called ++ calling) ≡ true =
    list_all-append is_digit called calling ∙ ap (λ (x : Bool). x && list_all is_digit calling) a.decimal ∙ b.decimal in
    octets_more (16 * length calling + length called) (packed (called ++ calling) ++ (length facilities ∷ facilities ++ user)) (omega (arith, a.short, b.short))
    (All-append IsOctet (packed (called ++ calling)) (length facilities ∷ facilities ++ user) (packed_octets (called ++ calling) both)
    (octets_more (length facilities) (facilities ++ user) (omega (arith, few)) (All-append IsOctet facilities user (field_octets facilities field) octets)))

accept_octets : (facilities : List ℕ) → IsFacilityField facilities → AreOctets (accept_body facilities)
accept_octets [] field = no_octets
accept_octets (octet ∷ facilities) field =
    let few : length (octet ∷ facilities) ≤ 6 = field_short (octet ∷ facilities) field in
    octets_more 0 (length (octet ∷ facilities) ∷ octet ∷ facilities) (omega arith)
    (octets_more (length (octet ∷ facilities)) (octet ∷ facilities) (omega (arith, few)) (field_octets (octet ∷ facilities) field))

body_octets : (wide long_data : Bool) (p : PlainPacket) → Fits wide long_data p → AreOctets (body_of p)
body_octets wide long_data (call h called calling facilities user) f = call_octets called calling facilities user f.0 f.1 f.2 f.4
body_octets wide long_data (accept h facilities) f = accept_octets facilities f
body_octets wide long_data (clear h cause diagnostic) f = two cause diagnostic f.0 f.1
body_octets wide long_data (user_data h q m ps pr user) f = f.3
body_octets wide long_data (interrupt h user) f = f.2
body_octets wide long_data (reset h cause diagnostic) f = two cause diagnostic f.0 f.1
body_octets wide long_data (restart cause diagnostic) f = two cause diagnostic f.0 f.1
body_octets wide long_data p f = no_octets

-- ---- header

format_low : (p : PlainPacket) → format_of p ≤ 13
format_low (user_data h q m ps pr user) = let b : bit q.q ≤ 1 = bit_low q.q in let d : bit q.d ≤ 1 = bit_low q.d in omega (arith, b, d)
format_low p = omega arith

type_low : (wide long_data : Bool) (p : PlainPacket) → Fits wide long_data p → type_of p < 256
type_low wide long_data (user_data h q m ps pr user) f = let b : bit m ≤ 1 = bit_low m in omega (arith, b, f.0, f.1)
type_low wide long_data (rr h pr) f = omega (arith, f)
type_low wide long_data (rnr h pr) f = omega (arith, f)
type_low wide long_data p f = omega arith

channel_low : (p : PlainPacket) → IsOn p → channel_of p ≤ 4095
channel_low (restart cause diagnostic) on = omega arith
channel_low restart_conf on = omega arith
channel_low p on = (on tt).1

header_octets : (wide long_data : Bool) (p : PlainPacket) → Fits wide long_data p → IsOn p → AreOctets (header_of p)
header_octets wide long_data p f on =
    let h : channel_of p ≤ 4095 = channel_low p on in
    let first : format_of p ≤ 13 = format_low p in
    octets_more (16 * format_of p + channel_of p / 256) (channel_of p % 256 ∷ type_of p ∷ [])
    (let e : 16 * format_of p + channel_of p / 256 < 256 = omega (arith, h, first) in e)
    (octets_more (channel_of p % 256) (type_of p ∷ []) (let e : channel_of p % 256 < 256 = omega (arith, h) in e)
    (octets_more (type_of p) [] (type_low wide long_data p f) no_octets))

-- ---- length

accept_short : (facilities : List ℕ) → length facilities ≤ 6 → length (accept_body facilities) ≤ 4096
accept_short [] few = omega arith
accept_short (octet ∷ facilities) few = omega (arith, few)

pub user_short : (long_data : Bool) → longest_user long_data ≤ 128
user_short true = omega arith
user_short false = omega arith

body_short : (wide long_data : Bool) (p : PlainPacket) → Fits wide long_data p → length (body_of p) ≤ 4096
body_short wide long_data (call h called calling facilities user) f =
    let a : length (packed (called ++ calling)) ≡ (length (called ++ calling) + 1) / 2 = length_packed (called ++ calling) in
    let b : length (called ++ calling) ≡ length called + length calling = length-append called calling in
    let d : length (packed (called ++ calling) ++ (length facilities ∷ facilities ++ user)) ≡ length (packed (called ++ calling))
    + length (length facilities ∷ facilities ++ user) =
    length-append (packed (called ++ calling)) (length facilities ∷ facilities ++ user) in
    let e : length (facilities ++ user) ≡ length facilities + length user = length-append facilities user in
    let few : length facilities ≤ 6 = field_short facilities f.2 in
    let short = user_short long_data in
    omega (arith, a, b, d, e, few, f.0.short, f.1.short, f.3, short)
body_short wide long_data (accept h facilities) f = accept_short facilities (field_short facilities f)
body_short wide long_data (user_data h q m ps pr user) f = f.2
body_short wide long_data (interrupt h user) f = omega (arith, f.1)
body_short wide long_data p f = omega arith

-- ---- reading

without_d : (long_data : Bool) (p : PlainPacket) → Fits false long_data p → IsWithoutD p
without_d long_data (call h called calling facilities user) f = tt
without_d long_data (accept h facilities) f = tt
without_d long_data (clear h cause diagnostic) f = tt
without_d long_data (clear_conf h) f = tt
without_d long_data (user_data h q m ps pr user) f = by q.d f.4
  where
    by : (d : Bool) → (not d || false) ≡ true → d ≡ false
    by true may = absurd (cc)
    by false may = refl
without_d long_data (rr h pr) f = tt
without_d long_data (rnr h pr) f = tt
without_d long_data (interrupt h user) f = tt
without_d long_data (interrupt_conf h) f = tt
without_d long_data (reset h cause diagnostic) f = tt
without_d long_data (reset_conf h) f = tt
without_d long_data (restart cause diagnostic) f = tt
without_d long_data restart_conf f = tt

pub readable : ReadsWhatIsSpelled → TakesWhatIsSpelled → (wide long_data : Bool) (p : PlainPacket) → Fits wide long_data p → IsOn p
    → IsReadable wide long_data p
readable reads spelled wide long_data p f on =
    let short : length (body_of p) ≤ 4096 = body_short wide long_data p f in
    record {
      in_range = in_range wide long_data p f on;
      octets = octets wide f;
      short = omega (arith, short);
      reads = by wide f;
      reads_in_all = in_all wide f;
    }
  where
    octets : (b : Bool) → Fits b long_data p → AreOctets (spelling_of p)
    octets b f = All-append IsOctet (header_of p) (body_of p) (header_octets b long_data p f on) (body_octets b long_data p f)

    in_all : (b : Bool) → Fits b long_data p → read_in true (longest_user long_data) (spelling_of p) ≡ Ok p
    in_all b f = spelled (longest_user long_data) p (user_short long_data) (octets b f) (in_range b long_data p f on)

    by : (b : Bool) → Fits b long_data p → read_in b (longest_user long_data) (spelling_of p) ≡ Ok p
    by true f = in_all true f
    by false f =
        (reads (longest_user long_data) p (spelling_of p) (octets false f)).1
        (record { in_range = in_range false long_data p f on; without_d = without_d long_data p f; spelling = refl })
