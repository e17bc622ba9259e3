-- What is spelled as a packet is read so.
use Rattle.x25_packet.proofs.Names.{ℕ, ◌+◌, ◌*◌, ◌/◌, ◌%◌, ◌<◌, ◌≤◌, ◌≡◌, ◌∙◌, Bool, true, false, List, [], ◌∷◌, ◌++◌, length, take, drop, refl, ap, inl, inr}
use Rattle.x25_packet.proofs.Names.{arith, nat_eq, nat_lt, Option, Some, None, Ok, length-append, max, nat_le, ◌||◌, le-leb, le-ltb, ne_eqb, bit, Facilities}
use Rattle.x25_packet.proofs.Names.{Forms, Written, Any, PlainFields, PlainBlock, fields_octets, block_octets, optional_octets, IsField, MayBeFields, IsBlock}
use Rattle.x25_packet.proofs.Names.{MayBeBlock, facilities_of, PlainKind, PlainForm, call, accept, clear, extended_clear, clear_conf, user_data, rr, rnr, rej}
use Rattle.x25_packet.proofs.Names.{interrupt, interrupt_conf, reset, reset_conf, restart, restart_conf, diagnostic, registration, registration_conf, type_of}
use Rattle.x25_packet.proofs.Names.{body_of, spelling_of, reason_octets, may_have, HasFacilities, HasPlace, IsAnswer, IsShort, IsKind, IsPacket, MayLack}
use Rattle.x25_packet.proofs.Names.{Spells, when, mapped, is_over, field_read, fields_of, with_addresses, addressed, block_of, optional_block, is_short, called}
use Rattle.x25_packet.proofs.Names.{call_of, written_answer, accept_of, reason_of, caused, clear_of, clear_conf_of, interrupt_of, unchannelled, channelled}
use Rattle.std.proofs.lemmas.List.{take_at, drop_at}
use Rattle.x25_packet.proofs.{FacilityLaws.{facilities_again}, FacilityLemmas.{field_again}, Names.{kind_of, with_head, read_of}}
use Rattle.x25_packet.specs.Form.Spelling.{first_of, IsCall, IsCleared}

-- ---- addresses, facilities and user data

field_read_again : (forms : Forms) (field : List ℕ) → IsField forms field → field_read forms field ≡ Ok tt
field_read_again Written field (facilities, allowed, e) = ap (λ (f : List ℕ). mapped (λ (facilities : Facilities). tt) (facilities_of f)) e
    ∙ ap (mapped (λ (facilities : Facilities). tt)) (facilities_again facilities allowed)
field_read_again Any field f = rw (field_again field f) refl

not_over : (forms : Forms) (size : ℕ) → size ≤ 109 → is_over forms size ≡ false
not_over Written size few = refl
not_over Any size few = le-ltb _ _ few

fields_again : (forms : Forms) (most : ℕ) (f : Option PlainFields) → MayBeFields forms most f → fields_of forms most (fields_octets f) ≡ Ok f
fields_again Written most None h = absurd h
fields_again Any most None h = refl
fields_again forms most (Some f) h =
    let size : length (f.facilities ++ f.user) ≡ length f.facilities + length f.user = length-append f.facilities f.user in
    let few : is_over forms (length f.facilities) ≡ false = not_over forms _ h.few in
    let room : nat_lt (length (f.facilities ++ f.user)) (length f.facilities) ≡ false = le-ltb _ _ (omega arith) in
    let field : take (length f.facilities) (f.facilities ++ f.user) ≡ f.facilities = take_at f.facilities f.user (length f.facilities) refl in
    let user : drop (length f.facilities) (f.facilities ++ f.user) ≡ f.user = drop_at f.facilities f.user (length f.facilities) refl in
    let whole : field_read forms f.facilities ≡ Ok tt = field_read_again forms f.facilities h.facilities in
    let short : nat_lt most (length f.user) ≡ false = le-ltb _ _ h.short in
    rw (few, room, field, user, whole, short) refl

addressed_again : (forms : Forms) (a : Bool) (most : ℕ) (b : PlainBlock) → IsBlock forms a most b
    → addressed forms a most b.called b.calling (b.addresses ++ fields_octets b.fields) ≡ Ok b
addressed_again forms a most b h =
    let tail = fields_octets b.fields in
    let count = b.called + b.calling in
    let size : length b.addresses ≡ (count + 1) / 2 = h.addresses.size in
    let whole : length (b.addresses ++ tail) ≡ length b.addresses + length tail = length-append b.addresses tail in
    let room : nat_lt (length (b.addresses ++ tail)) ((count + 1) / 2) ≡ false = le-ltb _ _ (omega arith) in
    let front : take ((count + 1) / 2) (b.addresses ++ tail) ≡ b.addresses = take_at b.addresses tail ((count + 1) / 2) size in
    let rest : drop ((count + 1) / 2) (b.addresses ++ tail) ≡ tail = drop_at b.addresses tail ((count + 1) / 2) size in
    rw (room, front, rest, h.addresses.halves) (ap (with_addresses b.called b.calling b.addresses) (fields_again forms most b.fields h.fields))

block_again : (forms : Forms) (a : Bool) (most : ℕ) (b : PlainBlock) → IsBlock forms a most b → block_of forms a most (block_octets a b) ≡ Ok b
block_again forms true most b h = addressed_again forms true most b h
block_again forms false most b h =
    let low = h.addresses.called in
    let first : (16 * b.calling + b.called) % 16 ≡ b.called = omega arith in
    let second : (16 * b.calling + b.called) / 16 ≡ b.calling = omega arith in
    rw (first, second) (addressed_again forms false most b h)

optional_again : (forms : Forms) (a : Bool) (most : ℕ) (b : Option PlainBlock) → MayBeBlock forms a most b → optional_block forms a most (optional_octets a b)
    ≡ Ok b
optional_again forms a most None h = refl
optional_again forms true most (Some b) h = ap (mapped Some) (block_again forms true most b h)
optional_again forms false most (Some b) h = ap (mapped Some) (block_again forms false most b h)

-- ---- by the type

short_again : (most : ℕ) (f : Option PlainFields) → IsShort most f → is_short most f ≡ true
short_again most None h = refl
short_again most (Some f) (inl few) = rw (le-leb _ _ few) refl
short_again most (Some f) (inr fast) = rw fast (always (nat_le (length f.user) most))
  where
    always : (b : Bool) → (b || true) ≡ true
    always true = refl
    always false = refl

call_again : (forms : Forms) (a : Bool) (most : ℕ) (b : PlainBlock) → IsCall forms a most b → call_of forms a most (block_octets a b) ≡ Ok (call b)
call_again Written a most b h = ap (mapped call) (block_again Written a most b h)
call_again Any a most b h = ap (called most) (block_again Any a (max most 128) b h.0) ∙ rw (short_again most b.fields h.1) refl

-- an ACCEPT that a station writes
answer_again : (b : PlainBlock) → b.called ≡ 0 → b.calling ≡ 0 → IsBlock Written false 0 b → HasFacilities b.fields → written_answer (block_octets false b)
    ≡ Ok tt
answer_again b called calling h some = by b.addresses (let size = h.addresses.size in omega (arith, called, calling, size)) b.fields some
  where
    lengths : 16 * b.calling + b.called ≡ 0
    lengths = omega (arith, called, calling)

    by : (addresses : List ℕ) → length addresses ≡ 0 → (f : Option PlainFields) → HasFacilities f
        → written_answer ((16 * b.calling + b.called) ∷ addresses ++ fields_octets f) ≡ Ok tt
    by (octet ∷ rest) none f some = absurd (omega (arith, none))
    by [] none None some = absurd some
    by [] none (Some f) some =
        let more : nat_eq (length f.facilities) 0 ≡ false = ne_eqb _ _ (λ e. absurd (omega (arith, e, some))) in
        rw (lengths, more) refl

accept_again : (forms : Forms) (a d : Bool) (b : Option PlainBlock) → may_have forms a d 15 ≡ true → IsAnswer forms a b
    → accept_of forms a (optional_octets a b) ≡ Ok (accept b)
accept_again Written true d b marks h = let bad : false ≡ true = marks in absurd (cc)
accept_again Written false d None marks h = refl
accept_again Written false d (Some b) marks h =
    ap (λ r. when r (mapped accept (optional_block Written false 0 (block_octets false b)))) (answer_again b h.1 h.2 h.0 h.3)
    ∙ ap (mapped accept) (optional_again Written false 0 (Some b) h.0)
accept_again Any a d b marks h = ap (mapped accept) (optional_again Any a 128 b h)

interrupt_again : (user : List ℕ) → 1 ≤ length user → length user ≤ 32 → interrupt_of user ≡ Ok (interrupt user)
interrupt_again [] some few = absurd (omega (arith, some))
interrupt_again (octet ∷ rest) some few = let room : nat_le (length (octet ∷ rest)) 32 ≡ true = le-leb _ _ few in rw room refl

caused_again : (forms : Forms) (v : ℕ → Option ℕ → PlainKind) (c : ℕ) (d : Option ℕ) → MayLack forms d → caused v (reason_of forms (reason_octets c d))
    ≡ Ok (v c d)
caused_again Written v c None may = absurd may
caused_again Any v c None may = refl
caused_again forms v c (Some d) may = refl

clear_again : (forms : Forms) (a : Bool) (c : ℕ) (d : Option ℕ) → MayLack forms d → clear_of forms a (reason_octets c d) ≡ Ok (clear c d)
clear_again Written a c None may = absurd may
clear_again Any a c None may = refl
clear_again forms a c (Some d) may = refl

extended_again : (a : Bool) (c d : ℕ) (b : PlainBlock) → IsBlock Any a 128 b → clear_of Any a (c ∷ d ∷ block_octets a b) ≡ Ok (extended_clear c d b)
extended_again true c d b h = ap (mapped (extended_clear c d)) (block_again Any true 128 b h)
extended_again false c d b h = ap (mapped (extended_clear c d)) (block_again Any false 128 b h)

clear_conf_again : (forms : Forms) (a : Bool) (b : Option PlainBlock) → IsCleared forms a b → clear_conf_of forms a (optional_octets a b) ≡ Ok (clear_conf b)
clear_conf_again Written a b h = rw h refl
clear_conf_again Any a b h = ap (mapped clear_conf) (optional_again Any a 0 b h)

pub bit_lt : (b : Bool) → bit b < 2
bit_lt true = omega arith
bit_lt false = omega arith

bit_back : (b : Bool) → nat_eq (bit b) 1 ≡ b
bit_back true = refl
bit_back false = refl

data_again : (forms : Forms) (a : Bool) (most : ℕ) (m : Bool) (ps pr : ℕ) (user : List ℕ) → ps < 8 → pr < 8 → length user ≤ 4096
    → channelled forms a most (2 * ps + 16 * bit m + 32 * pr) user ≡ Ok (user_data m ps pr user)
data_again forms a most m ps pr user h k few =
    let mark = bit_lt m in
    let even : (2 * ps + 16 * bit m + 32 * pr) % 2 ≡ 0 = omega arith in
    let more : (2 * ps + 16 * bit m + 32 * pr) / 16 % 2 ≡ bit m = omega arith in
    let sent : (2 * ps + 16 * bit m + 32 * pr) / 2 % 8 ≡ ps = omega arith in
    let received : (2 * ps + 16 * bit m + 32 * pr) / 32 ≡ pr = omega arith in
    let room : nat_le (length user) 4096 ≡ true = le-leb _ _ few in
    rw (even, more, sent, received, room, bit_back m) refl

-- a packet with a number in its type
rr_again : (forms : Forms) (a : Bool) (most pr : ℕ) → pr < 8 → channelled forms a most (1 + 32 * pr) [] ≡ Ok (rr pr)
rr_again forms a most pr h =
    let odd : (1 + 32 * pr) % 2 ≡ 1 = omega arith in
    let low : (1 + 32 * pr) % 32 ≡ 1 = omega arith in
    let high : (1 + 32 * pr) / 32 ≡ pr = omega arith in
    rw (odd, low, high) refl

rnr_again : (forms : Forms) (a : Bool) (most pr : ℕ) → pr < 8 → channelled forms a most (5 + 32 * pr) [] ≡ Ok (rnr pr)
rnr_again forms a most pr h =
    let odd : (5 + 32 * pr) % 2 ≡ 1 = omega arith in
    let low : (5 + 32 * pr) % 32 ≡ 5 = omega arith in
    let high : (5 + 32 * pr) / 32 ≡ pr = omega arith in
    rw (odd, low, high) refl

rej_again : (a : Bool) (most pr : ℕ) → pr < 8 → channelled Any a most (9 + 32 * pr) [] ≡ Ok (rej pr)
rej_again a most pr h =
    let odd : (9 + 32 * pr) % 2 ≡ 1 = omega arith in
    let low : (9 + 32 * pr) % 32 ≡ 9 = omega arith in
    let high : (9 + 32 * pr) / 32 ≡ pr = omega arith in
    rw (odd, low, high) refl

-- on a channel other than 0
on_channel : (channel : ℕ) → 1 ≤ channel → nat_eq channel 0 ≡ false
on_channel channel on = ne_eqb _ _ (λ h. absurd (omega arith))

on : (forms : Forms) (a : Bool) (most channel kind : ℕ) (body : List ℕ) (k : PlainKind) → 1 ≤ channel → channelled forms a most kind body ≡ Ok k
    → kind_of forms a most channel kind body ≡ Ok k
on forms a most channel kind body k some e = rw (on_channel channel some) e

off : (forms : Forms) (a : Bool) (most channel kind : ℕ) (body : List ℕ) (k : PlainKind) → channel ≡ 0 → unchannelled forms kind body ≡ Ok k
    → kind_of forms a most channel kind body ≡ Ok k
off forms a most channel kind body k none e = rw none e

kind_again : (forms : Forms) (a d : Bool) (most channel : ℕ) (k : PlainKind) → HasPlace channel k → may_have forms a d (type_of k) ≡ true
    → IsKind forms a most k → kind_of forms a most channel (type_of k) (body_of a k) ≡ Ok k
kind_again forms a d most channel (call b) place marks h = on forms a most channel 11 (block_octets a b) (call b) place (call_again forms a most b h)
kind_again forms a d most channel (accept b) place marks h =
    on forms a most channel 15 (optional_octets a b) (accept b) place (accept_again forms a d b marks h)
kind_again forms a d most channel (clear c r) place marks h = on forms a most channel 19 (reason_octets c r) (clear c r) place (clear_again forms a c r h)
kind_again Written a d most channel (extended_clear c r b) place marks h = absurd h
kind_again Any a d most channel (extended_clear c r b) place marks h = on Any a most channel 19 (c ∷ r ∷ block_octets a b) (extended_clear c r b) place
    (extended_again a c r b h)
kind_again forms a d most channel (clear_conf b) place marks h =
    on forms a most channel 23 (optional_octets a b) (clear_conf b) place (clear_conf_again forms a b h)
kind_again forms a d most channel (user_data m ps pr user) place marks h =
    on forms a most channel (2 * ps + 16 * bit m + 32 * pr) user (user_data m ps pr user) place
    (data_again forms a most m ps pr user h.0 h.1 h.2)
kind_again forms a d most channel (rr pr) place marks h = on forms a most channel (1 + 32 * pr) [] (rr pr) place (rr_again forms a most pr h)
kind_again forms a d most channel (rnr pr) place marks h = on forms a most channel (5 + 32 * pr) [] (rnr pr) place (rnr_again forms a most pr h)
kind_again Written a d most channel (rej pr) place marks h = absurd h
kind_again Any a d most channel (rej pr) place marks h = on Any a most channel (9 + 32 * pr) [] (rej pr) place (rej_again a most pr h)
kind_again forms a d most channel (interrupt user) place marks h = on forms a most channel 35 user (interrupt user) place (interrupt_again user h.0 h.1)
kind_again forms a d most channel interrupt_conf place marks h = on forms a most channel 39 [] interrupt_conf place refl
kind_again forms a d most channel (reset c r) place marks h = on forms a most channel 27 (reason_octets c r) (reset c r) place (caused_again forms reset c r h)
kind_again forms a d most channel reset_conf place marks h = on forms a most channel 31 [] reset_conf place refl
kind_again forms a d most channel (restart c r) place marks h =
    off forms a most channel 251 (reason_octets c r) (restart c r) place (caused_again forms restart c r h)
kind_again forms a d most channel restart_conf place marks h = off forms a most channel 255 [] restart_conf place refl
kind_again Written a d most channel (diagnostic number explanation) place marks h = absurd h
kind_again Any a d most channel (diagnostic number explanation) place marks h =
    off Any a most channel 241 (number ∷ explanation) (diagnostic number explanation) place
    (let few : nat_le (length explanation) 3 ≡ true = le-leb _ _ h in rw few refl)
kind_again Written a d most channel (registration octets) place marks h = absurd h
kind_again Any a d most channel (registration octets) place marks h = off Any a most channel 243 octets (registration octets) place
    (let few : nat_le (length octets) 4096 ≡ true = le-leb _ _ h in rw few refl)
kind_again Written a d most channel (registration_conf octets) place marks h = absurd h
kind_again Any a d most channel (registration_conf octets) place marks h = off Any a most channel 247 octets (registration_conf octets) place
    (let few : nat_le (length octets) 4096 ≡ true = le-leb _ _ h in rw few refl)

-- ---- the whole packet

-- the bits of the first octet
record FirstIs (w : PlainForm) : Type 0 where
  pub modulo : first_of w / 16 % 4 ≡ 1
  pub bit_8 : nat_eq (first_of w / 128) 1 ≡ w.bit_8
  pub d : nat_eq (first_of w / 64 % 2) 1 ≡ w.d
  pub channel : first_of w % 16 * 256 + w.channel % 256 ≡ w.channel

first_again : (w : PlainForm) → w.channel ≤ 4095 → FirstIs w
first_again w few =
    let q = bit_lt w.bit_8 in
    let d = bit_lt w.d in
    let high : first_of w / 128 ≡ bit w.bit_8 = omega arith in
    let next : first_of w / 64 % 2 ≡ bit w.d = omega arith in
    record {
      modulo = omega arith;
      bit_8 = rw high (bit_back w.bit_8);
      d = rw next (bit_back w.d);
      channel = omega arith;
    }

pub read_again : (forms : Forms) (most : ℕ) (w : PlainForm) → IsPacket forms most w → read_of forms most (spelling_of w) ≡ Ok w
unfolding read_of
read_again forms most w h =
    let first = first_again w h.channel in
    rw (first.modulo, first.bit_8, first.d, h.marks, first.channel)
    (ap (with_head w.channel w.bit_8 w.d) (kind_again forms w.bit_8 w.d most w.channel w.kind h.place h.marks h.kind))

pub only_found : (forms : Forms) (most : ℕ) (octets : List ℕ) (w : PlainForm) → Spells forms most w octets → read_of forms most octets ≡ Ok w
only_found forms most octets w spells = ap (read_of forms most) spells.spelling ∙ read_again forms most w spells.packet
