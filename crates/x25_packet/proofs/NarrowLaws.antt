-- What a station writes is read alike in both forms.
use Rattle.x25_packet.proofs.Names.{ℕ, ◌+◌, ◌*◌, ◌/◌, ◌%◌, ◌<◌, ◌≤◌, ◌≡◌, ◌≢◌, ◌∙◌, Bool, true, false, List, [], ◌∷◌, ◌++◌, length, drop, refl, ap, sym, subst}
use Rattle.x25_packet.proofs.Names.{arith, nat_eq, Option, Some, None, Result, Ok, Err, and_parts, eqb-true, bit, PacketError, Forms, Written, Any, IsAddress}
use Rattle.x25_packet.proofs.Names.{halves_at, halves_of, hold_digits, packed, packet_of, PlainBlock, PlainFields, IsBlock, narrow_of, narrowed, taken_of}
use Rattle.x25_packet.proofs.Names.{PlainKind, PlainForm, call, accept, clear, extended_clear, clear_conf, user_data, rr, rnr, rej, interrupt, interrupt_conf}
use Rattle.x25_packet.proofs.Names.{reset, reset_conf, restart, restart_conf, diagnostic, registration, registration_conf, spelling_of, type_of, may_have}
use Rattle.x25_packet.proofs.Names.{HasFacilities, HasPlace, IsAnswer, IsKind, IsPacket, Spells, Gives, read_of, form_in, Reads}
use Rattle.x25_packet.proofs.AddressLaws.{drop_first, address_at, block_packed, block_when, called_again, calling_again, length-halves_at, length-pairs}
use Rattle.x25_packet.proofs.{AddressLaws.{packed_holds}, AgainLaws.{read_again}, FacilityLaws.{ok_err, ok_same}, FieldLaws.{no_field, says_itself}}
use Rattle.x25_packet.proofs.FoundLaws.{AreSmall, empty_of, found_spells}
use Rattle.x25_packet.{proofs.WiderLaws.{no_d, taken_wider}, specs.declared.marks.Marks.{Marks}, specs.declared.packet.Packet.{Packet}}
use Rattle.x25_packet.specs.Facilities as strict_field
use Rattle.x25_packet.specs.Packet as strict
use Rattle.x25_packet.specs.Spelling as strict_spelling

-- ---- a packet that a station writes is spelled in its form

abbrev headed : ℕ → Bool → PlainKind → PlainForm
headed channel q kind = record { channel = channel; bit_8 = q; d = false; kind = kind }

-- the octets of v spell w, which is taken for v
record Taken (forms : Forms) (most : ℕ) (v : strict.PlainPacket) : Type 0 where
  pub wide : PlainForm
  pub packet : IsPacket forms most wide
  pub spelling : strict_spelling.spelling_of v ≡ spelling_of wide
  pub taken : narrow_of wide ≡ Ok v

taken_as : (forms : Forms) (most : ℕ) (v : strict.PlainPacket) → Taken forms most v → taken_of (read_of forms most (strict_spelling.spelling_of v)) ≡ Ok v
taken_as forms most v t = ap (λ (o : List ℕ). taken_of (read_of forms most o)) t.spelling ∙ ap taken_of (read_again forms most t.wide t.packet) ∙ t.taken

nothing_behind : (xs : List ℕ) → xs ++ [] ≡ xs
nothing_behind [] = refl
nothing_behind (x ∷ xs) = ap (λ (ys : List ℕ). x ∷ ys) (nothing_behind xs)

no_digits : hold_digits 0 [] ≡ true
unfolding halves_of
no_digits = refl

accept_taken : (most channel : ℕ) (field : List ℕ) → strict_spelling.IsChannel channel → strict_field.IsFacilityField field
    → Taken Written most (strict.accept channel field)
accept_taken most channel [] on f = record {
  wide = headed channel false (accept None);
  packet = record { channel = on.1; place = on.0; marks = refl; kind = tt };
  spelling = refl;
  taken = refl;
}
accept_taken most channel (octet ∷ rest) on f =
    let field = octet ∷ rest in
    let itself = says_itself field f in
    let block : PlainBlock = record { called = 0; calling = 0; addresses = []; fields = Some (record { facilities = field; user = [] }) } in
    let few = itself.few in
    record {
      wide = headed channel false (accept (Some block));
      packet = record {
        channel = on.1;
        place = on.0;
        marks = refl;
        kind = (
          record {
            addresses = record { called = omega arith; calling = omega arith; size = refl; halves = no_digits };
            fields = record { facilities = f; few = omega arith; short = omega arith };
          },
          refl,
          refl,
          omega arith,
        );
      };
      spelling = ap (λ (o : List ℕ). (16 + channel / 256) ∷ channel % 256 ∷ 15 ∷ 0 ∷ length field ∷ o) (sym (nothing_behind field));
      taken = ap (narrowed (headed channel false (accept (Some block)))) itself.said;
    }

call_taken : (most channel : ℕ) (called calling field user : List ℕ) → strict_spelling.IsChannel channel → IsAddress called → IsAddress calling
    → strict_field.IsFacilityField field → length user ≤ most → Taken Written most (strict.call channel called calling field user)
call_taken most channel called calling field user on a b f short =
    let itself = says_itself field f in
    let few = a.short in
    let also = b.short in
    let field_few = itself.few in
    let block : PlainBlock = record {
      called = length called;
      calling = length calling;
      addresses = packed (called ++ calling);
      fields = Some (record { facilities = field; user = user });
    } in
    record {
      wide = headed channel false (call block);
      packet = record {
        channel = on.1;
        place = on.0;
        marks = refl;
        kind = record {
          addresses = record {
            called = omega arith;
            calling = omega arith;
            size = length-pairs called calling;
            halves = packed_holds called calling a b;
          };
          fields = record { facilities = f; few = omega arith; short = short };
        };
      };
      spelling = refl;
      taken = ap (narrowed (headed channel false (call block))) itself.said
          ∙ rw (called_again called calling a b, calling_again called calling a b) refl;
    }

-- the first octet of a data packet
first_data : (channel : ℕ) (q d : Bool) → 16 * (1 + 4 * bit d + 8 * bit q) + channel / 256 ≡ 128 * bit q + 64 * bit d + 16 + channel / 256
first_data channel true true = refl
first_data channel true false = refl
first_data channel false true = refl
first_data channel false false = refl

data_taken : (forms : Forms) (most channel : ℕ) (marks : Marks) (m : Bool) (ps pr : ℕ) (user : List ℕ)
    → may_have forms marks.q marks.d (2 * ps + 16 * bit m + 32 * pr) ≡ true
    → strict_spelling.IsChannel channel → ps < 8 → pr < 8 → length user ≤ 4096 → Taken forms most (strict.user_data channel marks m ps pr user)
data_taken forms most channel marks m ps pr user may on h k few = record {
  wide = record { channel = channel; bit_8 = marks.q; d = marks.d; kind = user_data m ps pr user };
  packet = record { channel = on.1; place = on.0; marks = may; kind = (h, k, few) };
  spelling = ap (λ n. n ∷ channel % 256 ∷ (2 * ps + 16 * bit m + 32 * pr) ∷ user) (first_data channel marks.q marks.d);
  taken = refl;
}

written_marks : (q d : Bool) (m : Bool) (ps pr : ℕ) → d ≡ false → may_have Written q d (2 * ps + 16 * bit m + 32 * pr) ≡ true
written_marks q true m ps pr none = absurd (let bad : true ≡ false = none in cc)
written_marks false false m ps pr none = refl
written_marks true false m ps pr none = let even : (2 * ps + 16 * bit m + 32 * pr) % 2 ≡ 0 = omega arith in rw even refl

any_marks : (q d : Bool) (m : Bool) (ps pr : ℕ) → may_have Any q d (2 * ps + 16 * bit m + 32 * pr) ≡ true
any_marks q d m ps pr = by q d
  where
    even : (2 * ps + 16 * bit m + 32 * pr) % 2 ≡ 0
    even = omega arith

    by : (q d : Bool) → may_have Any q d (2 * ps + 16 * bit m + 32 * pr) ≡ true
    by true true = rw even refl
    by true false = rw even refl
    by false true = rw even refl
    by false false = refl

-- a packet of a channel without Q
on_channel : (most channel : ℕ) (kind : PlainKind) → strict_spelling.IsChannel channel → HasPlace channel kind → may_have Written false false (type_of kind)
    ≡ true → IsKind Written false most kind
    → IsPacket Written most (headed channel false kind)
on_channel most channel kind on place marks is = record { channel = on.1; place = place; marks = marks; kind = is }

taken : (most : ℕ) (v : strict.PlainPacket) → strict_spelling.IsInRange most v → strict_spelling.IsWithoutD v → Taken Written most v
taken most (strict.call channel called calling field user) h plain = call_taken most channel called calling field user h.0 h.1 h.2 h.3 h.4
taken most (strict.accept channel field) h plain = accept_taken most channel field h.0 h.1
taken most (strict.clear channel cause reason) h plain =
    record {
      wide = headed channel false (clear cause (Some reason));
      packet = on_channel most channel (clear cause (Some reason)) h h.0 refl tt;
      spelling = refl;
      taken = refl;
    }
taken most (strict.clear_conf channel) h plain =
    record { wide = headed channel false (clear_conf None); packet = on_channel most channel (clear_conf None) h h.0 refl refl; spelling = refl; taken = refl }
taken most (strict.user_data channel marks m ps pr user) h plain =
    data_taken Written most channel marks m ps pr user (written_marks marks.q marks.d m ps pr plain) h.0 h.1 h.2 h.3
taken most (strict.rr channel pr) h plain =
    record { wide = headed channel false (rr pr); packet = on_channel most channel (rr pr) h.0 h.0.0 refl h.1; spelling = refl; taken = refl }
taken most (strict.rnr channel pr) h plain =
    record { wide = headed channel false (rnr pr); packet = on_channel most channel (rnr pr) h.0 h.0.0 refl h.1; spelling = refl; taken = refl }
taken most (strict.interrupt channel user) h plain =
    record {
      wide = headed channel false (interrupt user);
      packet = on_channel most channel (interrupt user) h.0 h.0.0 refl (h.1, h.2);
      spelling = refl;
      taken = refl;
    }
taken most (strict.interrupt_conf channel) h plain =
    record { wide = headed channel false interrupt_conf; packet = on_channel most channel interrupt_conf h h.0 refl tt; spelling = refl; taken = refl }
taken most (strict.reset channel cause reason) h plain =
    record {
      wide = headed channel false (reset cause (Some reason));
      packet = on_channel most channel (reset cause (Some reason)) h h.0 refl tt;
      spelling = refl;
      taken = refl;
    }
taken most (strict.reset_conf channel) h plain =
    record { wide = headed channel false reset_conf; packet = on_channel most channel reset_conf h h.0 refl tt; spelling = refl; taken = refl }
taken most (strict.restart cause reason) h plain = record {
  wide = headed 0 false (restart cause (Some reason));
  packet = record { channel = omega arith; place = refl; marks = refl; kind = tt };
  spelling = refl;
  taken = refl;
}
taken most strict.restart_conf h plain =
    record {
      wide = headed 0 false restart_conf;
      packet = record { channel = omega arith; place = refl; marks = refl; kind = tt };
      spelling = refl;
      taken = refl;
    }

-- what is spelled so is read
pub written_again : (most : ℕ) (v : strict.PlainPacket) → strict_spelling.IsInRange most v → strict_spelling.IsWithoutD v
    → packet_of most (strict_spelling.spelling_of v) ≡ Ok v
written_again most v h plain = taken_as Written most v (taken most v h plain)

pub only_written : (most : ℕ) (octets : List ℕ) (v : strict.PlainPacket) → strict_spelling.Spells most v octets → packet_of most octets ≡ Ok v
only_written most octets v spells = ap (packet_of most) spells.spelling ∙ written_again most v spells.in_range spells.without_d

-- what is appended reads as the packet
pub appended_again : (most : ℕ) (v : strict.PlainPacket) (before after : List ℕ) → strict_spelling.IsInRange most v → strict_spelling.IsWithoutD v → after
    ≡ before ++ strict_spelling.spelling_of v
    → packet_of most (drop (length before) after) ≡ Ok v
appended_again most v before after h plain e =
    ap (λ (o : List ℕ). packet_of most (drop (length before) o)) e ∙ ap (packet_of most) (drop_first before (strict_spelling.spelling_of v))
    ∙ written_again most v h plain

-- ---- it is one of any form

-- the octets of a packet in its ranges, of data with D too, are taken for it
pub spelled_taken : (most : ℕ) (v : strict.PlainPacket) → strict_spelling.IsInRange most v → taken_of (form_in most (strict_spelling.spelling_of v)) ≡ Ok v
spelled_taken most (strict.user_data channel marks m ps pr user) h =
    taken_as Any most (strict.user_data channel marks m ps pr user)
    (data_taken Any most channel marks m ps pr user (any_marks marks.q marks.d m ps pr) h.0 h.1 h.2 h.3)
spelled_taken most v h = taken_wider most v (strict_spelling.spelling_of v) (written_again most v h tt)

-- ---- what is read in the form that a station writes is taken for a packet that is spelled so

record Narrowed (most : ℕ) (w : PlainForm) : Type 0 where
  pub v : strict.PlainPacket
  pub taken : narrow_of w ≡ Ok v
  pub in_range : strict_spelling.IsInRange most v
  pub without_d : strict_spelling.IsWithoutD v
  pub spelling : spelling_of w ≡ strict_spelling.spelling_of v

-- an odd type has neither bit
unmarked : (most channel : ℕ) (a d : Bool) (k : PlainKind) → type_of k % 2 ≢ 0 → may_have Written a d (type_of k) ≡ true → IsKind Written a most k
    → (IsKind Written false most k → Narrowed most (headed channel false k)) → Narrowed most (record { channel = channel; bit_8 = a; d = d; kind = k })
unmarked most channel false false k odd marks h n = n h
unmarked most channel true false k odd marks h n = absurd (odd (eqb-true _ _ (and_parts (nat_eq (type_of k % 2) 0) true marks).0))
unmarked most channel a true k odd marks h n = let bad : true ≡ false = no_d a true (type_of k) marks in absurd (cc)

call_narrowed : (most channel called calling : ℕ) (addresses : List ℕ) (f : Option PlainFields) → strict_spelling.IsChannel channel
    → (let b : PlainBlock = record { called = called; calling = calling; addresses = addresses; fields = f } in IsBlock Written false most b
    → Narrowed most (headed channel false (call b)))
call_narrowed most channel called calling addresses None on h = absurd h.fields
call_narrowed most channel called calling addresses (Some f) on h =
    let itself = says_itself f.facilities h.fields.facilities in
    let size : length addresses ≡ (called + calling + 1) / 2 = h.addresses.size in
    let low : called < 16 = h.addresses.called in
    let high : calling < 16 = h.addresses.calling in
    let digits = block_when (called + calling) addresses h.addresses.halves in
    let first : length (halves_at addresses 0 called) ≡ called = length-halves_at addresses 0 called (omega arith) in
    let second : length (halves_at addresses called calling) ≡ calling = length-halves_at addresses called calling (omega arith) in
    let block : PlainBlock = record { called = called; calling = calling; addresses = addresses; fields = Some f } in
    record {
      v = strict.call channel (halves_at addresses 0 called) (halves_at addresses called calling) f.facilities f.user;
      taken = ap (narrowed (headed channel false (call block))) itself.said;
      in_range = (
        on,
        address_at (called + calling) 0 called addresses digits (omega arith) (omega arith),
        address_at (called + calling) called calling addresses digits (omega arith) (omega arith),
        h.fields.facilities,
        h.fields.short,
      );
      without_d = tt;
      spelling = ap (λ (o : List ℕ). (16 + channel / 256) ∷ channel % 256 ∷ 11 ∷ o)
          (rw (first, second, block_packed called calling addresses size digits) refl);
    }

accept_narrowed : (most channel called calling : ℕ) (addresses facilities user : List ℕ) → strict_spelling.IsChannel channel → called ≡ 0 → calling ≡ 0 → 1
    ≤ length facilities
    → (let b : PlainBlock = record {
      called = called;
      calling = calling;
      addresses = addresses;
      fields = Some (record { facilities = facilities; user = user });
    } in
    IsBlock Written false 0 b → Narrowed most (headed channel false (accept (Some b))))
accept_narrowed most channel called calling addresses [] user on none also some h = absurd (omega (arith, some))
accept_narrowed most channel called calling addresses (octet ∷ more) user on none also some h =
    let itself = says_itself (octet ∷ more) h.fields.facilities in
    let size : length addresses ≡ (called + calling + 1) / 2 = h.addresses.size in
    let short : length user ≤ 0 = h.fields.short in
    let empty : addresses ≡ [] = empty_of addresses (omega (arith, size, none, also)) in
    let alone : user ≡ [] = empty_of user (omega (arith, short)) in
    let block : PlainBlock = record {
      called = called;
      calling = calling;
      addresses = addresses;
      fields = Some (record { facilities = octet ∷ more; user = user });
    } in
    record {
      v = strict.accept channel (octet ∷ more);
      taken = ap (narrowed (headed channel false (accept (Some block)))) itself.said;
      in_range = (on, h.fields.facilities);
      without_d = tt;
      spelling = ap (λ (o : List ℕ). (16 + channel / 256) ∷ channel % 256 ∷ 15 ∷ o) (rw (none, also, empty, alone, nothing_behind more) refl);
    }

answer_narrowed : (most channel : ℕ) (b : Option PlainBlock) → strict_spelling.IsChannel channel → IsAnswer Written false b
    → Narrowed most (headed channel false (accept b))
answer_narrowed most channel None on h =
    record { v = strict.accept channel []; taken = refl; in_range = (on, no_field); without_d = tt; spelling = refl }
answer_narrowed most channel (Some b) on h = by b.fields h.3 h.0
  where
    by : (f : Option PlainFields) → HasFacilities f
        → (let c : PlainBlock = record { called = b.called; calling = b.calling; addresses = b.addresses; fields = f } in
        IsBlock Written false 0 c → Narrowed most (headed channel false (accept (Some c))))
    by None some is = absurd some
    by (Some f) some is = accept_narrowed most channel b.called b.calling b.addresses f.facilities f.user on h.1 h.2 some is

kind_narrowed : (most channel : ℕ) (a d : Bool) (k : PlainKind) → channel ≤ 4095 → HasPlace channel k → may_have Written a d (type_of k) ≡ true
    → IsKind Written a most k
    → Narrowed most (record { channel = channel; bit_8 = a; d = d; kind = k })
kind_narrowed most channel a d (call b) few place marks h = unmarked most channel a d (call b) (λ e. absurd (omega (arith, e))) marks h
    (call_narrowed most channel b.called b.calling b.addresses b.fields (place, few))
kind_narrowed most channel a d (accept b) few place marks h = unmarked most channel a d (accept b) (λ e. absurd (omega (arith, e))) marks h
    (answer_narrowed most channel b (place, few))
kind_narrowed most channel a d (clear cause None) few place marks h = absurd h
kind_narrowed most channel a d (clear cause (Some reason)) few place marks h =
    unmarked most channel a d (clear cause (Some reason)) (λ e. absurd (omega (arith, e))) marks h
    (λ _. record { v = strict.clear channel cause reason; taken = refl; in_range = (place, few); without_d = tt; spelling = refl })
kind_narrowed most channel a d (extended_clear cause reason b) few place marks h = absurd h
kind_narrowed most channel a d (clear_conf None) few place marks h = unmarked most channel a d (clear_conf None) (λ e. absurd (omega (arith, e))) marks h
    (λ _. record { v = strict.clear_conf channel; taken = refl; in_range = (place, few); without_d = tt; spelling = refl })
kind_narrowed most channel a d (clear_conf (Some b)) few place marks h = absurd (cc)
kind_narrowed most channel a d (user_data m ps pr user) few place marks h = record {
  v = strict.user_data channel (record { q = a; d = d }) m ps pr user;
  taken = refl;
  in_range = ((place, few), h.0, h.1, h.2);
  without_d = no_d a d (2 * ps + 16 * bit m + 32 * pr) marks;
  spelling = ap (λ n. n ∷ channel % 256 ∷ (2 * ps + 16 * bit m + 32 * pr) ∷ user) (sym (first_data channel a d));
}
kind_narrowed most channel a d (rr pr) few place marks h = unmarked most channel a d (rr pr) (λ e. absurd (omega (arith, e))) marks h
    (λ less. record { v = strict.rr channel pr; taken = refl; in_range = ((place, few), less); without_d = tt; spelling = refl })
kind_narrowed most channel a d (rnr pr) few place marks h = unmarked most channel a d (rnr pr) (λ e. absurd (omega (arith, e))) marks h
    (λ less. record { v = strict.rnr channel pr; taken = refl; in_range = ((place, few), less); without_d = tt; spelling = refl })
kind_narrowed most channel a d (rej pr) few place marks h = absurd h
kind_narrowed most channel a d (interrupt user) few place marks h = unmarked most channel a d (interrupt user) (λ e. absurd (omega (arith, e))) marks h
    (λ is. record { v = strict.interrupt channel user; taken = refl; in_range = ((place, few), is.0, is.1); without_d = tt; spelling = refl })
kind_narrowed most channel a d interrupt_conf few place marks h = unmarked most channel a d interrupt_conf (λ e. absurd (omega (arith, e))) marks h
    (λ _. record { v = strict.interrupt_conf channel; taken = refl; in_range = (place, few); without_d = tt; spelling = refl })
kind_narrowed most channel a d (reset cause None) few place marks h = absurd h
kind_narrowed most channel a d (reset cause (Some reason)) few place marks h =
    unmarked most channel a d (reset cause (Some reason)) (λ e. absurd (omega (arith, e))) marks h
    (λ _. record { v = strict.reset channel cause reason; taken = refl; in_range = (place, few); without_d = tt; spelling = refl })
kind_narrowed most channel a d reset_conf few place marks h = unmarked most channel a d reset_conf (λ e. absurd (omega (arith, e))) marks h
    (λ _. record { v = strict.reset_conf channel; taken = refl; in_range = (place, few); without_d = tt; spelling = refl })
kind_narrowed most channel a d (restart cause None) few place marks h = absurd h
kind_narrowed most channel a d (restart cause (Some reason)) few place marks h =
    unmarked most channel a d (restart cause (Some reason)) (λ e. absurd (omega (arith, e))) marks h
    (λ _. record { v = strict.restart cause reason; taken = refl; in_range = tt; without_d = tt; spelling = rw place refl })
kind_narrowed most channel a d restart_conf few place marks h = unmarked most channel a d restart_conf (λ e. absurd (omega (arith, e))) marks h
    (λ _. record { v = strict.restart_conf; taken = refl; in_range = tt; without_d = tt; spelling = rw place refl })
kind_narrowed most channel a d (diagnostic number explanation) few place marks h = absurd h
kind_narrowed most channel a d (registration octets) few place marks h = absurd h
kind_narrowed most channel a d (registration_conf octets) few place marks h = absurd h

module _ (most : ℕ) (octets : List ℕ) (small : AreSmall octets) where
  narrowed_of : (w : PlainForm) → Spells Written most w octets → Narrowed most w
  narrowed_of w spells = kind_narrowed most w.channel w.bit_8 w.d w.kind spells.packet.channel spells.packet.place spells.packet.marks spells.packet.kind

  -- what is read is spelled so
  pub found_written : (v : strict.PlainPacket) → packet_of most octets ≡ Ok v → strict_spelling.Spells most v octets
  found_written v e = by (read_of Written most octets) refl e
    where
      by : (r : Result PlainForm PacketError) → read_of Written most octets ≡ r → taken_of r ≡ Ok v → strict_spelling.Spells most v octets
      by (Err x) is h = absurd (ok_err h)
      by (Ok w) is h =
          let spells = found_spells Written most octets w small is in
          let n = narrowed_of w spells in
          subst (λ u. strict_spelling.Spells most u octets) (ok_same (sym n.taken ∙ h))
          (record { in_range = n.in_range; without_d = n.without_d; spelling = spells.spelling ∙ n.spelling })

  -- an error is one of the octets
  pub error_read : (e : PacketError) → packet_of most octets ≡ Err e → read_of Written most octets ≡ Err e
  error_read e h = by (read_of Written most octets) refl h
    where
      by : (r : Result PlainForm PacketError) → read_of Written most octets ≡ r → taken_of r ≡ Err e → r ≡ Err e
      by (Err x) is h = cc
      by (Ok w) is h = absurd (ok_err (sym h ∙ (narrowed_of w (found_spells Written most octets w small is)).taken))

-- a packet is read to what a station takes it for
pub read_taken : (r : Result Packet PacketError) (x : Result PlainForm PacketError)
    → Reads (λ (s : Result Packet PacketError) (w : PlainForm). Gives strict.plain s (narrow_of w)) r x → Gives strict.plain r (taken_of x)
read_taken r (Ok w) gives = gives
read_taken r (Err e) is = subst (λ (s : Result Packet PacketError). Gives strict.plain s (Err e)) (sym is) refl
