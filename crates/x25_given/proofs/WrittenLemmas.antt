-- What is given beside a packet doesn't change what the packet is.
use Rattle.std.proofs.Common.{ℕ, zero, suc, ◌+◌, ◌≤◌, ◌≡◌, ◌∙◌, Bool, true, false, List, [], ◌∷◌, ◌++◌, length, get_or, refl, ap, ap₂, sym, subst, arith}
use Rattle.std.proofs.Common.{Option, Some, None, Result, Ok, length-append}
use Rattle.std.specs.Prelude.{cond, ◌&&◌, ◌||◌, nat_eq, nat_le, nat_lt}
use Rattle.std.proofs.lemmas.Bool.{and_from, le-leb}
use Rattle.std.proofs.lemmas.Option.{same_Some}
use Rattle.x25_packet.proofs.AddressLaws.{called_again, calling_again, length-pairs, packed_holds}
use Rattle.x25_packet.specs.Digits.{IsAddress, halves_of, hold_digits}
use Rattle.x25_packet.specs.Facilities as strict_field
use Rattle.x25_packet.specs.Packet as strict
use Rattle.x25_packet.specs.Spelling as strict_spelling
use Rattle.x25_packet.specs.declared.error.PacketError.{PacketError}
use Rattle.x25_packet.specs.declared.facilities.Directions.{Directions}
use Rattle.x25_packet.specs.Classes.{class_b, none_own, own_in, with_facility, more_of, IsFacilityField}
use Rattle.x25_packet.specs.declared.classes.Own.{Own}
use Rattle.x25_packet.specs.Narrowing.{field_said, narrow_of, narrowed, taken_of}
use Rattle.x25_packet.specs.Form.{PlainForm, call, accept, extended_clear}
use Rattle.x25_packet.specs.Form.Spelling.{spelling_of, may_have, IsPacket}
use Rattle.x25_packet.specs.Grammar.{form_in}
use Rattle.x25_packet.specs.laws.TakingLaw.{TakesWhatIsSpelled}
use Rattle.x25_packet.specs.declared.form.Forms.TheVariants.{Any}
use Rattle.x25_packet.proofs.AgainLaws.{only_found}
use Rattle.x25_packet.proofs.FacilityLemmas.{own_stepped}
use Rattle.x25_given.specs.Given.{PlainGiven}
use Rattle.x25_given.specs.Writing.{written, fields, bare_block, call_block, headed}
use Rattle.x25_given.specs.laws.ReadingLaw.{MayGo, WrittenIsInForm, WrittenIsRead}
use Rattle.x25_given.proofs.GivenLemmas.{IsGiven, given_when}

-- ---- the last of two counts

abbrev or_before : Option Directions → Option Directions → Option Directions
or_before (Some x) before = Some x
or_before None before = before

before_both : (a b c : Option Directions) → or_before a (or_before b c) ≡ or_before (or_before a b) c
before_both (Some x) b c = refl
before_both None b c = refl

abbrev sizes_in : Own → Option Directions
sizes_in own = own.packet_size

abbrev windows_in : Own → Option Directions
windows_in own = own.window_size

facility_sizes : (own : Own) (code second third : ℕ) → sizes_in (with_facility own code second third)
    ≡ or_before (sizes_in (with_facility none_own code second third)) (sizes_in own)
facility_sizes own code second third = by (nat_eq code 1) (nat_eq code 66) (nat_eq code 67)
  where
    at : Own → Bool → Bool → Bool → Own
    at own a b c = cond a (record own { fast_select = nat_le 128 second })
        (cond b (record own { packet_size = Some (record { called = second; calling = third }) })
        (cond c (record own { window_size = Some (record { called = second; calling = third }) }) own))

    by : (a b c : Bool) → sizes_in (at own a b c) ≡ or_before (sizes_in (at none_own a b c)) (sizes_in own)
    by true b c = refl
    by false true c = refl
    by false false true = refl
    by false false false = refl

facility_windows : (own : Own) (code second third : ℕ) → windows_in (with_facility own code second third)
    ≡ or_before (windows_in (with_facility none_own code second third)) (windows_in own)
facility_windows own code second third = by (nat_eq code 1) (nat_eq code 66) (nat_eq code 67)
  where
    at : Own → Bool → Bool → Bool → Own
    at own a b c = cond a (record own { fast_select = nat_le 128 second })
        (cond b (record own { packet_size = Some (record { called = second; calling = third }) })
        (cond c (record own { window_size = Some (record { called = second; calling = third }) }) own))

    by : (a b c : Bool) → windows_in (at own a b c) ≡ or_before (windows_in (at none_own a b c)) (windows_in own)
    by true b c = refl
    by false true c = refl
    by false false true = refl
    by false false false = refl

sizes_behind : (own : Own) (n : ℕ) (xs : List ℕ) → sizes_in (own_in own n xs) ≡ or_before (sizes_in (own_in none_own n xs)) (sizes_in own)
unfolding own_in
sizes_behind own zero [] = refl
sizes_behind own zero (code ∷ []) = refl
sizes_behind own zero (code ∷ second ∷ rest) =
    by (nat_eq code 0 || nat_lt (length rest) (more_of code second))
    (sizes_behind (with_facility own code second (get_or rest 0 0)) (more_of code second) rest
    ∙ ap (or_before (sizes_in (own_in none_own (more_of code second) rest))) (facility_sizes own code second (get_or rest 0 0))
    ∙ before_both (sizes_in (own_in none_own (more_of code second) rest)) (sizes_in (with_facility none_own code second (get_or rest 0 0))) (sizes_in own)
    ∙ ap (λ o. or_before o (sizes_in own)) (sym (sizes_behind (with_facility none_own code second (get_or rest 0 0)) (more_of code second) rest)))
  where
    next : Own → Own
    next o = own_in (with_facility o code second (get_or rest 0 0)) (more_of code second) rest

    by : (b : Bool) → sizes_in (next own) ≡ or_before (sizes_in (next none_own)) (sizes_in own) → sizes_in (cond b own (next own))
        ≡ or_before (sizes_in (cond b none_own (next none_own))) (sizes_in own)
    by true later = refl
    by false later = later
sizes_behind own (suc n) [] = refl
sizes_behind own (suc n) (x ∷ xs) = sizes_behind own n xs

windows_behind : (own : Own) (n : ℕ) (xs : List ℕ) → windows_in (own_in own n xs) ≡ or_before (windows_in (own_in none_own n xs)) (windows_in own)
unfolding own_in
windows_behind own zero [] = refl
windows_behind own zero (code ∷ []) = refl
windows_behind own zero (code ∷ second ∷ rest) =
    by (nat_eq code 0 || nat_lt (length rest) (more_of code second))
    (windows_behind (with_facility own code second (get_or rest 0 0)) (more_of code second) rest
    ∙ ap (or_before (windows_in (own_in none_own (more_of code second) rest))) (facility_windows own code second (get_or rest 0 0))
    ∙ before_both (windows_in (own_in none_own (more_of code second) rest)) (windows_in (with_facility none_own code second (get_or rest 0 0))) (windows_in own)
    ∙ ap (λ o. or_before o (windows_in own)) (sym (windows_behind (with_facility none_own code second (get_or rest 0 0)) (more_of code second) rest)))
  where
    next : Own → Own
    next o = own_in (with_facility o code second (get_or rest 0 0)) (more_of code second) rest

    by : (b : Bool) → windows_in (next own) ≡ or_before (windows_in (next none_own)) (windows_in own) → windows_in (cond b own (next own))
        ≡ or_before (windows_in (cond b none_own (next none_own))) (windows_in own)
    by true later = refl
    by false later = later
windows_behind own (suc n) [] = refl
windows_behind own (suc n) (x ∷ xs) = windows_behind own n xs

-- ---- the station's own facilities in front

abbrev own_of : Option Directions → Option Directions → Own
own_of sizes windows = record { fast_select = false; packet_size = sizes; window_size = windows }

sizes_first : (own : Own) (s : Directions) (rest : List ℕ) → own_in own 0 (66 ∷ s.called ∷ s.calling ∷ rest)
    ≡ own_in (record own { packet_size = Some s }) 0 rest
sizes_first own s rest = sym (own_stepped own (66 ∷ s.called ∷ s.calling ∷ rest) rest (omega arith) refl (omega arith))

windows_first : (own : Own) (w : Directions) (rest : List ℕ) → own_in own 0 (67 ∷ w.called ∷ w.calling ∷ rest)
    ≡ own_in (record own { window_size = Some w }) 0 rest
windows_first own w rest = sym (own_stepped own (67 ∷ w.called ∷ w.calling ∷ rest) rest (omega arith) refl (omega arith))

own_first : (sizes windows : Option Directions) (rest : List ℕ)
    → own_in none_own 0 ((strict_field.facility 66 sizes ++ strict_field.facility 67 windows) ++ rest) ≡ own_in (own_of sizes windows) 0 rest
own_first None None rest = refl
own_first (Some s) None rest = sizes_first none_own s rest
own_first None (Some w) rest = windows_first none_own w rest
own_first (Some s) (Some w) rest = sizes_first none_own s (67 ∷ w.called ∷ w.calling ∷ rest) ∙ windows_first (own_of (Some s) None) w rest

-- ---- what a field says, with facilities behind that aren't the station's own

within_when : (least most : ℕ) (v : Directions) → strict_field.AreWithin least most v
    → (strict_field.is_within least most v.called && strict_field.is_within least most v.calling) ≡ true
within_when least most v h =
    and_from _ _ (and_from _ _ (le-leb _ _ h.called_least) (le-leb _ _ h.called_most)) (and_from _ _ (le-leb _ _ h.calling_least) (le-leb _ _ h.calling_most))

abbrev said : Option Directions → Option Directions → Result (List ℕ) PacketError
said sizes windows = field_said (own_of sizes windows)

-- a field and these behind it are facilities, are few, and say what the field says
record SaysStill (field more : List ℕ) : Type 0 where
  pub whole : IsFacilityField (field ++ more)
  pub few : length field ≤ 6
  pub said : field_said (own_in none_own 0 (field ++ more)) ≡ Ok field

whole_behind : (sizes windows : Option Directions) (more : List ℕ) → IsFacilityField more
    → IsFacilityField ((strict_field.facility 66 sizes ++ strict_field.facility 67 windows) ++ more)
whole_behind None None more h = h
whole_behind (Some s) None more (fs, classes, e) = (class_b 66 s.called s.calling ∷ fs, (refl, classes), ap (λ (xs : List ℕ). 66 ∷ s.called ∷ s.calling ∷ xs) e)
whole_behind None (Some w) more (fs, classes, e) = (class_b 67 w.called w.calling ∷ fs, (refl, classes), ap (λ (xs : List ℕ). 67 ∷ w.called ∷ w.calling ∷ xs) e)
whole_behind (Some s) (Some w) more (fs, classes, e) = (
  class_b 66 s.called s.calling ∷ class_b 67 w.called w.calling ∷ fs,
  (refl, (refl, classes)),
  ap (λ (xs : List ℕ). 66 ∷ s.called ∷ s.calling ∷ 67 ∷ w.called ∷ w.calling ∷ xs) e,
)

few_own : (sizes windows : Option Directions) → length (strict_field.facility 66 sizes ++ strict_field.facility 67 windows) ≤ 6
few_own None None = omega arith
few_own (Some s) None = omega arith
few_own None (Some w) = omega arith
few_own (Some s) (Some w) = omega arith

said_itself : (sizes windows : Option Directions) → strict_field.IfGiven sizes (strict_field.AreWithin 4 12)
    → strict_field.IfGiven windows (strict_field.AreWithin 1 7)
    → said sizes windows ≡ Ok (strict_field.facility 66 sizes ++ strict_field.facility 67 windows)
said_itself None None h k = refl
said_itself (Some s) None h k = rw (within_when 4 12 s h) refl
said_itself None (Some w) h k = rw (within_when 1 7 w k) refl
said_itself (Some s) (Some w) h k = rw (within_when 4 12 s h, within_when 1 7 w k) refl

said_behind : (sizes windows : Option Directions) (more : List ℕ) → (own_in none_own 0 more).packet_size ≡ None → (own_in none_own 0 more).window_size ≡ None
    → field_said (own_in none_own 0 ((strict_field.facility 66 sizes ++ strict_field.facility 67 windows) ++ more)) ≡ said sizes windows
said_behind sizes windows more no_sizes no_windows =
    ap field_said (own_first sizes windows more)
    ∙ ap₂ said
    (sizes_behind (own_of sizes windows) 0 more ∙ ap (λ o. or_before o sizes) no_sizes)
    (windows_behind (own_of sizes windows) 0 more ∙ ap (λ o. or_before o windows) no_windows)

says_still : (field : List ℕ) (b : PlainGiven) → strict_field.IsFacilityField field → IsGiven b → SaysStill field b.facilities
says_still field b (f, allowed, e) is = subst (λ (xs : List ℕ). SaysStill xs b.facilities) (sym e) (record {
  whole = whole_behind f.packet_size f.window_size b.facilities is.facilities;
  few = few_own f.packet_size f.window_size;
  said = said_behind f.packet_size f.window_size b.facilities is.sizes is.windows ∙ said_itself f.packet_size f.window_size allowed.sizes allowed.windows;
})

-- ---- packets

-- the octets spell a packet, which is taken for v
record Taken (most : ℕ) (b : PlainGiven) (v : strict.PlainPacket) : Type 0 where
  pub wide : PlainForm
  pub packet : IsPacket Any most wide
  pub spelling : written b v ≡ spelling_of wide
  pub taken : narrow_of wide ≡ Ok v

taken_as : (most : ℕ) (b : PlainGiven) (v : strict.PlainPacket) → Taken most b v → taken_of (form_in most (written b v)) ≡ Ok v
taken_as most b v t = ap taken_of (only_found Any most (written b v) t.wide (record { packet = t.packet; spelling = t.spelling })) ∙ t.taken

no_digits : hold_digits 0 [] ≡ true
unfolding halves_of
no_digits = refl

call_marks : (d : Bool) → may_have Any false d 11 ≡ true
call_marks true = refl
call_marks false = refl

accept_marks : (d : Bool) → may_have Any false d 15 ≡ true
accept_marks true = refl
accept_marks false = refl

call_taken : (most channel : ℕ) (b : PlainGiven) (called calling field user : List ℕ) → most ≤ 128 → IsGiven b → strict_spelling.IsChannel channel
    → IsAddress called → IsAddress calling
    → strict_field.IsFacilityField field → length user ≤ 128 → MayGo most b (strict.call channel called calling field user)
    → Taken most b (strict.call channel called calling field user)
call_taken most channel b called calling field user within is on a c f short may =
    let still = says_still field b f is in
    let few_called = a.short in
    let few_calling = c.short in
    let field_few = still.few in
    let more_few = is.few in
    let sum : length (field ++ b.facilities) ≡ length field + length b.facilities = length-append field b.facilities in
    let block = call_block called calling (fields (field ++ b.facilities) user) in
    record {
      wide = headed channel b.d (call block);
      packet = record {
        channel = on.1;
        place = on.0;
        marks = call_marks b.d;
        kind = (
          record {
            addresses = record { called = omega arith; calling = omega arith; size = length-pairs called calling; halves = packed_holds called calling a c };
            fields = record { facilities = still.whole; few = omega (arith, sum, field_few, more_few); short = omega (arith, short) };
          },
          may,
        );
      };
      spelling = refl;
      taken = ap (narrowed (headed channel b.d (call block))) still.said ∙ rw (called_again called calling a c, calling_again called calling a c) refl;
    }

accept_taken : (most channel : ℕ) (b : PlainGiven) (field : List ℕ) → IsGiven b → strict_spelling.IsChannel channel → strict_field.IsFacilityField field
    → Taken most b (strict.accept channel field)
accept_taken most channel b field is on f =
    let still = says_still field b f is in
    let field_few = still.few in
    let more_few = is.few in
    let sum : length (field ++ b.facilities) ≡ length field + length b.facilities = length-append field b.facilities in
    let block = bare_block (fields (field ++ b.facilities) b.user) in
    record {
      wide = headed channel b.d (accept (Some block));
      packet = record {
        channel = on.1;
        place = on.0;
        marks = accept_marks b.d;
        kind = record {
          addresses = record { called = omega arith; calling = omega arith; size = refl; halves = no_digits };
          fields = record { facilities = still.whole; few = omega (arith, sum, field_few, more_few); short = is.short };
        };
      };
      spelling = refl;
      taken = ap (narrowed (headed channel b.d (accept (Some block)))) still.said;
    }

clear_taken : (most channel cause diagnostic : ℕ) (b : PlainGiven) → IsGiven b → strict_spelling.IsChannel channel
    → Taken most b (strict.clear channel cause diagnostic)
clear_taken most channel cause diagnostic b is on =
    let more_few = is.few in
    let block = bare_block (fields b.facilities b.user) in
    record {
      wide = headed channel false (extended_clear cause diagnostic block);
      packet = record {
        channel = on.1;
        place = on.0;
        marks = refl;
        kind = record {
          addresses = record { called = omega arith; calling = omega arith; size = refl; halves = no_digits };
          fields = record { facilities = is.facilities; few = omega (arith, more_few); short = is.short };
        };
      };
      spelling = refl;
      taken = refl;
    }

pub written_is_read : TakesWhatIsSpelled → WrittenIsRead
written_is_read spelled b most (strict.call channel called calling field user) within allowed h may small =
    taken_as most b _ (call_taken most channel b called calling field user within (given_when b allowed) h.0 h.1 h.2 h.3 h.4 may)
written_is_read spelled b most (strict.accept channel field) within allowed h may small =
    taken_as most b _ (accept_taken most channel b field (given_when b allowed) h.0 h.1)
written_is_read spelled b most (strict.clear channel cause diagnostic) within allowed h may small =
    taken_as most b _ (clear_taken most channel cause diagnostic b (given_when b allowed) h)
written_is_read spelled b most strict.restart_conf within allowed h may small = spelled most _ within small h
written_is_read spelled b most v within allowed h may small = spelled most _ within small h

-- ---- and read in the form in which it was written

found_as : (most : ℕ) (b : PlainGiven) (v : strict.PlainPacket) (w : PlainForm) → (t : Taken most b v) → Some t.wide ≡ Some w → form_in most (written b v)
    ≡ Ok w
found_as most b v w t is = only_found Any most (written b v) t.wide (record { packet = t.packet; spelling = t.spelling })
    ∙ ap (λ (x : PlainForm). Ok x) (same_Some t.wide w is)

none_some : {A : Type 0} (x : A) → None ≡ Some x → ⊥
none_some x e = cc

pub written_in_form : WrittenIsInForm
unfolding call_taken accept_taken clear_taken
written_in_form b most (strict.call channel called calling field user) w within allowed h may is =
    found_as most b _ w (call_taken most channel b called calling field user within (given_when b allowed) h.0 h.1 h.2 h.3 h.4 may) is
written_in_form b most (strict.accept channel field) w within allowed h may is =
    found_as most b _ w (accept_taken most channel b field (given_when b allowed) h.0 h.1) is
written_in_form b most (strict.clear channel cause diagnostic) w within allowed h may is =
    found_as most b _ w (clear_taken most channel cause diagnostic b (given_when b allowed) h) is
written_in_form b most strict.restart_conf w within allowed h may is = absurd (none_some w is)
written_in_form b most v w within allowed h may is = absurd (none_some w is)
