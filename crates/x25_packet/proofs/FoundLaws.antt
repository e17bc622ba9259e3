-- What is read as a packet is spelled so.
use Rattle.x25_packet.proofs.Names.{ℕ, zero, suc, ◌+◌, ◌*◌, ◌/◌, ◌%◌, ◌<◌, ◌≤◌, ◌≡◌, ◌≢◌, ◌∙◌, Bool, true, false, not, List, [], ◌∷◌, ◌++◌, length, get_or}
use Rattle.x25_packet.proofs.Names.{take, drop, refl, ap, sym, subst, inl, inr, arith, nat_eq, nat_lt, Option, Some, None, Result, Ok, Err, cond, max, nat_le}
use Rattle.x25_packet.proofs.Names.{◌||◌, and_parts, leb-true, ltb-false, eqb-true, eqb-false, take-append-drop, length-take-le, PacketError, bit, Facilities}
use Rattle.x25_packet.proofs.Names.{Forms, Written, Any, PlainFields, PlainBlock, fields_octets, block_octets, optional_octets, hold_addresses, IsField}
use Rattle.x25_packet.proofs.Names.{MayBeFields, IsBlock, MayBeBlock, facilities_of, are_facilities, registration, registration_conf, PlainKind, PlainForm}
use Rattle.x25_packet.proofs.Names.{call, accept, extended_clear, clear_conf, rr, rnr, rej, interrupt_conf, reset, reset_conf, restart, restart_conf, type_of}
use Rattle.x25_packet.proofs.Names.{body_of, reason_octets, may_have, HasFacilities, HasPlace, IsAnswer, IsShort, IsKind, MayLack, Spells, Reads, Gives, when}
use Rattle.x25_packet.proofs.Names.{mapped, is_over, field_read, fields_of, with_addresses, addressed, block_of, optional_block, bare, is_short, called}
use Rattle.x25_packet.proofs.Names.{call_of, written_answer, accept_of, reason_of, caused, clear_of, clear_conf_of, interrupt_of, data_of, rej_of, others}
use Rattle.x25_packet.proofs.{FacilityLaws.{chosen, ok_err, ok_same, facilities_found}, FacilityLemmas.{field_found}, FieldLaws.{field_few}}
use Rattle.x25_packet.{proofs.Names.{unchannelled, named, channelled, kind_of, has_format, with_head, read_of}, specs.Block.{bound_of}}
use Rattle.x25_packet.specs.{Classes.{asks_fast_select}, Form.{plain}, Grammar.{diagnostic_of, registered}, declared.form.Form.{Form}}

-- no error by a test
pub passed : {A : Type 0} (b : Bool) (e : PacketError) (r : Result A PacketError) (v : A) → cond b (Err e) r ≡ Ok v → (b ≡ false) × (r ≡ Ok v)
passed true e r v h = absurd (ok_err h)
passed false e r v h = (refl, h)

pub kept : {A : Type 0} (b : Bool) (r : Result A PacketError) (e : PacketError) (v : A) → cond b r (Err e) ≡ Ok v → (b ≡ true) × (r ≡ Ok v)
kept true r e v h = (refl, h)
kept false r e v h = absurd (ok_err h)

pub is_true : (b : Bool) → not b ≡ false → b ≡ true
is_true true h = refl
is_true false h = let bad : true ≡ false = h in cc

pub mapped_found : {A B : Type 0} (f : A → B) (r : Result A PacketError) (v : B) → mapped f r ≡ Ok v → (w : A) × (r ≡ Ok w) × (f w ≡ v)
mapped_found f (Ok w) v e = (w, refl, ok_same e)
mapped_found f (Err x) v e = absurd (ok_err e)

front : (a b : ℕ) (xs ys : List ℕ) → a ≡ b → xs ≡ ys → a ∷ xs ≡ b ∷ ys
front a b xs ys h k = cc

-- ---- addresses, facilities and user data

-- each octet
abbrev pub AreSmall : List ℕ → Type 0
AreSmall octets = (i : ℕ) → get_or octets i 0 < 256

pub when_found : {A : Type 0} (r : Result (Unit {0}) PacketError) (next : Result A PacketError) (v : A) → when r next ≡ Ok v → (r ≡ Ok tt) × (next ≡ Ok v)
when_found (Ok tt) next v e = (refl, e)
when_found (Err x) next v e = absurd (ok_err e)

pub field_read_found : (forms : Forms) (field : List ℕ) → field_read forms field ≡ Ok tt → IsField forms field
field_read_found Written field e =
    let read = mapped_found (λ (facilities : Facilities). tt) (facilities_of field) tt e in
    let found = facilities_found field read.0 read.1 in
    (read.0, found.allowed, found.spelling)
field_read_found Any field e = field_found field (kept (are_facilities 0 field) (Ok tt) _ tt e).0

few_in : (forms : Forms) (field : List ℕ) (size : ℕ) → is_over forms size ≡ false → length field ≡ size → IsField forms field → length field ≤ 109
few_in Written field size room long f = let few = field_few field f in omega arith
few_in Any field size room long f = let few : size ≤ 109 = ltb-false _ _ room in omega arith

record FieldsFound (forms : Forms) (most : ℕ) (octets : List ℕ) (f : Option PlainFields) : Type 0 where
  pub are_fields : MayBeFields forms most f
  pub spelled : octets ≡ fields_octets f

fields_found : (forms : Forms) (most : ℕ) (octets : List ℕ) (f : Option PlainFields) → fields_of forms most octets ≡ Ok f → FieldsFound forms most octets f
fields_found Written most [] f e = absurd (ok_err e)
fields_found Any most [] f e = subst (FieldsFound Any most []) (ok_same e) (record { are_fields = tt; spelled = refl })
fields_found forms most (size ∷ rest) f e =
    let few = passed (is_over forms size) _ _ f e in
    let room = passed (nat_lt (length rest) size) _ _ f few.1 in
    let whole = when_found (field_read forms (take size rest)) _ f room.1 in
    let short = passed (nat_lt most (length (drop size rest))) _ _ f whole.1 in
    let long : length (take size rest) ≡ size = length-take-le size rest (ltb-false _ _ room.0) in
    let field = field_read_found forms (take size rest) whole.0 in
    subst (FieldsFound forms most (size ∷ rest)) (ok_same short.1) (record {
      are_fields = record {
        facilities = field;
        few = few_in forms (take size rest) size few.0 long field;
        short = ltb-false _ _ short.0;
      };
      spelled = front _ _ _ _ (sym long) (sym (take-append-drop size rest));
    })

pub record BlockFound (forms : Forms) (a : Bool) (most : ℕ) (octets : List ℕ) (b : PlainBlock) : Type 0 where
  pub is_block : IsBlock forms a most b
  pub spelled : octets ≡ block_octets a b

pub with_addresses_found : (called calling : ℕ) (addresses : List ℕ) (r : Result (Option PlainFields) PacketError) (b : PlainBlock)
    → with_addresses called calling addresses r ≡ Ok b
    → (f : Option PlainFields) × (r ≡ Ok f) × ((let w : PlainBlock = record { called = called; calling = calling; addresses = addresses; fields = f } in w) ≡ b)
with_addresses_found called calling addresses (Ok f) b e = (f, refl, ok_same e)
with_addresses_found called calling addresses (Err x) b e = absurd (ok_err e)

-- what stands behind the lengths
record Addressed (forms : Forms) (a : Bool) (most called calling : ℕ) (octets : List ℕ) (b : PlainBlock) : Type 0 where
  pub is_block : IsBlock forms a most b
  pub called_is : called ≡ b.called
  pub calling_is : calling ≡ b.calling
  pub spelled : octets ≡ b.addresses ++ fields_octets b.fields

addressed_found : (forms : Forms) (a : Bool) (most called calling : ℕ) (octets : List ℕ) (b : PlainBlock) → called < bound_of a → calling < bound_of a
    → addressed forms a most called calling octets ≡ Ok b → Addressed forms a most called calling octets b
addressed_found forms a most called calling octets b low high e =
    let size = (called + calling + 1) / 2 in
    let room = passed (nat_lt (length octets) size) _ _ b e in
    let halves = passed (not (hold_addresses a (called + calling) (take size octets))) _ _ b room.1 in
    let parts = with_addresses_found called calling (take size octets) (fields_of forms most (drop size octets)) b halves.1 in
    let found = fields_found forms most (drop size octets) parts.0 parts.1 in
    subst (Addressed forms a most called calling octets) parts.2 (record {
      is_block = record {
        addresses = record {
          called = low;
          calling = high;
          size = length-take-le size octets (ltb-false _ _ room.0);
          halves = is_true _ halves.0;
        };
        fields = found.are_fields;
      };
      called_is = refl;
      calling_is = refl;
      spelled = sym (take-append-drop size octets) ∙ ap (λ (o : List ℕ). take size octets ++ o) found.spelled;
    })

pub block_found : (forms : Forms) (a : Bool) (most : ℕ) (octets : List ℕ) (b : PlainBlock) → AreSmall octets → block_of forms a most octets ≡ Ok b
    → BlockFound forms a most octets b
block_found forms false most [] b small e = absurd (ok_err e)
block_found forms false most (lengths ∷ octets) b small e =
    let few : lengths < 256 = small 0 in
    let low : lengths % 16 < 16 = omega arith in
    let high : lengths / 16 < 16 = omega (arith, few) in
    let found = addressed_found forms false most (lengths % 16) (lengths / 16) octets b low high e in
    let joined : lengths ≡ 16 * (lengths / 16) + lengths % 16 = omega arith in
    record {
      is_block = found.is_block;
      spelled = front _ _ _ _ (joined ∙ ap (λ n. 16 * n + lengths % 16) found.calling_is ∙ ap (λ n. 16 * b.calling + n) found.called_is) found.spelled;
    }
block_found forms true most [] b small e = absurd (ok_err e)
block_found forms true most (called ∷ []) b small e = absurd (ok_err e)
block_found forms true most (called ∷ calling ∷ octets) b small e =
    let found = addressed_found forms true most called calling octets b (small 0) (small 1) e in
    record {
      is_block = found.is_block;
      spelled = front _ _ _ _ found.called_is (front _ _ _ _ found.calling_is found.spelled);
    }

record OptionalFound (forms : Forms) (a : Bool) (most : ℕ) (octets : List ℕ) (b : Option PlainBlock) : Type 0 where
  pub is_block : MayBeBlock forms a most b
  pub spelled : octets ≡ optional_octets a b

optional_found : (forms : Forms) (a : Bool) (most : ℕ) (octets : List ℕ) (b : Option PlainBlock) → AreSmall octets → optional_block forms a most octets ≡ Ok b
    → OptionalFound forms a most octets b
optional_found forms a most [] b small e = subst (OptionalFound forms a most []) (ok_same e) (record { is_block = tt; spelled = refl })
optional_found forms a most (octet ∷ rest) b small e =
    let parts = mapped_found Some (block_of forms a most (octet ∷ rest)) b e in
    let found = block_found forms a most (octet ∷ rest) parts.0 small parts.1 in
    subst (OptionalFound forms a most (octet ∷ rest)) parts.2 (record { is_block = found.is_block; spelled = found.spelled })

-- ---- by the type

-- the packet has this type and this body
record Found (forms : Forms) (a : Bool) (most channel kind : ℕ) (body : List ℕ) (k : PlainKind) : Type 0 where
  pub is_kind : IsKind forms a most k
  pub place : HasPlace channel k
  pub type_is : type_of k ≡ kind
  pub body_is : body ≡ body_of a k

-- a type of its own
typed : (forms : Forms) (a : Bool) (most channel known kind : ℕ) (body : List ℕ) (k : PlainKind) → nat_eq kind known ≡ true
    → Found forms a most channel known body k → Found forms a most channel kind body k
typed forms a most channel known kind body k e f = let P : ℕ → Type 0 = λ n. Found forms a most channel n body k in subst P (sym (eqb-true _ _ e)) f

bare_found : (forms : Forms) (a : Bool) (most channel kind : ℕ) (body : List ℕ) (v k : PlainKind) → Found forms a most channel kind [] v → bare v body ≡ Ok k
    → Found forms a most channel kind body k
bare_found forms a most channel kind [] v k f e = subst (Found forms a most channel kind []) (ok_same e) f
bare_found forms a most channel kind (octet ∷ rest) v k f e = absurd (ok_err e)

caused_found : (forms : Forms) (a : Bool) (most channel kind : ℕ) (v : ℕ → Option ℕ → PlainKind) (body : List ℕ) (k : PlainKind)
    → ((c : ℕ) (d : Option ℕ) → MayLack forms d → Found forms a most channel kind (reason_octets c d) (v c d)) → caused v (reason_of forms body) ≡ Ok k
    → Found forms a most channel kind body k
caused_found forms a most channel kind v [] k f e = absurd (ok_err e)
caused_found Written a most channel kind v (c ∷ []) k f e = absurd (ok_err e)
caused_found Any a most channel kind v (c ∷ []) k f e = subst (Found Any a most channel kind (c ∷ [])) (ok_same e) (f c None tt)
caused_found forms a most channel kind v (c ∷ d ∷ []) k f e = subst (Found forms a most channel kind (c ∷ d ∷ [])) (ok_same e) (f c (Some d) tt)
caused_found forms a most channel kind v (c ∷ d ∷ octet ∷ rest) k f e = absurd (ok_err e)

short_found : (most : ℕ) (f : Option PlainFields) → is_short most f ≡ true → IsShort most f
short_found most None h = tt
short_found most (Some f) h = elim (chosen (nat_le (length f.user) most) true _ _ (split (nat_le (length f.user) most) (asks_fast_select f.facilities) h)) [
  | inl p ↦ inl (leb-true _ _ p.0)
  | inr p ↦ inr p.1
]
  where
    split : (a b : Bool) → (a || b) ≡ true → cond a true b ≡ true
    split true b e = refl
    split false b e = e

call_found : (forms : Forms) (a : Bool) (most channel : ℕ) (body : List ℕ) (k : PlainKind) → 1 ≤ channel → AreSmall body → call_of forms a most body ≡ Ok k
    → Found forms a most channel 11 body k
call_found Written a most channel body k on small e =
    let parts = mapped_found call (block_of Written a most body) k e in
    let found = block_found Written a most body parts.0 small parts.1 in
    subst (Found Written a most channel 11 body) parts.2 (record { is_kind = found.is_block; place = on; type_is = refl; body_is = found.spelled })
call_found Any a most channel body k on small e = go (block_of Any a (max most 128) body) (λ b. block_found Any a (max most 128) body b small) e
  where
    go : (r : Result PlainBlock PacketError) → ((b : PlainBlock) → r ≡ Ok b → BlockFound Any a (max most 128) body b) → called most r ≡ Ok k
        → Found Any a most channel 11 body k
    go (Err x) f e = absurd (ok_err e)
    go (Ok b) f e =
        let short = kept (is_short most b.fields) _ _ k e in
        let found = f b refl in
        subst (Found Any a most channel 11 body) (ok_same short.1)
        (record { is_kind = (found.is_block, short_found most b.fields short.0); place = on; type_is = refl; body_is = found.spelled })

-- ---- an ACCEPT that a station writes

pub empty_of : (xs : List ℕ) → length xs ≡ 0 → xs ≡ []
empty_of [] h = refl
empty_of (x ∷ xs) h = absurd (omega (arith, h))

no_lengths : (lengths : ℕ) (rest : List ℕ) → written_answer (lengths ∷ rest) ≡ Ok tt → lengths ≡ 0
no_lengths lengths [] e = eqb-true _ _ (kept (nat_eq lengths 0) (Ok tt) _ tt e).0
no_lengths lengths (size ∷ rest) e = eqb-true _ _ (kept (nat_eq lengths 0) _ _ tt e).0

has_facilities : (lengths : ℕ) (rest : List ℕ) (f : Option PlainFields) → written_answer (lengths ∷ rest) ≡ Ok tt → rest ≡ fields_octets f
    → MayBeFields Written 0 f → HasFacilities f
has_facilities lengths rest None e same is = absurd is
has_facilities lengths [] (Some f) e same is = let none : 0 ≡ length (fields_octets (Some f)) = ap length same in absurd (omega (arith, none))
has_facilities lengths (size ∷ rest) (Some f) e same is =
    let some : size ≢ 0 = eqb-false _ _ (passed (nat_eq size 0) _ _ tt (kept (nat_eq lengths 0) _ _ tt e).1).0 in
    let first : size ≡ length f.facilities = ap (λ (o : List ℕ). get_or o 0 0) same in
    omega arith

answered : (body : List ℕ) (b : Option PlainBlock) → body ≡ optional_octets false b → MayBeBlock Written false 0 b → written_answer body ≡ Ok tt
    → IsAnswer Written false b
answered body None same is e = tt
answered [] (Some b) same is e = let none : 0 ≡ length (block_octets false b) = ap length same in absurd (omega (arith, none))
answered (lengths ∷ rest) (Some b) same is e =
    let none : lengths ≡ 0 = no_lengths lengths rest e in
    let first : lengths ≡ 16 * b.calling + b.called = ap (λ (o : List ℕ). get_or o 0 0) same in
    let called : b.called ≡ 0 = omega arith in
    let calling : b.calling ≡ 0 = omega arith in
    let size : length b.addresses ≡ (b.called + b.calling + 1) / 2 = is.addresses.size in
    let empty : b.addresses ≡ [] = empty_of b.addresses (omega arith) in
    let tail : rest ≡ b.addresses ++ fields_octets b.fields = ap (λ (o : List ℕ). drop 1 o) same in
    (is, called, calling, has_facilities lengths rest b.fields e (tail ∙ ap (λ (o : List ℕ). o ++ fields_octets b.fields) empty) is.fields)

accept_found : (forms : Forms) (a d : Bool) (most channel : ℕ) (body : List ℕ) (k : PlainKind) → may_have forms a d 15 ≡ true → 1 ≤ channel → AreSmall body
    → accept_of forms a body ≡ Ok k
    → Found forms a most channel 15 body k
accept_found Written true d most channel body k marks on small e = let bad : false ≡ true = marks in absurd (cc)
accept_found Written false d most channel body k marks on small e =
    let read = when_found (written_answer body) _ k e in
    let parts = mapped_found accept (optional_block Written false 0 body) k read.1 in
    let found = optional_found Written false 0 body parts.0 small parts.1 in
    subst (Found Written false most channel 15 body) parts.2
    (record { is_kind = answered body parts.0 found.spelled found.is_block read.0; place = on; type_is = refl; body_is = found.spelled })
accept_found Any a d most channel body k marks on small e =
    let parts = mapped_found accept (optional_block Any a 128 body) k e in
    let found = optional_found Any a 128 body parts.0 small parts.1 in
    subst (Found Any a most channel 15 body) parts.2 (record { is_kind = found.is_block; place = on; type_is = refl; body_is = found.spelled })

clear_conf_found : (forms : Forms) (a : Bool) (most channel : ℕ) (body : List ℕ) (k : PlainKind) → 1 ≤ channel → AreSmall body → clear_conf_of forms a body
    ≡ Ok k
    → Found forms a most channel 23 body k
clear_conf_found Written a most channel body k on small e = bare_found Written a most channel 23 body (clear_conf None) k
    (record { is_kind = refl; place = on; type_is = refl; body_is = refl }) e
clear_conf_found Any a most channel body k on small e =
    let parts = mapped_found clear_conf (optional_block Any a 0 body) k e in
    let found = optional_found Any a 0 body parts.0 small parts.1 in
    subst (Found Any a most channel 23 body) parts.2 (record { is_kind = found.is_block; place = on; type_is = refl; body_is = found.spelled })

clear_found : (forms : Forms) (a : Bool) (most channel : ℕ) (body : List ℕ) (k : PlainKind) → 1 ≤ channel → AreSmall body → clear_of forms a body ≡ Ok k
    → Found forms a most channel 19 body k
clear_found forms a most channel [] k on small e = absurd (ok_err e)
clear_found Written a most channel (c ∷ []) k on small e = absurd (ok_err e)
clear_found Any a most channel (c ∷ []) k on small e =
    subst (Found Any a most channel 19 (c ∷ [])) (ok_same e) (record { is_kind = tt; place = on; type_is = refl; body_is = refl })
clear_found forms a most channel (c ∷ d ∷ []) k on small e =
    subst (Found forms a most channel 19 (c ∷ d ∷ [])) (ok_same e) (record { is_kind = tt; place = on; type_is = refl; body_is = refl })
clear_found Written a most channel (c ∷ d ∷ octet ∷ rest) k on small e = absurd (ok_err e)
clear_found Any a most channel (c ∷ d ∷ octet ∷ rest) k on small e =
    let parts = mapped_found (extended_clear c d) (block_of Any a 128 (octet ∷ rest)) k e in
    let found = block_found Any a 128 (octet ∷ rest) parts.0 (λ i. small (suc (suc i))) parts.1 in
    subst (Found Any a most channel 19 (c ∷ d ∷ octet ∷ rest)) parts.2
    (record { is_kind = found.is_block; place = on; type_is = refl; body_is = ap (λ (o : List ℕ). c ∷ d ∷ o) found.spelled })

interrupt_found : (forms : Forms) (a : Bool) (most channel : ℕ) (body : List ℕ) (k : PlainKind) → 1 ≤ channel → interrupt_of body ≡ Ok k
    → Found forms a most channel 35 body k
interrupt_found forms a most channel [] k on e = absurd (ok_err e)
interrupt_found forms a most channel (octet ∷ rest) k on e =
    let short = kept (nat_le (length (octet ∷ rest)) 32) _ _ k e in
    subst (Found forms a most channel 35 (octet ∷ rest)) (ok_same short.1)
    (record { is_kind = (omega arith, leb-true _ _ short.0); place = on; type_is = refl; body_is = refl })

pub bit_eq : (n : ℕ) → n < 2 → bit (nat_eq n 1) ≡ n
bit_eq zero h = refl
bit_eq (suc zero) h = refl
bit_eq (suc (suc n)) h = absurd (omega arith)

data_found : (forms : Forms) (a : Bool) (most channel kind : ℕ) (body : List ℕ) (k : PlainKind) → 1 ≤ channel → kind < 256 → kind % 2 ≡ 0 → data_of kind body
    ≡ Ok k → Found forms a most channel kind body k
data_found forms a most channel kind body k on small even e =
    let short = kept (nat_le (length body) 4096) _ _ k e in
    let mark = bit_eq (kind / 16 % 2) (omega arith) in
    subst (Found forms a most channel kind body) (ok_same short.1) (record {
      is_kind = (omega arith, omega arith, leb-true _ _ short.0);
      place = on;
      type_is = rw mark (omega arith);
      body_is = refl;
    })

diagnostic_found : (a : Bool) (most : ℕ) (body : List ℕ) (k : PlainKind) → diagnostic_of body ≡ Ok k → Found Any a most 0 241 body k
diagnostic_found a most [] k e = absurd (ok_err e)
diagnostic_found a most (number ∷ explanation) k e =
    let short = kept (nat_le (length explanation) 3) _ _ k e in
    subst (Found Any a most 0 241 (number ∷ explanation)) (ok_same short.1)
    (record { is_kind = leb-true _ _ short.0; place = refl; type_is = refl; body_is = refl })

registered_found : (a : Bool) (most kind : ℕ) (f : List ℕ → PlainKind) (body : List ℕ) (k : PlainKind)
    → (length body ≤ 4096 → Found Any a most 0 kind body (f body))
    → mapped f (registered body) ≡ Ok k → Found Any a most 0 kind body k
registered_found a most kind f body k found e =
    let parts = mapped_found f (registered body) k e in
    let short = kept (nat_le (length body) 4096) _ _ parts.0 parts.1 in
    subst (Found Any a most 0 kind body) (ap f (ok_same short.1) ∙ parts.2) (found (leb-true _ _ short.0))

others_found : (forms : Forms) (a : Bool) (most kind : ℕ) (body : List ℕ) (k : PlainKind) → others forms kind body ≡ Ok k → Found forms a most 0 kind body k
others_found Written a most kind body k e = absurd (ok_err e)
others_found Any a most kind body k e = elim (chosen (nat_eq kind 241) _ _ _ e) [
  | inl r ↦ typed Any a most 0 241 kind body k r.0 (diagnostic_found a most body k r.1)
  | inr r ↦ elim (chosen (nat_eq kind 243) _ _ _ r.1) [
    | inl s ↦ typed Any a most 0 243 kind body k s.0
        (registered_found a most 243 registration body k (λ few. record { is_kind = few; place = refl; type_is = refl; body_is = refl }) s.1)
    | inr s ↦ let t = kept (nat_eq kind 247) _ _ k s.1 in typed Any a most 0 247 kind body k t.0
        (registered_found a most 247 registration_conf body k (λ few. record { is_kind = few; place = refl; type_is = refl; body_is = refl }) t.1)
  ]
]

unchannelled_found : (forms : Forms) (a : Bool) (most kind : ℕ) (body : List ℕ) (k : PlainKind) → unchannelled forms kind body ≡ Ok k
    → Found forms a most 0 kind body k
unchannelled_found forms a most kind body k e = elim (chosen (nat_eq kind 251) _ _ _ e) [
  | inl p ↦ typed forms a most 0 251 kind body k p.0
      (caused_found forms a most 0 251 restart body k (λ c d may. record { is_kind = may; place = refl; type_is = refl; body_is = refl }) p.1)
  | inr p ↦ elim (chosen (nat_eq kind 255) _ _ _ p.1) [
    | inl q ↦ typed forms a most 0 255 kind body k q.0
        (bare_found forms a most 0 255 body restart_conf k (record { is_kind = tt; place = refl; type_is = refl; body_is = refl }) q.1)
    | inr q ↦ others_found forms a most kind body k q.1
  ]
]

rej_found : (forms : Forms) (a : Bool) (most channel kind : ℕ) (body : List ℕ) (k : PlainKind) → 1 ≤ channel → kind < 256 → kind % 32 ≡ 9
    → rej_of forms (kind / 32) body ≡ Ok k
    → Found forms a most channel kind body k
rej_found Written a most channel kind body k on small h e = absurd (ok_err e)
rej_found Any a most channel kind body k on small h e =
    bare_found Any a most channel kind body (rej (kind / 32)) k
    (record { is_kind = omega (arith, small); place = on; type_is = omega (arith, h); body_is = refl }) e

named_found : (forms : Forms) (a d : Bool) (most channel kind : ℕ) (body : List ℕ) (k : PlainKind) → may_have forms a d kind ≡ true → 1 ≤ channel
    → AreSmall body → named forms a most kind body ≡ Ok k → Found forms a most channel kind body k
named_found forms a d most channel kind body k marks on small e = elim (chosen (nat_eq kind 11) _ _ _ e) [
  | inl p ↦ typed forms a most channel 11 kind body k p.0 (call_found forms a most channel body k on small p.1)
  | inr p ↦ elim (chosen (nat_eq kind 15) _ _ _ p.1) [
    | inl q ↦ typed forms a most channel 15 kind body k q.0
        (accept_found forms a d most channel body k (subst (λ n. may_have forms a d n ≡ true) (eqb-true _ _ q.0) marks) on small q.1)
    | inr q ↦ elim (chosen (nat_eq kind 19) _ _ _ q.1) [
      | inl r ↦ typed forms a most channel 19 kind body k r.0 (clear_found forms a most channel body k on small r.1)
      | inr r ↦ elim (chosen (nat_eq kind 23) _ _ _ r.1) [
        | inl s ↦ typed forms a most channel 23 kind body k s.0 (clear_conf_found forms a most channel body k on small s.1)
        | inr s ↦ elim (chosen (nat_eq kind 35) _ _ _ s.1) [
          | inl t ↦ typed forms a most channel 35 kind body k t.0 (interrupt_found forms a most channel body k on t.1)
          | inr t ↦ elim (chosen (nat_eq kind 39) _ _ _ t.1) [
            | inl u ↦ typed forms a most channel 39 kind body k u.0
                (bare_found forms a most channel 39 body interrupt_conf k (record { is_kind = tt; place = on; type_is = refl; body_is = refl }) u.1)
            | inr u ↦ elim (chosen (nat_eq kind 27) _ _ _ u.1) [
              | inl w ↦ typed forms a most channel 27 kind body k w.0
                  (caused_found forms a most channel 27 reset body k (λ c d may. record { is_kind = may; place = on; type_is = refl; body_is = refl }) w.1)
              | inr w ↦ let x = kept (nat_eq kind 31) _ _ k w.1 in typed forms a most channel 31 kind body k x.0
                  (bare_found forms a most channel 31 body reset_conf k (record { is_kind = tt; place = on; type_is = refl; body_is = refl }) x.1)
            ]
          ]
        ]
      ]
    ]
  ]
]

-- a packet with a number in its type
numbered_found : (forms : Forms) (a : Bool) (most channel kind low : ℕ) (f : ℕ → PlainKind) (body : List ℕ) (k : PlainKind) → nat_eq (kind % 32) low ≡ true
    → (kind % 32 ≡ low → Found forms a most channel kind [] (f (kind / 32))) → bare (f (kind / 32)) body ≡ Ok k → Found forms a most channel kind body k
numbered_found forms a most channel kind low f body k at found e = bare_found forms a most channel kind body (f (kind / 32)) k (found (eqb-true _ _ at)) e

channelled_found : (forms : Forms) (a d : Bool) (most channel kind : ℕ) (body : List ℕ) (k : PlainKind) → may_have forms a d kind ≡ true → 1 ≤ channel
    → kind < 256 → AreSmall body → channelled forms a most kind body ≡ Ok k
    → Found forms a most channel kind body k
channelled_found forms a d most channel kind body k marks on small octets e = elim (chosen (nat_eq (kind % 2) 0) _ _ _ e) [
  | inl p ↦ data_found forms a most channel kind body k on small (eqb-true _ _ p.0) p.1
  | inr p ↦ elim (chosen (nat_eq (kind % 32) 1) _ _ _ p.1) [
    | inl q ↦ numbered_found forms a most channel kind 1 rr body k q.0
        (λ h. record { is_kind = omega (arith, small); place = on; type_is = omega (arith, h); body_is = refl }) q.1
    | inr q ↦ elim (chosen (nat_eq (kind % 32) 5) _ _ _ q.1) [
      | inl r ↦ numbered_found forms a most channel kind 5 rnr body k r.0
          (λ h. record { is_kind = omega (arith, small); place = on; type_is = omega (arith, h); body_is = refl }) r.1
      | inr r ↦ elim (chosen (nat_eq (kind % 32) 9) _ _ _ r.1) [
        | inl s ↦ rej_found forms a most channel kind body k on small (eqb-true _ _ s.0) s.1
        | inr s ↦ named_found forms a d most channel kind body k marks on octets s.1
      ]
    ]
  ]
]

kind_found : (forms : Forms) (a d : Bool) (most channel kind : ℕ) (body : List ℕ) (k : PlainKind) → may_have forms a d kind ≡ true → kind < 256 → AreSmall body
    → kind_of forms a most channel kind body ≡ Ok k → Found forms a most channel kind body k
kind_found forms a d most channel kind body k marks small octets e = elim (chosen (nat_eq channel 0) _ _ _ e) [
  | inl p ↦ let P : ℕ → Type 0 = λ n. Found forms a most n kind body k in subst P (sym (eqb-true _ _ p.0)) (unchannelled_found forms a most kind body k p.1)
  | inr p ↦ let some : channel ≢ 0 = eqb-false _ _ p.0 in channelled_found forms a d most channel kind body k marks (omega arith) small octets p.1
]

-- ---- the whole packet

with_head_found : (channel : ℕ) (q d : Bool) (r : Result PlainKind PacketError) (w : PlainForm) → with_head channel q d r ≡ Ok w
    → (k : PlainKind) × (r ≡ Ok k) × ((let v : PlainForm = record { channel = channel; bit_8 = q; d = d; kind = k } in v) ≡ w)
with_head_found channel q d (Ok k) w e = (k, refl, ok_same e)
with_head_found channel q d (Err x) w e = absurd (ok_err e)

pub found_spells : (forms : Forms) (most : ℕ) (octets : List ℕ) (w : PlainForm) → AreSmall octets → read_of forms most octets ≡ Ok w
    → Spells forms most w octets
unfolding read_of
found_spells forms most [] w small e = absurd (ok_err e)
found_spells forms most (first ∷ []) w small e = absurd (ok_err e)
found_spells forms most (first ∷ second ∷ []) w small e = absurd (ok_err e)
found_spells forms most (first ∷ second ∷ kind ∷ body) w small e =
    let few : first < 256 = small 0 in
    let less : second < 256 = small 1 in
    let format = kept (has_format forms first kind) _ _ w e in
    let channel = first % 16 * 256 + second in
    let marks = and_parts (nat_eq (first / 16 % 4) 1) _ format.0 in
    let parts = with_head_found channel (nat_eq (first / 128) 1) (nat_eq (first / 64 % 2) 1) (kind_of forms (nat_eq (first / 128) 1) most channel kind body) w
    format.1 in
    let found = kind_found forms (nat_eq (first / 128) 1) (nat_eq (first / 64 % 2) 1) most channel kind body parts.0 marks.1 (small 2)
    (λ i. small (suc (suc (suc i)))) parts.1 in
    let modulo : first / 16 % 4 ≡ 1 = eqb-true _ _ marks.0 in
    let q = bit_eq (first / 128) (omega (arith, few)) in
    let d = bit_eq (first / 64 % 2) (omega arith) in
    subst (λ v. Spells forms most v (first ∷ second ∷ kind ∷ body)) parts.2 (record {
      packet = record {
        channel = omega (arith, few, less);
        place = found.place;
        marks = rw found.type_is marks.1;
        kind = found.is_kind;
      };
      spelling = front _ _ _ _ (rw (q, d) (omega (arith, few, less, modulo)))
          (front _ _ _ _ (omega (arith, few, less)) (front _ _ _ _ (sym found.type_is) found.body_is));
    })

-- octets are read to the packet as it is
pub read_form : (r : Result Form PacketError) (x : Result PlainForm PacketError)
    → Reads (λ (s : Result Form PacketError) (w : PlainForm). Gives plain s (Ok w)) r x → Gives plain r x
read_form r (Ok w) gives = gives
read_form r (Err e) is = subst (λ (s : Result Form PacketError). Gives plain s (Err e)) (sym is) refl
