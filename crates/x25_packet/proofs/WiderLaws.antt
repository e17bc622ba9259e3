-- What is read in the form that a station writes is read so in any form.
use Rattle.x25_packet.proofs.Names.{ℕ, ◌+◌, ◌*◌, ◌/◌, ◌%◌, ◌≤◌, ◌≡◌, ◌∙◌, Bool, true, false, not, List, [], ◌∷◌, length, take, drop, refl, ap, subst, arith}
use Rattle.x25_packet.proofs.Names.{nat_eq, nat_lt, Option, Some, Result, Ok, Err, ◌||◌, cond, max, and_parts, and_from, le-leb, le-ltb, ltb-false}
use Rattle.x25_packet.proofs.Names.{length-take-le, PacketError, Written, Any, PlainFields, PlainBlock, hold_addresses, PlainPacket, packet_of, taken_of}
use Rattle.x25_packet.proofs.Names.{PlainKind, PlainForm, call, accept, reset, restart, may_have, mapped, is_over, field_read, fields_of, with_addresses}
use Rattle.x25_packet.proofs.Names.{addressed, block_of, optional_block, is_short, called, call_of, written_answer, accept_of, reason_of, caused, clear_of}
use Rattle.x25_packet.proofs.Names.{clear_conf_of, rej_of, others, unchannelled, named, channelled, kind_of, has_format, with_head, read_of, form_in}
use Rattle.x25_packet.proofs.{FacilityLaws.{ok_err, ok_same}, FacilityLemmas.{field_again}, FieldLaws.{says_itself}}
use Rattle.x25_packet.proofs.FoundLaws.{passed, kept, mapped_found, when_found, field_read_found, with_addresses_found}

-- what the first gives, the second gives too
abbrev Widens : {A : Type 0} → Result A PacketError → Result A PacketError → Type 0
Widens {A} r s = (v : A) → r ≡ Ok v → s ≡ Ok v

same : {A : Type 0} (r : Result A PacketError) → Widens r r
same r v e = e

either : {A : Type 0} (b : Bool) (x y z w : Result A PacketError) → Widens x z → Widens y w → Widens (cond b x y) (cond b z w)
either true x y z w f g = f
either false x y z w f g = g

mapped_wider : {A B : Type 0} (f : A → B) (r s : Result A PacketError) → Widens r s → Widens (mapped f r) (mapped f s)
mapped_wider f (Ok u) s w v e = ap (mapped f) (w u refl) ∙ e
mapped_wider f (Err x) s w v e = absurd (ok_err e)

-- ---- addresses, facilities and user data, which are short

fields_wider : (most more : ℕ) (octets : List ℕ) (f : Option PlainFields) → most ≤ more → fields_of Written most octets ≡ Ok f
    → (fields_of Any more octets ≡ Ok f) × (is_short most f ≡ true)
fields_wider most more [] f within e = absurd (ok_err e)
fields_wider most more (size ∷ rest) f within e =
    let room = passed (nat_lt (length rest) size) _ _ f e in
    let whole = when_found (field_read Written (take size rest)) _ f room.1 in
    let short = passed (nat_lt most (length (drop size rest))) _ _ f whole.1 in
    let long : length (take size rest) ≡ size = length-take-le size rest (ltb-false _ _ room.0) in
    let itself = says_itself (take size rest) (field_read_found Written (take size rest) whole.0) in
    let six = itself.few in
    let few : is_over Any size ≡ false = le-ltb _ _ (omega (arith, long, six)) in
    let field : field_read Any (take size rest) ≡ Ok tt = rw (field_again (take size rest) itself.whole) refl in
    let user : length (drop size rest) ≤ most = ltb-false _ _ short.0 in
    let less : nat_lt more (length (drop size rest)) ≡ false = le-ltb _ _ (omega (arith, user, within)) in
    (rw (few, room.0, field, less) short.1, subst (λ (g : Option PlainFields). is_short most g ≡ true) (ok_same short.1) (rw (le-leb _ _ user) refl))

addressed_wider : (a : Bool) (most more called calling : ℕ) (octets : List ℕ) (b : PlainBlock) → most ≤ more → addressed Written a most called calling octets
    ≡ Ok b
    → (addressed Any a more called calling octets ≡ Ok b) × (is_short most b.fields ≡ true)
addressed_wider a most more called calling octets b within e =
    let size = (called + calling + 1) / 2 in
    let room = passed (nat_lt (length octets) size) _ _ b e in
    let halves = passed (not (hold_addresses a (called + calling) (take size octets))) _ _ b room.1 in
    let parts = with_addresses_found called calling (take size octets) (fields_of Written most (drop size octets)) b halves.1 in
    let wider = fields_wider most more (drop size octets) parts.0 within parts.1 in (
      rw (room.0, halves.0) (ap (with_addresses called calling (take size octets)) wider.0 ∙ ap (λ (c : PlainBlock). Ok c) parts.2),
      subst (λ (c : PlainBlock). is_short most c.fields ≡ true) parts.2 wider.1,
    )

block_wider : (a : Bool) (most more : ℕ) (octets : List ℕ) (b : PlainBlock) → most ≤ more → block_of Written a most octets ≡ Ok b
    → (block_of Any a more octets ≡ Ok b) × (is_short most b.fields ≡ true)
block_wider false most more [] b within e = absurd (ok_err e)
block_wider false most more (lengths ∷ octets) b within e = addressed_wider false most more (lengths % 16) (lengths / 16) octets b within e
block_wider true most more [] b within e = absurd (ok_err e)
block_wider true most more (called ∷ []) b within e = absurd (ok_err e)
block_wider true most more (called ∷ calling ∷ octets) b within e = addressed_wider true most more called calling octets b within e

optional_wider : (a : Bool) (most more : ℕ) (octets : List ℕ) → most ≤ more → Widens (optional_block Written a most octets) (optional_block Any a more octets)
optional_wider a most more [] within v e = e
optional_wider a most more (octet ∷ rest) within v e =
    mapped_wider Some (block_of Written a most (octet ∷ rest)) (block_of Any a more (octet ∷ rest))
    (λ b h. (block_wider a most more (octet ∷ rest) b within h).0) v e

-- ---- by the type

call_wider : (a : Bool) (most : ℕ) (body : List ℕ) → Widens (call_of Written a most body) (call_of Any a most body)
call_wider a most body k e =
    let parts = mapped_found call (block_of Written a most body) k e in
    let wider = block_wider a most (max most 128) body parts.0 (omega arith) parts.1 in
    ap (called most) wider.0 ∙ rw wider.1 (ap (λ (v : PlainKind). Ok v) parts.2)

accept_wider : (a : Bool) (body : List ℕ) → Widens (accept_of Written a body) (accept_of Any a body)
accept_wider a body k e =
    mapped_wider accept (optional_block Written a 0 body) (optional_block Any a 128 body) (optional_wider a 0 128 body (omega arith)) k
    (when_found (written_answer body) _ k e).1

reason_wider : (octets : List ℕ) → Widens (reason_of Written octets) (reason_of Any octets)
reason_wider [] v e = absurd (ok_err e)
reason_wider (cause ∷ []) v e = absurd (ok_err e)
reason_wider (cause ∷ reason ∷ []) v e = e
reason_wider (cause ∷ reason ∷ octet ∷ rest) v e = absurd (ok_err e)

caused_wider : (kind : ℕ → Option ℕ → PlainKind) (r s : Result (ℕ × Option ℕ) PacketError) → Widens r s → Widens (caused kind r) (caused kind s)
caused_wider kind (Ok (cause, reason)) s w v e = ap (caused kind) (w (cause, reason) refl) ∙ e
caused_wider kind (Err x) s w v e = absurd (ok_err e)

clear_wider : (a : Bool) (octets : List ℕ) → Widens (clear_of Written a octets) (clear_of Any a octets)
clear_wider a [] v e = absurd (ok_err e)
clear_wider a (cause ∷ []) v e = absurd (ok_err e)
clear_wider a (cause ∷ reason ∷ []) v e = e
clear_wider a (cause ∷ reason ∷ octet ∷ rest) v e = absurd (ok_err e)

clear_conf_wider : (a : Bool) (body : List ℕ) → Widens (clear_conf_of Written a body) (clear_conf_of Any a body)
clear_conf_wider a [] v e = e
clear_conf_wider a (octet ∷ rest) v e = absurd (ok_err e)

rej_wider : (pr : ℕ) (body : List ℕ) → Widens (rej_of Written pr body) (rej_of Any pr body)
rej_wider pr body v e = absurd (ok_err e)

others_wider : (kind : ℕ) (body : List ℕ) → Widens (others Written kind body) (others Any kind body)
others_wider kind body v e = absurd (ok_err e)

unchannelled_wider : (kind : ℕ) (body : List ℕ) → Widens (unchannelled Written kind body) (unchannelled Any kind body)
unchannelled_wider kind body =
    either (nat_eq kind 251) _ _ _ _ (caused_wider restart _ _ (reason_wider body)) (either (nat_eq kind 255) _ _ _ _ (same _) (others_wider kind body))

named_wider : (a : Bool) (most kind : ℕ) (body : List ℕ) → Widens (named Written a most kind body) (named Any a most kind body)
named_wider a most kind body =
    either (nat_eq kind 11) _ _ _ _ (call_wider a most body)
    (either (nat_eq kind 15) _ _ _ _ (accept_wider a body) (either (nat_eq kind 19) _ _ _ _ (clear_wider a body)
    (either (nat_eq kind 23) _ _ _ _ (clear_conf_wider a body) (either (nat_eq kind 35) _ _ _ _ (same _) (either (nat_eq kind 39) _ _ _ _ (same _)
    (either (nat_eq kind 27) _ _ _ _ (caused_wider reset _ _ (reason_wider body)) (either (nat_eq kind 31) _ _ _ _ (same _) (same _))))))))

channelled_wider : (a : Bool) (most kind : ℕ) (body : List ℕ) → Widens (channelled Written a most kind body) (channelled Any a most kind body)
channelled_wider a most kind body =
    either (nat_eq (kind % 2) 0) _ _ _ _ (same _) (either (nat_eq (kind % 32) 1) _ _ _ _ (same _) (either (nat_eq (kind % 32) 5) _ _ _ _ (same _)
    (either (nat_eq (kind % 32) 9) _ _ _ _ (rej_wider (kind / 32) body) (named_wider a most kind body))))

kind_wider : (a : Bool) (most channel kind : ℕ) (body : List ℕ) → Widens (kind_of Written a most channel kind body) (kind_of Any a most channel kind body)
kind_wider a most channel kind body = either (nat_eq channel 0) _ _ _ _ (unchannelled_wider kind body) (channelled_wider a most kind body)

-- ---- the whole packet

-- of a packet in the form that a station writes
pub no_d : (a d : Bool) (type : ℕ) → may_have Written a d type ≡ true → d ≡ false
no_d a false type h = refl
no_d a true type h = let bad : false ≡ true = (and_parts (not a || nat_eq (type % 2) 0) false h).1 in absurd (cc)

marks_wider : (a d : Bool) (type : ℕ) → may_have Written a d type ≡ true → may_have Any a d type ≡ true
marks_wider false false type h = refl
marks_wider true false type h = rw (and_parts (nat_eq (type % 2) 0) true h).0 refl
marks_wider a true type h = let bad : true ≡ false = no_d a true type h in absurd (cc)

format_wider : (first kind : ℕ) → has_format Written first kind ≡ true → has_format Any first kind ≡ true
format_wider first kind h =
    let parts = and_parts (nat_eq (first / 16 % 4) 1) _ h in
    and_from _ _ parts.0 (marks_wider (nat_eq (first / 128) 1) (nat_eq (first / 64 % 2) 1) kind parts.1)

head_wider : (channel : ℕ) (q d : Bool) (r s : Result PlainKind PacketError) → Widens r s → Widens (with_head channel q d r) (with_head channel q d s)
head_wider channel q d (Ok k) s w v e = ap (with_head channel q d) (w k refl) ∙ e
head_wider channel q d (Err x) s w v e = absurd (ok_err e)

read_wider : (most : ℕ) (octets : List ℕ) → Widens (read_of Written most octets) (read_of Any most octets)
unfolding read_of
read_wider most [] v e = absurd (ok_err e)
read_wider most (first ∷ []) v e = absurd (ok_err e)
read_wider most (first ∷ second ∷ []) v e = absurd (ok_err e)
read_wider most (first ∷ second ∷ kind ∷ body) v e =
    let format = kept (has_format Written first kind) _ _ v e in
    let channel = first % 16 * 256 + second in
    let q = nat_eq (first / 128) 1 in
    rw (format_wider first kind format.0) (head_wider channel q (nat_eq (first / 64 % 2) 1) _ _ (kind_wider q most channel kind body) v format.1)

pub taken_wider : (most : ℕ) (v : PlainPacket) (octets : List ℕ) → packet_of most octets ≡ Ok v → taken_of (form_in most octets) ≡ Ok v
taken_wider most v octets e = by (read_of Written most octets) refl e
  where
    by : (r : Result PlainForm PacketError) → read_of Written most octets ≡ r → taken_of r ≡ Ok v → taken_of (form_in most octets) ≡ Ok v
    by (Ok w) is h = ap taken_of (read_wider most octets w is) ∙ h
    by (Err x) is h = absurd (ok_err h)
