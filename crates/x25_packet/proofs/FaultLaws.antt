-- The error that is answered is the first.
use Rattle.x25_packet.proofs.Names.{ℕ, ◌+◌, ◌*◌, ◌/◌, ◌%◌, ◌<◌, ◌≤◌, ◌≡◌, ◌≢◌, ◌⊎◌, ◌∙◌, Bool, true, false, not, List, [], ◌∷◌, ◌++◌, length, get_or, take}
use Rattle.x25_packet.proofs.Names.{drop, refl, ap, sym, subst, inl, inr, arith, nat_eq, nat_lt, Option, Some, None, Result, Ok, Err, nat_le, and_parts, le-ltb}
use Rattle.x25_packet.proofs.Names.{ltb-false, eqb-true, eqb-false, ne_eqb, take-append-drop, length-take-le, PacketError, Facilities, Written, halves_of}
use Rattle.x25_packet.proofs.Names.{hold_digits, FieldError, wrong_code, cut_off, out_of_range, PlainPacket, IsAddress, bit, channel_of, PlainFields}
use Rattle.x25_packet.proofs.Names.{facilities_of, packet_of, PlainKind, may_have, when, mapped, field_read, fields_of, with_addresses, block_of}
use Rattle.x25_packet.proofs.Names.{optional_block, bare, written_answer, accept_of, reason_of, caused, clear_of, interrupt_of, data_of, unchannelled, named}
use Rattle.std.proofs.lemmas.Bool.{leb-false, ltb-true}
use Rattle.x25_packet.proofs.{AgainLaws.{bit_lt}, FacilityFaults.{err_ok, err_same, facilities_fault}, FacilityLaws.{chosen}}
use Rattle.x25_packet.proofs.{FieldLaws.{no_field as none_is_field}, FoundLaws.{AreSmall, bit_eq, field_read_found, is_true}}
use Rattle.x25_packet.proofs.{Names.{channelled, kind_of, has_format, with_head, read_of}, NarrowLaws.{error_read}, WiderLaws.{no_d}}
use Rattle.x25_packet.specs.Marks.{with_q}
use Rattle.x25_packet.specs.Packet.{call, accept, clear, clear_conf, user_data, rr, rnr, interrupt, interrupt_conf, reset, reset_conf, restart, restart_conf}
use Rattle.x25_packet.specs.Reading.FirstError.{AcceptError, BehindError, CallError, HasFormat, IsBodyError, IsFirstError, IsLengthError, digits_of}
use Rattle.x25_packet.specs.Reading.FirstError.AcceptError.{some_lengths, no_field, zero_size, behind_lengths}
use Rattle.x25_packet.specs.Reading.FirstError.BehindError.{no_size, field_missing, in_field, user_long}
use Rattle.x25_packet.specs.Reading.FirstError.CallError.{no_lengths, digits_missing, wrong_digit, behind_digits}
use Rattle.x25_packet.specs.Reading.FirstError.IsFirstError.{no_header, wrong_format, no_packet, in_body}
use Rattle.x25_packet.specs.{Spelling.{format_of, header_of, type_of, IsChannel, IsInRange, IsWithoutD}, declared.error.PacketError.TheVariants.{Unidentified}}
use Rattle.x25_packet.specs.Form as wide

-- ---- in a body

mapped_err : {A B : Type 0} (f : A → B) (r : Result A PacketError) (e : PacketError) → mapped f r ≡ Err e → r ≡ Err e
mapped_err f (Ok v) e h = absurd (err_ok h)
mapped_err {A} f (Err x) e h = ap again (err_same h)
  where
    again : PacketError → Result A PacketError
    again y = Err y

when_err : {A : Type 0} (r : Result (Unit {0}) PacketError) (next : Result A PacketError) (e : PacketError) → when r next ≡ Err e → (r ≡ Err e)
    ⊎ ((r ≡ Ok tt) × (next ≡ Err e))
when_err (Ok tt) next e h = inr (refl, h)
when_err (Err x) next e h = inl (ap again (err_same h))
  where
    again : PacketError → Result (Unit {0}) PacketError
    again y = Err y

-- the octets of a field, and what follows, behind the field's length
joined : (most size : ℕ) (octets field user : List ℕ) (e : PacketError) → length field ≡ size → field ++ user ≡ octets
    → BehindError most (length field ∷ field ++ user) e → BehindError most (size ∷ octets) e
joined most size octets field user e h k behind =
    let P : List ℕ → Type 0 = λ o. BehindError most o e in subst P (pair (length field) size (field ++ user) octets h k) behind
  where
    pair : (a b : ℕ) (x y : List ℕ) → a ≡ b → x ≡ y → a ∷ x ≡ b ∷ y
    pair a b x y h k = cc

fields_fault : (most : ℕ) (octets : List ℕ) (e : PacketError) → fields_of Written most octets ≡ Err e → BehindError most octets e
fields_fault most [] e h = subst (BehindError most []) (err_same h) no_size
fields_fault most (size ∷ rest) e h = elim (chosen (nat_lt (length rest) size) _ _ _ h) [
  | inl p ↦ subst (BehindError most (size ∷ rest)) (err_same p.1) (field_missing size rest (ltb-true _ _ p.0))
  | inr p ↦
      let field = take size rest in
      let user = drop size rest in
      joined most size rest field user e (length-take-le size rest (ltb-false _ _ p.0)) (take-append-drop size rest)
      (elim (when_err (field_read Written field) _ e p.1) [
        | inl q ↦ in_field field user e (facilities_fault field e (mapped_err (λ (facilities : Facilities). tt) (facilities_of field) e q))
        | inr q ↦ elim (chosen (nat_lt most (length user)) _ _ _ q.1) [
          | inl r ↦ subst (BehindError most (length field ∷ field ++ user)) (err_same r.1)
              (user_long field user (field_read_found Written field q.0) (ltb-true _ _ r.0))
          | inr r ↦ absurd (err_ok r.1)
        ]
      ])
]

addresses_err : (called calling : ℕ) (addresses : List ℕ) (r : Result (Option PlainFields) PacketError) (e : PacketError)
    → with_addresses called calling addresses r ≡ Err e → r ≡ Err e
addresses_err called calling addresses (Ok f) e h = absurd (err_ok h)
addresses_err called calling addresses (Err x) e h = ap again (err_same h)
  where
    again : PacketError → Result (Option PlainFields) PacketError
    again y = Err y

is_false : (b : Bool) → not b ≡ true → b ≡ false
is_false true h = let bad : false ≡ true = h in cc
is_false false h = refl

block_fault : (most : ℕ) (body : List ℕ) (e : PacketError) → block_of Written false most body ≡ Err e → CallError most body e
block_fault most [] e h = subst (CallError most []) (err_same h) no_lengths
block_fault most (lengths ∷ octets) e h =
    let size = (digits_of lengths + 1) / 2 in
    let block = take size octets in
    let P : List ℕ → Type 0 = λ o. CallError most (lengths ∷ o) e in
    elim (chosen (nat_lt (length octets) size) _ _ _ h) [
      | inl p ↦ subst (CallError most (lengths ∷ octets)) (err_same p.1) (digits_missing lengths octets (ltb-true _ _ p.0))
      | inr p ↦
          let whole : block ++ drop size octets ≡ octets = take-append-drop size octets in
          let long : length block ≡ size = length-take-le size octets (ltb-false _ _ p.0) in
          elim (chosen (not (hold_digits (digits_of lengths) block)) _ _ _ p.1) [
            | inl q ↦ subst P whole (subst (CallError most (lengths ∷ block ++ drop size octets)) (err_same q.1)
                (wrong_digit lengths block (drop size octets) long (is_false _ q.0)))
            | inr q ↦ subst P whole (behind_digits lengths block (drop size octets) e long (is_true _ q.0)
                (fields_fault most (drop size octets) e (addresses_err (lengths % 16) (lengths / 16) block (fields_of Written most (drop size octets)) e q.1)))
          ]
    ]

-- address lengths of 0, and what stands behind them
no_addresses : (octets : List ℕ) → block_of Written false 0 (0 ∷ octets) ≡ with_addresses 0 0 [] (fields_of Written 0 octets)
unfolding halves_of
no_addresses octets = let room : nat_lt (length octets) 0 ≡ false = le-ltb _ _ (omega arith) in rw room refl

answer_err : (octets : List ℕ) (e : PacketError) → mapped wide.accept (optional_block Written false 0 (0 ∷ octets)) ≡ Err e → BehindError 0 octets e
answer_err octets e h = fields_fault 0 octets e (addresses_err 0 0 [] (fields_of Written 0 octets) e
    (sym (no_addresses octets) ∙ mapped_err Some (block_of Written false 0 (0 ∷ octets)) e
    (mapped_err wide.accept (optional_block Written false 0 (0 ∷ octets)) e h)))

-- address lengths of 0
none_first : (lengths : ℕ) (rest : List ℕ) (e : PacketError) → lengths ≡ 0 → AcceptError (0 ∷ rest) e → AcceptError (lengths ∷ rest) e
none_first lengths rest e h a = let P : ℕ → Type 0 = λ n. AcceptError (n ∷ rest) e in subst P (sym h) a

answer_at : (lengths : ℕ) (octets : List ℕ) (e : PacketError) → lengths ≡ 0 → mapped wide.accept (optional_block Written false 0 (lengths ∷ octets)) ≡ Err e
    → BehindError 0 octets e
answer_at lengths octets e none h =
    let P : ℕ → Type 0 = λ n. mapped wide.accept (optional_block Written false 0 (n ∷ octets)) ≡ Err e in answer_err octets e (subst P none h)

-- octets that are no facility field
nothing_behind : (e : PacketError) → BehindError 0 [] e → AcceptError (0 ∷ []) e
nothing_behind _ no_size = no_field

accept_fault : (body : List ℕ) (e : PacketError) → accept_of Written false body ≡ Err e → AcceptError body e
accept_fault [] e h = absurd (err_ok h)
accept_fault (lengths ∷ []) e h = elim (when_err (written_answer (lengths ∷ [])) _ e h) [
  | inl p ↦ elim (chosen (nat_eq lengths 0) _ _ _ p) [
    | inl q ↦ absurd (err_ok q.1)
    | inr q ↦ subst (AcceptError (lengths ∷ [])) (err_same q.1) (some_lengths lengths [] (eqb-false _ _ q.0))
  ]
  | inr p ↦ elim (chosen (nat_eq lengths 0) _ _ _ p.0) [
    | inl q ↦ none_first lengths [] e (eqb-true _ _ q.0) (nothing_behind e (answer_at lengths [] e (eqb-true _ _ q.0) p.1))
    | inr q ↦ absurd (err_ok (sym q.1))
  ]
]
accept_fault (lengths ∷ size ∷ rest) e h = elim (when_err (written_answer (lengths ∷ size ∷ rest)) _ e h) [
  | inl p ↦ elim (chosen (nat_eq lengths 0) _ _ _ p) [
    | inl q ↦ none_first lengths (size ∷ rest) e (eqb-true _ _ q.0) (elim (chosen (nat_eq size 0) _ _ _ q.1) [
      | inl r ↦ let P : ℕ → Type 0 = λ n. AcceptError (0 ∷ n ∷ rest) e in
          subst P (sym (eqb-true _ _ r.0)) (subst (AcceptError (0 ∷ 0 ∷ rest)) (err_same r.1) (zero_size rest))
      | inr r ↦ absurd (err_ok r.1)
    ])
    | inr q ↦ subst (AcceptError (lengths ∷ size ∷ rest)) (err_same q.1) (some_lengths lengths (size ∷ rest) (eqb-false _ _ q.0))
  ]
  | inr p ↦ elim (chosen (nat_eq lengths 0) _ _ _ p.0) [
    | inl q ↦ none_first lengths (size ∷ rest) e (eqb-true _ _ q.0) (elim (chosen (nat_eq size 0) _ _ _ q.1) [
      | inl r ↦ absurd (err_ok (sym r.1))
      | inr r ↦ behind_lengths size rest e (eqb-false _ _ r.0) (answer_at lengths (size ∷ rest) e (eqb-true _ _ q.0) p.1)
    ])
    | inr q ↦ absurd (err_ok (sym q.1))
  ]
]

bare_fault : (v : PlainKind) (body : List ℕ) (e : PacketError) → bare v body ≡ Err e → IsLengthError 0 0 body e
bare_fault v [] e h = absurd (err_ok h)
bare_fault v (octet ∷ rest) e h = subst (IsLengthError 0 0 (octet ∷ rest)) (err_same h) (let long : 0 < length (octet ∷ rest) = omega arith in long)

caused_fault : (f : ℕ → Option ℕ → PlainKind) (body : List ℕ) (e : PacketError) → caused f (reason_of Written body) ≡ Err e → IsLengthError 2 2 body e
caused_fault f [] e h = subst (IsLengthError 2 2 []) (err_same h) (let short : 0 < 2 = omega arith in short)
caused_fault f (c ∷ []) e h = subst (IsLengthError 2 2 (c ∷ [])) (err_same h) (let short : 1 < 2 = omega arith in short)
caused_fault f (c ∷ d ∷ []) e h = absurd (err_ok h)
caused_fault f (c ∷ d ∷ octet ∷ rest) e h = subst (IsLengthError 2 2 (c ∷ d ∷ octet ∷ rest)) (err_same h)
    (let long : 2 < length (c ∷ d ∷ octet ∷ rest) = omega arith in long)

clear_fault : (a : Bool) (body : List ℕ) (e : PacketError) → clear_of Written a body ≡ Err e → IsLengthError 2 2 body e
clear_fault a [] e h = caused_fault wide.clear [] e h
clear_fault a (c ∷ []) e h = caused_fault wide.clear (c ∷ []) e h
clear_fault a (c ∷ d ∷ []) e h = absurd (err_ok h)
clear_fault a (c ∷ d ∷ octet ∷ rest) e h = caused_fault wide.clear (c ∷ d ∷ octet ∷ rest) e h

interrupt_fault : (body : List ℕ) (e : PacketError) → interrupt_of body ≡ Err e → IsLengthError 1 32 body e
interrupt_fault [] e h = subst (IsLengthError 1 32 []) (err_same h) (let short : 0 < 1 = omega arith in short)
interrupt_fault (octet ∷ rest) e h = elim (chosen (nat_le (length (octet ∷ rest)) 32) _ _ _ h) [
  | inl p ↦ absurd (err_ok p.1)
  | inr p ↦ subst (IsLengthError 1 32 (octet ∷ rest)) (err_same p.1) (leb-false _ _ p.0)
]

data_fault : (kind : ℕ) (body : List ℕ) (e : PacketError) → data_of kind body ≡ Err e → IsLengthError 0 4096 body e
data_fault kind body e h = elim (chosen (nat_le (length body) 4096) _ _ _ h) [
  | inl p ↦ absurd (err_ok p.1)
  | inr p ↦ subst (IsLengthError 0 4096 body) (err_same p.1) (leb-false _ _ p.0)
]

-- no error of a body is Unidentified

field_known : (field : List ℕ) (e : PacketError) → FieldError field e → Unidentified ≢ e
field_known _ _ (wrong_code before code rest allowed may) h = cc
field_known _ _ (cut_off before code rest allowed may short) h = cc
field_known _ _ (out_of_range before code values rest allowed may range) h = cc

behind_known : (most : ℕ) (octets : List ℕ) (e : PacketError) → BehindError most octets e → Unidentified ≢ e
behind_known most _ _ no_size h = cc
behind_known most _ _ (field_missing size rest short) h = cc
behind_known most _ _ (in_field field user e f) h = field_known field e f h
behind_known most _ _ (user_long field user is_field long) h = cc

call_known : (most : ℕ) (octets : List ℕ) (e : PacketError) → CallError most octets e → Unidentified ≢ e
call_known most _ _ no_lengths h = cc
call_known most _ _ (digits_missing lengths octets short) h = cc
call_known most _ _ (wrong_digit lengths block rest long digit) h = cc
call_known most _ _ (behind_digits lengths block rest e long digits behind) h = behind_known most rest e behind h

accept_known : (octets : List ℕ) (e : PacketError) → AcceptError octets e → Unidentified ≢ e
accept_known _ _ (some_lengths lengths rest some) h = cc
accept_known _ _ no_field h = cc
accept_known _ _ (zero_size rest) h = cc
accept_known _ _ (behind_lengths size rest e some behind) h = behind_known 0 (size ∷ rest) e behind h

-- ---- in a packet

-- a packet of this type, whose body the octets are not
record Fault (most channel : ℕ) (q : Bool) (kind : ℕ) (body : List ℕ) (e : PacketError) : Type 0 where
  pub v : PlainPacket
  pub in_range : IsInRange most v
  pub channel_is : channel_of v ≡ channel
  pub format_is : format_of v ≡ 1 + 8 * bit q
  pub type_is : type_of v ≡ kind
  pub error : IsBodyError most v body e

typed : (most channel known kind : ℕ) (body : List ℕ) (e : PacketError) → nat_eq kind known ≡ true → Fault most channel false known body e
    → Fault most channel false kind body e ⊎ (Unidentified ≡ e)
typed most channel known kind body e h k = let P : ℕ → Type 0 = λ n. Fault most channel false n body e in inl (subst P (sym (eqb-true _ _ h)) k)

none_is_address : IsAddress []
none_is_address = record { short = omega arith; decimal = refl }

named_fault : (most channel kind : ℕ) (body : List ℕ) (e : PacketError) → IsChannel channel → named Written false most kind body ≡ Err e
    → Fault most channel false kind body e ⊎ (Unidentified ≡ e)
named_fault most channel kind body e on h = elim (chosen (nat_eq kind 11) _ _ _ h) [
  | inl p ↦ typed most channel 11 kind body e p.0 (record {
    v = call channel [] [] [] [];
    in_range = (on, none_is_address, none_is_address, none_is_field, omega arith);
    channel_is = refl;
    format_is = refl;
    type_is = refl;
    error = block_fault most body e (mapped_err wide.call (block_of Written false most body) e p.1);
  })
  | inr p ↦ elim (chosen (nat_eq kind 15) _ _ _ p.1) [
    | inl q ↦ typed most channel 15 kind body e q.0 (record {
      v = accept channel [];
      in_range = (on, none_is_field);
      channel_is = refl;
      format_is = refl;
      type_is = refl;
      error = accept_fault body e q.1;
    })
    | inr q ↦ elim (chosen (nat_eq kind 19) _ _ _ q.1) [
      | inl r ↦ typed most channel 19 kind body e r.0 (record {
        v = clear channel 0 0;
        in_range = on;
        channel_is = refl;
        format_is = refl;
        type_is = refl;
        error = clear_fault false body e r.1;
      })
      | inr r ↦ elim (chosen (nat_eq kind 23) _ _ _ r.1) [
        | inl s ↦ typed most channel 23 kind body e s.0 (record {
          v = clear_conf channel;
          in_range = on;
          channel_is = refl;
          format_is = refl;
          type_is = refl;
          error = bare_fault (wide.clear_conf None) body e s.1;
        })
        | inr s ↦ elim (chosen (nat_eq kind 35) _ _ _ s.1) [
          | inl t ↦ typed most channel 35 kind body e t.0 (record {
            v = interrupt channel (0 ∷ []);
            in_range = (on, omega arith, omega arith);
            channel_is = refl;
            format_is = refl;
            type_is = refl;
            error = interrupt_fault body e t.1;
          })
          | inr t ↦ elim (chosen (nat_eq kind 39) _ _ _ t.1) [
            | inl u ↦ typed most channel 39 kind body e u.0 (record {
              v = interrupt_conf channel;
              in_range = on;
              channel_is = refl;
              format_is = refl;
              type_is = refl;
              error = bare_fault wide.interrupt_conf body e u.1;
            })
            | inr u ↦ elim (chosen (nat_eq kind 27) _ _ _ u.1) [
              | inl w ↦ typed most channel 27 kind body e w.0 (record {
                v = reset channel 0 0;
                in_range = on;
                channel_is = refl;
                format_is = refl;
                type_is = refl;
                error = caused_fault wide.reset body e w.1;
              })
              | inr w ↦ elim (chosen (nat_eq kind 31) _ _ _ w.1) [
                | inl x ↦ typed most channel 31 kind body e x.0 (record {
                  v = reset_conf channel;
                  in_range = on;
                  channel_is = refl;
                  format_is = refl;
                  type_is = refl;
                  error = bare_fault wide.reset_conf body e x.1;
                })
                | inr x ↦ inr (err_same x.1)
              ]
            ]
          ]
        ]
      ]
    ]
  ]
]

unchannelled_fault : (most kind : ℕ) (body : List ℕ) (e : PacketError) → unchannelled Written kind body ≡ Err e → Fault most 0 false kind body e
    ⊎ (Unidentified ≡ e)
unchannelled_fault most kind body e h = elim (chosen (nat_eq kind 251) _ _ _ h) [
  | inl p ↦ typed most 0 251 kind body e p.0 (record {
    v = restart 0 0;
    in_range = tt;
    channel_is = refl;
    format_is = refl;
    type_is = refl;
    error = caused_fault wide.restart body e p.1;
  })
  | inr p ↦ elim (chosen (nat_eq kind 255) _ _ _ p.1) [
    | inl q ↦ typed most 0 255 kind body e q.0 (record {
      v = restart_conf;
      in_range = tt;
      channel_is = refl;
      format_is = refl;
      type_is = refl;
      error = bare_fault wide.restart_conf body e q.1;
    })
    | inr q ↦ inr (err_same q.1)
  ]
]

-- an even type on channel 0
unchannelled_even : (kind : ℕ) (body : List ℕ) (e : PacketError) → kind % 2 ≡ 0 → unchannelled Written kind body ≡ Err e → Unidentified ≡ e
unchannelled_even kind body e even h = elim (chosen (nat_eq kind 251) _ _ _ h) [
  | inl p ↦ let at : kind ≡ 251 = eqb-true _ _ p.0 in absurd (omega arith)
  | inr p ↦ elim (chosen (nat_eq kind 255) _ _ _ p.1) [
    | inl q ↦ let at : kind ≡ 255 = eqb-true _ _ q.0 in absurd (omega arith)
    | inr q ↦ err_same q.1
  ]
]

data_of_kind : (most channel : ℕ) (q : Bool) (kind : ℕ) (body : List ℕ) (e : PacketError) → IsChannel channel → kind < 256 → kind % 2 ≡ 0 → data_of kind body
    ≡ Err e
    → Fault most channel q kind body e
data_of_kind most channel q kind body e on small even h =
    let mark = bit_eq (kind / 16 % 2) (omega arith) in
    record {
      v = user_data channel (with_q q) (nat_eq (kind / 16 % 2) 1) (kind / 2 % 8) (kind / 32) [];
      in_range = (on, omega arith, omega arith, omega arith);
      channel_is = refl;
      format_is = refl;
      type_is = rw mark (omega arith);
      error = data_fault kind body e h;
    }

channelled_fault : (most channel kind : ℕ) (body : List ℕ) (e : PacketError) → IsChannel channel → kind < 256 → channelled Written false most kind body ≡ Err e
    → Fault most channel false kind body e ⊎ (Unidentified ≡ e)
channelled_fault most channel kind body e on small h = elim (chosen (nat_eq (kind % 2) 0) _ _ _ h) [
  | inl o ↦ inl (data_of_kind most channel false kind body e on small (eqb-true _ _ o.0) o.1)
  | inr o ↦ elim (chosen (nat_eq (kind % 32) 1) _ _ _ o.1) [
    | inl p ↦ let low : kind % 32 ≡ 1 = eqb-true _ _ p.0 in inl (record {
      v = rr channel (kind / 32);
      in_range = (on, omega arith);
      channel_is = refl;
      format_is = refl;
      type_is = omega arith;
      error = bare_fault _ body e p.1;
    })
    | inr p ↦ elim (chosen (nat_eq (kind % 32) 5) _ _ _ p.1) [
      | inl q ↦ let low : kind % 32 ≡ 5 = eqb-true _ _ q.0 in inl (record {
        v = rnr channel (kind / 32);
        in_range = (on, omega arith);
        channel_is = refl;
        format_is = refl;
        type_is = omega arith;
        error = bare_fault _ body e q.1;
      })
      | inr q ↦ elim (chosen (nat_eq (kind % 32) 9) _ _ _ q.1) [
        | inl r ↦ inr (err_same r.1)
        | inr r ↦ named_fault most channel kind body e on r.1
      ]
    ]
  ]
]

is_even : (d : Bool) (kind : ℕ) → may_have Written true d kind ≡ true → kind % 2 ≡ 0
is_even d kind h = eqb-true _ _ (and_parts (nat_eq (kind % 2) 0) (not d) h).0

kind_fault : (most channel : ℕ) (a d : Bool) (kind : ℕ) (body : List ℕ) (e : PacketError) → channel ≤ 4095 → kind < 256 → may_have Written a d kind ≡ true
    → kind_of Written a most channel kind body ≡ Err e → Fault most channel a kind body e ⊎ (Unidentified ≡ e)
kind_fault most channel true d kind body e few small marks h = elim (chosen (nat_eq channel 0) _ _ _ h) [
  | inl p ↦ inr (unchannelled_even kind body e (is_even d kind marks) p.1)
  | inr p ↦
      let some : channel ≢ 0 = eqb-false _ _ p.0 in
      elim (chosen (nat_eq (kind % 2) 0) _ _ _ p.1) [
        | inl q ↦ inl (data_of_kind most channel true kind body e (omega arith, few) small (is_even d kind marks) q.1)
        | inr q ↦ absurd (eqb-false _ _ q.0 (is_even d kind marks))
      ]
]
kind_fault most channel false d kind body e few small marks h = elim (chosen (nat_eq channel 0) _ _ _ h) [
  | inl p ↦ let P : ℕ → Type 0 = λ n. Fault most n false kind body e ⊎ (Unidentified ≡ e) in
      subst P (sym (eqb-true _ _ p.0)) (unchannelled_fault most kind body e p.1)
  | inr p ↦ let some : channel ≢ 0 = eqb-false _ _ p.0 in channelled_fault most channel kind body e (omega arith, few) small p.1
]

-- no packet's own header is unidentified

never_bare : (v : PlainKind) (body : List ℕ) → bare v body ≢ Err Unidentified
never_bare v body h = bare_fault v body Unidentified h

on_channel : (channel : ℕ) → IsChannel channel → nat_eq channel 0 ≡ false
on_channel channel on = ne_eqb _ _ (λ h. absurd (omega arith))

never_kind : (most : ℕ) (v : PlainPacket) (a : Bool) (body : List ℕ) → IsInRange most v → (format_of v ≡ 1 → a ≡ false)
    → kind_of Written a most (channel_of v) (type_of v) body ≢ Err Unidentified
never_kind most (call channel called calling facilities user) a body fits plain h =
    call_known most body Unidentified (block_fault most body Unidentified
    (mapped_err wide.call (block_of Written false most body) Unidentified (rw (on_channel channel fits.0, plain refl) at h))) refl
never_kind most (accept channel facilities) a body fits plain h =
    accept_known body Unidentified (accept_fault body Unidentified (rw (on_channel channel fits.0, plain refl) at h)) refl
never_kind most (clear channel cause diagnostic) a body fits plain h = clear_fault a body Unidentified (rw (on_channel channel fits) at h)
never_kind most (clear_conf channel) a body fits plain h = never_bare _ body (rw (on_channel channel fits) at h)
never_kind most (user_data channel marks m ps pr user) a body fits plain h =
    let mark = bit_lt m in
    let even : (2 * ps + 16 * bit m + 32 * pr) % 2 ≡ 0 = omega arith in
    data_fault (2 * ps + 16 * bit m + 32 * pr) body Unidentified (rw (on_channel channel fits.0, even) at h)
never_kind most (rr channel pr) a body fits plain h =
    let odd : (1 + 32 * pr) % 2 ≡ 1 = omega arith in
    let low : (1 + 32 * pr) % 32 ≡ 1 = omega arith in
    never_bare _ body (rw (on_channel channel fits.0, odd, low) at h)
never_kind most (rnr channel pr) a body fits plain h =
    let odd : (5 + 32 * pr) % 2 ≡ 1 = omega arith in
    let low : (5 + 32 * pr) % 32 ≡ 5 = omega arith in
    never_bare _ body (rw (on_channel channel fits.0, odd, low) at h)
never_kind most (interrupt channel user) a body fits plain h = interrupt_fault body Unidentified (rw (on_channel channel fits.0) at h)
never_kind most (interrupt_conf channel) a body fits plain h = never_bare _ body (rw (on_channel channel fits) at h)
never_kind most (reset channel cause diagnostic) a body fits plain h = caused_fault wide.reset body Unidentified (rw (on_channel channel fits) at h)
never_kind most (reset_conf channel) a body fits plain h = never_bare _ body (rw (on_channel channel fits) at h)
never_kind most (restart cause diagnostic) a body fits plain h = caused_fault wide.restart body Unidentified h
never_kind most restart_conf a body fits plain h = never_bare _ body h

-- the format that the first octet has, as a test
format_test : (first kind : ℕ) → HasFormat first kind → has_format Written first kind ≡ true
format_test first kind (inl one) =
    let high : first / 128 ≡ 0 = omega arith in
    let next : first / 64 % 2 ≡ 0 = omega arith in
    rw (one, high, next) refl
format_test first kind (inr (nine, even)) =
    let high : first / 128 ≡ 1 = omega arith in
    let next : first / 64 % 2 ≡ 0 = omega arith in
    rw (nine, high, next, even) refl

format_is : (first kind : ℕ) (a : Bool) → first / 16 ≡ 1 + 8 * bit a → (a ≡ true → kind % 2 ≡ 0) → HasFormat first kind
format_is first kind false format even = inl format
format_is first kind true format even = inr (format, even refl)

channel_few : (most : ℕ) (v : PlainPacket) → IsInRange most v → channel_of v ≤ 4095
channel_few most (clear channel cause diagnostic) fits = fits.1
channel_few most (clear_conf channel) fits = fits.1
channel_few most (interrupt_conf channel) fits = fits.1
channel_few most (reset channel cause diagnostic) fits = fits.1
channel_few most (reset_conf channel) fits = fits.1
channel_few most (restart cause diagnostic) fits = omega arith
channel_few most restart_conf fits = omega arith
channel_few most v fits = fits.0.1

no_header_of : (most first second kind : ℕ) (body : List ℕ) (v : PlainPacket) → IsInRange most v
    → kind_of Written (nat_eq (first / 128) 1) most (first % 16 * 256 + second) kind body ≡ Err Unidentified → header_of v ≢ first ∷ second ∷ kind ∷ []
no_header_of most first second kind body v fits h e =
    let few = channel_few most v fits in
    let front : 16 * format_of v + channel_of v / 256 ≡ first = ap (λ (o : List ℕ). get_or o 0 0) e in
    let next : channel_of v % 256 ≡ second = ap (λ (o : List ℕ). get_or o 1 0) e in
    let type : type_of v ≡ kind = ap (λ (o : List ℕ). get_or o 2 0) e in
    let channel : first % 16 * 256 + second ≡ channel_of v = omega arith in
    never_kind most v (nat_eq (first / 128) 1) body fits
    (λ one. let low : first / 128 ≡ 0 = omega (arith, one, front, few) in rw low refl)
    (rw (channel, sym type) at h)

-- in such a format no confirmation is asked
without_d : (v : PlainPacket) (q : Bool) → format_of v ≡ 1 + 8 * bit q → IsWithoutD v
without_d (user_data channel marks m ps pr user) q e = not_marked marks.d (omega (arith, e, bit_lt marks.q, bit_lt q, bit_lt marks.d))
  where
    not_marked : (d : Bool) → bit d ≡ 0 → d ≡ false
    not_marked false none = refl
    not_marked true none = absurd (omega (arith, none))
without_d (call channel called calling facilities user) q e = tt
without_d (accept channel facilities) q e = tt
without_d (clear channel cause diagnostic) q e = tt
without_d (clear_conf channel) q e = tt
without_d (rr channel pr) q e = tt
without_d (rnr channel pr) q e = tt
without_d (interrupt channel user) q e = tt
without_d (interrupt_conf channel) q e = tt
without_d (reset channel cause diagnostic) q e = tt
without_d (reset_conf channel) q e = tt
without_d (restart cause diagnostic) q e = tt
without_d restart_conf q e = tt

headed : (most first second kind : ℕ) (q : Bool) (body : List ℕ) (e : PacketError) → first < 256 → second < 256 → first / 16 ≡ 1 + 8 * bit q
    → Fault most (first % 16 * 256 + second) q kind body e → IsFirstError most (first ∷ second ∷ kind ∷ body) e
headed most first second kind q body e small less format f =
    let P : List ℕ → Type 0 = λ o. IsFirstError most (o ++ body) e in
    subst P (front _ _ _ first second kind (rw (f.format_is, f.channel_is) (omega arith)) (rw f.channel_is (omega arith)) f.type_is)
    (in_body f.v body e f.in_range (without_d f.v q f.format_is) f.error)
  where
    front : (a b c x y z : ℕ) → a ≡ x → b ≡ y → c ≡ z → a ∷ b ∷ c ∷ [] ≡ x ∷ y ∷ z ∷ []
    front a b c x y z h k l = cc

head_err : (channel : ℕ) (q d : Bool) (r : Result PlainKind PacketError) (e : PacketError) → with_head channel q d r ≡ Err e → r ≡ Err e
head_err channel q d (Ok kind) e h = absurd (err_ok h)
head_err channel q d (Err x) e h = ap again (err_same h)
  where
    again : PacketError → Result PlainKind PacketError
    again y = Err y

differ : false ≡ true → ⊥
differ h = cc

read_fault : (most : ℕ) (octets : List ℕ) (e : PacketError) → AreSmall octets → read_of Written most octets ≡ Err e → IsFirstError most octets e
unfolding read_of
read_fault most [] e small h = subst (IsFirstError most []) (err_same h) (no_header [] (omega arith))
read_fault most (first ∷ []) e small h = subst (IsFirstError most (first ∷ [])) (err_same h) (no_header (first ∷ []) (omega arith))
read_fault most (first ∷ second ∷ []) e small h = subst (IsFirstError most (first ∷ second ∷ [])) (err_same h) (no_header (first ∷ second ∷ []) (omega arith))
read_fault most (first ∷ second ∷ kind ∷ body) e small h = elim (chosen (has_format Written first kind) _ _ _ h) [
  | inl p ↦ in_format p.0 (head_err channel a d (kind_of Written a most channel kind body) e p.1)
  | inr p ↦ subst (IsFirstError most (first ∷ second ∷ kind ∷ body)) (err_same p.1)
      (wrong_format first second kind body (λ has. differ (sym p.0 ∙ format_test first kind has)))
]
  where
    few : first < 256
    few = small 0

    less : second < 256
    less = small 1

    channel : ℕ
    channel = first % 16 * 256 + second

    a : Bool
    a = nat_eq (first / 128) 1

    d : Bool
    d = nat_eq (first / 64 % 2) 1

    in_format : has_format Written first kind ≡ true → kind_of Written a most channel kind body ≡ Err e → IsFirstError most (first ∷ second ∷ kind ∷ body) e
    in_format has h =
        let parts = and_parts (nat_eq (first / 16 % 4) 1) (may_have Written a d kind) has in
        let modulo : first / 16 % 4 ≡ 1 = eqb-true _ _ parts.0 in
        let without : first / 64 % 2 ≢ 1 = eqb-false _ _ (no_d a d kind parts.1) in
        let high : bit a ≡ first / 128 = bit_eq (first / 128) (omega (arith, few)) in
        let format : first / 16 ≡ 1 + 8 * bit a = omega (arith, few, modulo, without, high) in
        elim (kind_fault most channel a d kind body e (omega (arith, less)) (small 2) parts.1 h) [
          | inl f ↦ headed most first second kind a body e few less format f
          | inr same ↦
              let P : PacketError → Type 0 = λ x. kind_of Written a most channel kind body ≡ Err x in
              let none : kind_of Written a most channel kind body ≡ Err Unidentified = subst P (sym same) h in
              let is = format_is first kind a format (λ t. is_even d kind (subst (λ x. may_have Written x d kind ≡ true) t parts.1)) in
              subst (IsFirstError most (first ∷ second ∷ kind ∷ body)) same
              (no_packet first second kind body is (λ v fits. no_header_of most first second kind body v fits none))
        ]

pub fault_first : (most : ℕ) (octets : List ℕ) (e : PacketError) → AreSmall octets → packet_of most octets ≡ Err e → IsFirstError most octets e
fault_first most octets e small h = read_fault most octets e small (error_read most octets small e h)
