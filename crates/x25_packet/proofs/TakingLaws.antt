-- What a station takes octets for: its channel, its user data, and the ranges of its fields.
use Rattle.x25_packet.proofs.Names.{ℕ, zero, suc, ◌+◌, ◌*◌, ◌/◌, ◌%◌, ◌<◌, ◌≤◌, ◌≡◌, ◌∙◌, Bool, true, false, List, [], ◌∷◌, ◌++◌, length, take, refl, ap, sym}
use Rattle.x25_packet.proofs.Names.{subst, arith, Some, Result, Ok, Err, bit, Any, channel_of, PacketError, field_in, narrow_of, narrowed, taken_of, with_field}
use Rattle.x25_packet.proofs.Names.{PlainKind, PlainForm, user_data, rej, restart, restart_conf, diagnostic, registration, registration_conf, spelling_of}
use Rattle.std.proofs.Common.{lit≤, All}
use Rattle.x25_packet.proofs.{FacilityLaws.{ok_err, ok_same}, FoundLaws.{AreSmall, found_spells}, Names.{body_of, Spells, form_in}, NarrowLaws.{spelled_taken}}
use Rattle.x25_packet.{proofs.NarrowRange.{InRange, in_range, field_fits}, proofs.WiderLaws.{taken_wider}, specs.Reading.{channel_in}}
use Rattle.x25_packet.specs.{Spelling.{HasChannel}, Taking.{read_in}}
use Rattle.x25_packet.specs.laws.TakingLaw.{TakesWhatIsWritten, TakesWhatIsSpelled, TakesOnItsChannel, TakesItsUserData, TakesAllBehindThree, TakesInRange}
use Rattle.x25_packet.specs.Packet as strict
use Rattle.x25_packet.specs.Spelling as strict_spelling

pub takes_what_is_written : TakesWhatIsWritten
takes_what_is_written false most v octets e = e
takes_what_is_written true most v octets e = taken_wider most v octets e

-- ---- the channel that the first two octets name

wide_names : (w : PlainForm) → w.channel ≤ 4095 → channel_in (spelling_of w) ≡ Some w.channel
wide_names w few = at w.channel (bit w.bit_8) (bit w.d) few
  where
    at : (channel q d : ℕ) → channel ≤ 4095 → Some ((128 * q + 64 * d + 16 + channel / 256) % 16 * 256 + channel % 256) ≡ Some channel
    at channel q d few = ap (λ (n : ℕ). Some n) (omega (arith, few))

-- ---- what a packet in any form is taken for

with_names : (channel : ℕ) (q d : Bool) (k : PlainKind) (field : List ℕ) (v : strict.PlainPacket) → with_field channel q d k field ≡ Ok v → HasChannel v
    → channel_of v ≡ channel
with_names channel q d (rej pr) field v e has = absurd (ok_err e)
with_names channel q d (restart cause reason) field v e has = absurd (subst HasChannel (sym (ok_same e)) has)
with_names channel q d restart_conf field v e has = absurd (subst HasChannel (sym (ok_same e)) has)
with_names channel q d (diagnostic number explanation) field v e has = absurd (ok_err e)
with_names channel q d (registration octets) field v e has = absurd (ok_err e)
with_names channel q d (registration_conf octets) field v e has = absurd (ok_err e)
with_names channel q d k field v e has = ap channel_of (sym (ok_same e))

abbrev IsData : strict.PlainPacket → Type 0
IsData (strict.user_data channel q m ps pr user) = Unit {0}
IsData other = ⊥

abbrev user_of : strict.PlainPacket → List ℕ
user_of (strict.user_data channel q m ps pr user) = user
user_of other = []

-- of data packets alone user data is a packet's body
with_user : (channel : ℕ) (q d : Bool) (k : PlainKind) (field : List ℕ) (v : strict.PlainPacket) → with_field channel q d k field ≡ Ok v → IsData v
    → body_of q k ≡ user_of v
with_user channel q d (user_data m ps pr user) field v e is_data = ap user_of (ok_same e)
with_user channel q d (rej pr) field v e is_data = absurd (ok_err e)
with_user channel q d (diagnostic number explanation) field v e is_data = absurd (ok_err e)
with_user channel q d (registration octets) field v e is_data = absurd (ok_err e)
with_user channel q d (registration_conf octets) field v e is_data = absurd (ok_err e)
with_user channel q d k field v e is_data = absurd (subst IsData (sym (ok_same e)) is_data)

-- with the field that is taken from it
taken_with : {P : Type 0} (w : PlainForm) (v : strict.PlainPacket) → narrow_of w ≡ Ok v
    → ((field : List ℕ) → field_in w.kind ≡ Ok field → with_field w.channel w.bit_8 w.d w.kind field ≡ Ok v → P) → P
taken_with {P} w v e f = go (field_in w.kind) refl e
  where
    go : (r : Result (List ℕ) PacketError) → field_in w.kind ≡ r → narrowed w r ≡ Ok v → P
    go (Ok field) is h = f field is h
    go (Err x) is h = absurd (ok_err h)

-- ---- both readings

all_small : (octets : List ℕ) → All (λ octet. octet < 256) octets → AreSmall octets
all_small [] small i = lit≤ tt
all_small (octet ∷ octets) small zero = small zero 0 (omega arith)
all_small (octet ∷ octets) small (suc i) = all_small octets (λ k d low. small (suc k) d (omega (arith, low))) i

-- what is read is a packet of any form, and what it is taken for
module _ (most : ℕ) (v : strict.PlainPacket) (octets : List ℕ) (small : AreSmall octets) (P : Type 0)
    (of : (w : PlainForm) → Spells Any most w octets → narrow_of w ≡ Ok v → P) where
  in_any : taken_of (form_in most octets) ≡ Ok v → P
  in_any e = by (form_in most octets) refl e
    where
      by : (r : Result PlainForm PacketError) → form_in most octets ≡ r → taken_of r ≡ Ok v → P
      by (Ok w) is h = of w (found_spells Any most octets w small is) h
      by (Err x) is h = absurd (ok_err h)

  in_either : (wide : Bool) → read_in wide most octets ≡ Ok v → P
  in_either false e = in_any (taken_wider most v octets e)
  in_either true e = in_any e

pub takes_on_its_channel : TakesOnItsChannel
takes_on_its_channel wide most v octets small e has = in_either most v octets (all_small octets small) (channel_in octets ≡ Some (channel_of v))
    (λ w spells is. ap channel_in spells.spelling ∙ wide_names w spells.packet.channel
    ∙ taken_with w v is (λ field said h. ap (λ (n : ℕ). Some n) (sym (with_names w.channel w.bit_8 w.d w.kind field v h has))))
    wide e

header : (n : ℕ) → suc (suc (suc n)) ≡ 3 + n
header n = omega arith

pub takes_its_user_data : TakesItsUserData
takes_its_user_data wide most channel marks m ps pr user octets small e =
    let v : strict.PlainPacket = strict.user_data channel marks m ps pr user in
    in_either most v octets (all_small octets small) (length octets ≡ 3 + length user)
    (λ w spells is. ap length spells.spelling ∙ header (length (body_of w.bit_8 w.kind))
    ∙ taken_with w v is (λ field said h. ap (λ (body : List ℕ). 3 + length body) (with_user w.channel w.bit_8 w.d w.kind field v h tt)))
    wide e

pub takes_all_behind_three : TakesAllBehindThree
takes_all_behind_three wide most channel marks m ps pr user octets small e =
    let v : strict.PlainPacket = strict.user_data channel marks m ps pr user in
    in_either most v octets (all_small octets small) (octets ≡ take 3 octets ++ user)
    (λ w spells is. subst (λ o. o ≡ take 3 o ++ user) (sym spells.spelling)
    (taken_with w v is (λ field said h. ap (λ (body : List ℕ). take 3 (spelling_of w) ++ body) (with_user w.channel w.bit_8 w.d w.kind field v h tt))))
    wide e

-- ---- the ranges of its fields

-- of octets that are taken for it
pub taken_in_range : (most : ℕ) (v : strict.PlainPacket) (octets : List ℕ) → most ≤ 128 → AreSmall octets → (wide : Bool) → read_in wide most octets ≡ Ok v
    → strict_spelling.IsInRange 128 v
taken_in_range most v octets few small = in_either most v octets small (strict_spelling.IsInRange 128 v)
    (λ w spells is.
    let packet = spells.packet in
    taken_with w v is (λ field said h. subst InRange h
    (in_range most w.channel w.bit_8 w.d w.kind field few packet.channel packet.place packet.kind (field_fits w.kind field said))))

pub takes_in_range : TakesInRange
takes_in_range wide most v octets few small e = taken_in_range most v octets few (all_small octets small) wide e

-- ---- what is spelled

pub takes_what_is_spelled : TakesWhatIsSpelled
takes_what_is_spelled most v few small h = spelled_taken most v h
