-- An idle line: an octet of it leaves all as it is.
use Rattle.std.proofs.Common.{ℕ, zero, suc, ◌+◌, ◌-◌, ◌*◌, ◌^◌, ◌%◌, ◌<◌, ◌≤◌, ◌≡◌, ◌∙◌, Bool, true, false, ◌==◌, min, List, [], ◌∷◌, ◌++◌, length, take, drop}
use Rattle.std.proofs.Common.{get_or, refl, ap, sym, arith}
use Rattle.std.specs.Prelude.{slice_index_or, Option, Some, None, IfSome}
use Rattle.std.proofs.lemmas.Nat.{one_shl, pow_pos}
use Rattle.std.proofs.lemmas.Bool.{eqb-true}
use Rattle.x25_bits.specs.FrameCheck.{bits_of, low_bits}
use Rattle.x25_bits.specs.code.FitsSeen.{FitsSeen}
use Rattle.x25_bits.specs.code.Held.{Seen, seen_from, found_from, closing, kept_found}
use Rattle.x25_bits.specs.code.Reading.{part}
use Rattle.x25_bits.specs.declared.deframer.Deframer.{Deframer}
use Rattle.x25_bits.proofs.FcsLemmas.{length-low_bits, low_bits-mod}
use Rattle.x25_bits.proofs.FeedLemmas.{found-append}
use Rattle.x25_bits.proofs.FoundLemmas.{seen-append}
use Rattle.x25_bits.proofs.KeptLemmas.{take_short}
use Rattle.x25_bits.proofs.OctetLemmas.{octet_at, take_first}
use Rattle.x25_bits.proofs.ReadingLemmas.{part_join, part_none}

abbrev pub flags : List ℕ
flags = 126 ∷ 63 ∷ 159 ∷ 207 ∷ 231 ∷ 243 ∷ 249 ∷ 252 ∷ []

abbrev pub flags_at : ℕ → ℕ
flags_at j = slice_index_or flags j 0

abbrev seen : Bool → ℕ → Bool → Bool → List Bool → Seen
seen o r a i k = record { is_open = o; held = record { run = r; is_aborted = a; is_inserted = i; kept = k } }

-- what is seen where j bits of a flag came behind another one
abbrev idle : ℕ → Seen
idle j = seen true (j - 1) false false (low_bits (min j 6) 126)

idle_stays : (j : ℕ) → j ≤ 7 → seen_from (idle j) (low_bits 8 (flags_at j)) ≡ idle j
unfolding seen_from low_bits
idle_stays zero h = refl
idle_stays (suc zero) h = refl
idle_stays (suc (suc zero)) h = refl
idle_stays (suc (suc (suc zero))) h = refl
idle_stays (suc (suc (suc (suc zero)))) h = refl
idle_stays (suc (suc (suc (suc (suc zero))))) h = refl
idle_stays (suc (suc (suc (suc (suc (suc zero)))))) h = refl
idle_stays (suc (suc (suc (suc (suc (suc (suc zero))))))) h = refl
idle_stays (suc (suc (suc (suc (suc (suc (suc (suc j)))))))) h = absurd (omega arith)

idle_finds : (j : ℕ) → j ≤ 7 → found_from (idle j) (low_bits 8 (flags_at j)) ≡ []
unfolding found_from low_bits closing kept_found
idle_finds zero h = refl
idle_finds (suc zero) h = refl
idle_finds (suc (suc zero)) h = refl
idle_finds (suc (suc (suc zero))) h = refl
idle_finds (suc (suc (suc (suc zero)))) h = refl
idle_finds (suc (suc (suc (suc (suc zero))))) h = refl
idle_finds (suc (suc (suc (suc (suc (suc zero)))))) h = refl
idle_finds (suc (suc (suc (suc (suc (suc (suc zero))))))) h = refl
idle_finds (suc (suc (suc (suc (suc (suc (suc (suc j)))))))) h = absurd (omega arith)

-- seven 1 bits before it, an octet of them
ones_stay : (o a i : Bool) (k : List Bool) → seen_from (seen o 7 a i k) (low_bits 8 255) ≡ seen o 7 a i k
unfolding seen_from low_bits
ones_stay o true i k = refl
ones_stay o false i k = refl

ones_find : (o a i : Bool) (k : List Bool) → found_from (seen o 7 a i k) (low_bits 8 255) ≡ []
unfolding found_from low_bits
ones_find o a i k = refl

-- ---- of the code

idle_is : (d : Deframer) (j : ℕ) → d.scan.is_open ≡ true → d.scan.is_aborted ≡ false → d.scan.is_inserted ≡ false → d.scan.run ≡ j - 1
    → d.kept ≡ low_bits (min j 6) 126 → (v : Seen) → FitsSeen d v → v ≡ idle j
idle_is d j opened going plain run kept v f =
    let o : v.is_open ≡ true = sym f.is_open ∙ opened in
    let a : v.held.is_aborted ≡ false = sym (f.aborted o) ∙ going in
    let i : v.held.is_inserted ≡ false = sym (f.inserted o a) ∙ plain in
    let r : v.held.run ≡ j - 1 = sym f.run ∙ run in
    let first : take 32831 v.held.kept ≡ low_bits (min j 6) 126 = sym (f.kept o a) ∙ kept in
    let size : length (take 32831 v.held.kept) ≡ min j 6 = ap length first ∙ length-low_bits (min j 6) 126 in
    let small : min j 6 ≤ 6 = omega arith in
    let k : v.held.kept ≡ low_bits (min j 6) 126 = sym (take_short 32831 v.held.kept (omega arith)) ∙ first in
    ap (λ x. seen x v.held.run v.held.is_aborted v.held.is_inserted v.held.kept) o
    ∙ ap (λ x. seen true x v.held.is_aborted v.held.is_inserted v.held.kept) r
    ∙ ap (λ x. seen true (j - 1) x v.held.is_inserted v.held.kept) a
    ∙ ap (λ x. seen true (j - 1) false x v.held.kept) i
    ∙ ap (λ x. seen true (j - 1) false false x) k

pub idles_seen : (d : Deframer) (j : ℕ) → j ≤ 7 → d.scan.is_open ≡ true → d.scan.is_aborted ≡ false → d.scan.is_inserted ≡ false → d.scan.run ≡ j - 1
    → d.kept ≡ low_bits (min j 6) 126 → (v : Seen) → FitsSeen d v → seen_from v (low_bits 8 (flags_at j)) ≡ v
idles_seen d j few opened going plain run kept v f =
    let same = idle_is d j opened going plain run kept v f in
    ap (λ w. seen_from w (low_bits 8 (flags_at j))) same ∙ idle_stays j few ∙ sym same

pub idles_found : (d : Deframer) (j : ℕ) → j ≤ 7 → d.scan.is_open ≡ true → d.scan.is_aborted ≡ false → d.scan.is_inserted ≡ false → d.scan.run ≡ j - 1
    → d.kept ≡ low_bits (min j 6) 126 → (v : Seen) → FitsSeen d v → found_from v (low_bits 8 (flags_at j)) ≡ []
idles_found d j few opened going plain run kept v f =
    ap (λ w. found_from w (low_bits 8 (flags_at j))) (idle_is d j opened going plain run kept v f) ∙ idle_finds j few

ones_are : (d : Deframer) → d.scan.run ≡ 7 → (v : Seen) → FitsSeen d v → v ≡ seen v.is_open 7 v.held.is_aborted v.held.is_inserted v.held.kept
ones_are d e v f = ap (λ x. seen v.is_open x v.held.is_aborted v.held.is_inserted v.held.kept) (sym f.run ∙ e)

pub ones_seen : (d : Deframer) → d.scan.run ≡ 7 → (v : Seen) → FitsSeen d v → seen_from v (low_bits 8 255) ≡ v
ones_seen d e v f =
    let same = ones_are d e v f in
    ap (λ w. seen_from w (low_bits 8 255)) same ∙ ones_stay v.is_open v.held.is_aborted v.held.is_inserted v.held.kept ∙ sym same

pub ones_found : (d : Deframer) → d.scan.run ≡ 7 → (v : Seen) → FitsSeen d v → found_from v (low_bits 8 255) ≡ []
ones_found d e v f =
    ap (λ w. found_from w (low_bits 8 255)) (ones_are d e v f) ∙ ones_find v.is_open v.held.is_aborted v.held.is_inserted v.held.kept

-- fewer bits than an octet are its lowest
low_of : (n o x : ℕ) → o % 2 ^ n ≡ x % 2 ^ n → low_bits n o ≡ low_bits n x
low_of n o x e = sym (low_bits-mod n o) ∙ ap (low_bits n) e ∙ low_bits-mod n x

pub low_kept : (n w x : ℕ) (octets : List ℕ) (bits : List Bool) → n < 8 → n ≤ 8 * length octets → take n (bits_of octets) ≡ bits → n ≡ length bits
    → w ≡ 1 * 2 ^ n % 256 → 0 < n → (r : ℕ) → get_or octets 0 r ≡ r → (r % w == x % w) ≡ true → bits ≡ low_bits (length bits) x
low_kept n w x [] bits h k e size weight some r first test = absurd (omega arith)
low_kept n w x (o ∷ octets) bits h k e size weight some r first test =
    let same : o % w ≡ x % w = ap (λ y. y % w) first ∙ eqb-true (r % w) (x % w) test in
    let power : w ≡ 2 ^ n = weight ∙ one_shl n 8 h in
    sym e ∙ take_first n o (bits_of octets) (omega arith) ∙ low_of n o x (ap (λ p. o % p) (sym power) ∙ same ∙ ap (λ p. x % p) power)
    ∙ ap (λ l. low_bits l x) size

pub low_none : (n x : ℕ) (bits : List Bool) → n ≡ length bits → n ≡ 0 → bits ≡ low_bits (length bits) x
unfolding low_bits
low_none n x [] size none = refl
low_none n x (b ∷ bits) size none = absurd (omega arith)

pub weight_some : (n : ℕ) → n < 8 → 0 < 1 * 2 ^ n % 256
weight_some n h = rw (one_shl n 8 h) (pow_pos n)

pub none_kept : (r : Option ℕ) (bits : List Bool) → IfSome r (λ n. n ≡ 0) → length bits ≡ 0 → IfSome r (λ n. bits ≡ low_bits (min n 6) 126)
unfolding low_bits
none_kept None bits h size = tt
none_kept (Some n) [] h size = rw h refl
none_kept (Some n) (b ∷ bits) h size = absurd (omega arith)

-- ---- of octets that follow one another

part_one : (i : ℕ) (octets : List ℕ) → i < length octets → part (8 * i) (8 * (i + 1)) (bits_of octets) ≡ low_bits 8 (get_or octets i 0)
part_one i octets h =
    let eight : 8 * (i + 1) - 8 * i ≡ 8 = omega arith in
    ap (λ n. take n (drop (8 * i) (bits_of octets))) eight ∙ octet_at i octets h

pub none_more_seen : (d : Deframer) (at : ℕ) (bits : List Bool) (v : Seen) → FitsSeen d v → seen_from v (part at at bits) ≡ v
unfolding seen_from
none_more_seen d at bits v f = ap (seen_from v) (part_none at bits)

pub none_more_found : (d : Deframer) (at : ℕ) (bits : List Bool) (v : Seen) → FitsSeen d v → found_from v (part at at bits) ≡ []
unfolding found_from
none_more_found d at bits v f = ap (found_from v) (part_none at bits)

pub one_more_seen : (d : Deframer) (at i o : ℕ) (octets : List ℕ) → at ≤ i → i < length octets → get_or octets i 0 ≡ o
    → ((v : Seen) → FitsSeen d v → seen_from v (low_bits 8 o) ≡ v)
    → ((v : Seen) → FitsSeen d v → seen_from v (part (8 * at) (8 * i) (bits_of octets)) ≡ v)
    → (v : Seen) → FitsSeen d v → seen_from v (part (8 * at) (8 * (i + 1)) (bits_of octets)) ≡ v
one_more_seen d at i o octets low high e one all v f =
    let bits = bits_of octets in
    ap (seen_from v) (part_join (8 * at) (8 * i) (8 * (i + 1)) bits (omega arith) (omega arith))
    ∙ seen-append v (part (8 * at) (8 * i) bits) (part (8 * i) (8 * (i + 1)) bits)
    ∙ ap (λ w. seen_from w (part (8 * i) (8 * (i + 1)) bits)) (all v f)
    ∙ ap (seen_from v) (part_one i octets high ∙ ap (low_bits 8) e)
    ∙ one v f

pub one_more_found : (d : Deframer) (at i o : ℕ) (octets : List ℕ) → at ≤ i → i < length octets → get_or octets i 0 ≡ o
    → ((v : Seen) → FitsSeen d v → found_from v (low_bits 8 o) ≡ [])
    → ((v : Seen) → FitsSeen d v → seen_from v (part (8 * at) (8 * i) (bits_of octets)) ≡ v)
    → ((v : Seen) → FitsSeen d v → found_from v (part (8 * at) (8 * i) (bits_of octets)) ≡ [])
    → (v : Seen) → FitsSeen d v → found_from v (part (8 * at) (8 * (i + 1)) (bits_of octets)) ≡ []
one_more_found d at i o octets low high e one seen_all found_all v f =
    let bits = bits_of octets in
    let last = part (8 * i) (8 * (i + 1)) bits in
    ap (found_from v) (part_join (8 * at) (8 * i) (8 * (i + 1)) bits (omega arith) (omega arith))
    ∙ found-append v (part (8 * at) (8 * i) bits) last
    ∙ ap (λ l. l ++ found_from (seen_from v (part (8 * at) (8 * i) bits)) last) (found_all v f)
    ∙ ap (λ w. found_from w last) (seen_all v f)
    ∙ ap (found_from v) (part_one i octets high ∙ ap (low_bits 8) e)
    ∙ one v f
