-- What is put is found.
use Rattle.std.proofs.Common.{ℕ, zero, suc, ◌*◌, ◌/◌, ◌%◌, ◌<◌, ◌≤◌, ◌≡◌, ◌∙◌, Bool, true, false, List, [], ◌∷◌, ◌++◌, length, get_or, refl, ap, sym, arith}
use Rattle.std.proofs.Common.{append_assoc}
use Rattle.std.specs.Prelude.{nat_lt}
use Rattle.std.proofs.lemmas.List.{append-nil, take_all}
use Rattle.std.proofs.lemmas.Bool.Decides.{nat_tests}
use Rattle.x25_bits.specs.Deframer.{places_below, between, flag}
use Rattle.x25_bits.specs.FrameCheck.{bits_of}
use Rattle.x25_bits.specs.Found.{Content, class_by, found_of, octets_by}
use Rattle.x25_bits.specs.Stuffing.{stuffed_from, framed}
use Rattle.x25_bits.specs.code.Held.{kept_found, Seen, none_seen, closing, seen_from, found_from}
use Rattle.x25_bits.proofs.FoundLemmas.{found_more}
use Rattle.x25_bits.proofs.ClosingLemmas.{by_kept, kept_six}
use Rattle.x25_bits.proofs.OctetLemmas.{length-bits_of, octets_by-bits_of}

abbrev opening : ℕ → Bool → List Bool → Seen
opening r i k = record { is_open = true; held = record { run = r; is_aborted = false; is_inserted = i; kept = k } }

closed_by_flag : (r : ℕ) (i : Bool) (k : List Bool) → r ≤ 4 → found_from (opening r i k) flag ≡ by_kept k
unfolding found_from closing kept_found
closed_by_flag zero i k h = append-nil _ ∙ kept_six k
closed_by_flag (suc zero) i k h = append-nil _ ∙ kept_six k
closed_by_flag (suc (suc zero)) i k h = append-nil _ ∙ kept_six k
closed_by_flag (suc (suc (suc zero))) i k h = append-nil _ ∙ kept_six k
closed_by_flag (suc (suc (suc (suc zero)))) i k h = append-nil _ ∙ kept_six k
closed_by_flag (suc (suc (suc (suc (suc n))))) i k h = absurd (omega arith)

kept_so : (k : List Bool) (b : Bool) (p : List Bool) → by_kept ((k ++ b ∷ []) ++ p) ≡ by_kept (k ++ b ∷ p)
kept_so k b p = ap by_kept (append_assoc k (b ∷ []) p)

stuffed_found : (r : ℕ) (i : Bool) (k p : List Bool) → r ≤ 4 → found_from (opening r i k) (stuffed_from r p ++ flag) ≡ by_kept (k ++ p)
unfolding found_from stuffed_from
stuffed_found r i k [] h = closed_by_flag r i k h ∙ ap by_kept (sym (append-nil k))
stuffed_found zero i k (false ∷ p) h = stuffed_found 0 false (k ++ false ∷ []) p (omega arith) ∙ kept_so k false p
stuffed_found (suc zero) i k (false ∷ p) h = stuffed_found 0 false (k ++ false ∷ []) p (omega arith) ∙ kept_so k false p
stuffed_found (suc (suc zero)) i k (false ∷ p) h = stuffed_found 0 false (k ++ false ∷ []) p (omega arith) ∙ kept_so k false p
stuffed_found (suc (suc (suc zero))) i k (false ∷ p) h = stuffed_found 0 false (k ++ false ∷ []) p (omega arith) ∙ kept_so k false p
stuffed_found (suc (suc (suc (suc zero)))) i k (false ∷ p) h = stuffed_found 0 false (k ++ false ∷ []) p (omega arith) ∙ kept_so k false p
stuffed_found (suc (suc (suc (suc (suc n))))) i k (false ∷ p) h = absurd (omega arith)
stuffed_found zero i k (true ∷ p) h = stuffed_found 1 i (k ++ true ∷ []) p (omega arith) ∙ kept_so k true p
stuffed_found (suc zero) i k (true ∷ p) h = stuffed_found 2 i (k ++ true ∷ []) p (omega arith) ∙ kept_so k true p
stuffed_found (suc (suc zero)) i k (true ∷ p) h = stuffed_found 3 i (k ++ true ∷ []) p (omega arith) ∙ kept_so k true p
stuffed_found (suc (suc (suc zero))) i k (true ∷ p) h = stuffed_found 4 i (k ++ true ∷ []) p (omega arith) ∙ kept_so k true p
stuffed_found (suc (suc (suc (suc zero)))) i k (true ∷ p) h = stuffed_found 0 true (k ++ true ∷ []) p (omega arith) ∙ kept_so k true p
stuffed_found (suc (suc (suc (suc (suc n))))) i k (true ∷ p) h = absurd (omega arith)

opened : (more : List Bool) → found_from none_seen (flag ++ more) ≡ found_from (opening 0 false []) more
unfolding found_from
opened more = refl

pub found_at_start : (bits : List Bool) → found_of bits ≡ found_from none_seen bits
unfolding seen_from places_below between
found_at_start bits = found_more [] bits

class_content : (octets : List ℕ) → ((k : ℕ) → get_or octets k 0 < 256) → 4 ≤ length octets → length octets ≤ 4103 → by_kept (bits_of octets) ≡ Content octets
    ∷ []
unfolding class_by
class_content octets small low high =
    let n = length octets in
    let size = length-bits_of octets in
    let a : nat_lt 0 (8 * n) ≡ true = grind (arith, nat_tests) in
    let b : nat_lt (8 * n) 32 ≡ false = grind (arith, nat_tests) in
    let d : nat_lt 32824 (8 * n) ≡ false = grind (arith, nat_tests) in
    let e : 8 * n % 8 ≡ 0 = omega arith in
    let f : 8 * n / 8 ≡ n = omega arith in
    let all : octets_by n (bits_of octets) ≡ octets = octets_by-bits_of n octets small (omega arith) ∙ take_all n octets (omega arith) in
    rw (size, a, b, d, e, f, all) refl

pub put_found : (octets : List ℕ) → ((k : ℕ) → get_or octets k 0 < 256) → 4 ≤ length octets → length octets ≤ 4103 → found_of (framed octets) ≡ Content octets
    ∷ []
put_found octets small low high =
    found_at_start (framed octets)
    ∙ ap (found_from none_seen) (append_assoc flag (stuffed_from 0 (bits_of octets)) flag)
    ∙ opened (stuffed_from 0 (bits_of octets) ++ flag)
    ∙ stuffed_found 0 false [] (bits_of octets) (omega arith)
    ∙ class_content octets small low high
