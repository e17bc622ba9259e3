-- Bits of which nothing is kept, behind seven 1 bits or up to the seventh.
use Rattle.std.proofs.Common.{ℕ, ◌+◌, ◌/◌, ◌%◌, ◌^◌, ◌<◌, ◌≡◌, ◌∙◌, Bool, true, false, List, [], length, get_or, refl, ap, sym, subst, arith}
use Rattle.x25_bits.specs.FrameCheck.{bits_of, low_bits}
use Rattle.x25_bits.specs.code.FitsSeen.{FitsSeen}
use Rattle.x25_bits.specs.code.Held.{Seen, seen_from, found_from}
use Rattle.x25_bits.specs.code.Reading.{part}
use Rattle.x25_bits.specs.code.Skips.{Skips}
use Rattle.x25_bits.specs.declared.deframer.Deframer.{Deframer}
use Rattle.x25_bits.specs.declared.scan.Scan.{Scan}
use Rattle.x25_bits.proofs.OctetLemmas.{part_low}
use Rattle.x25_bits.proofs.StretchLemmas.{part_first}

abbrev seen : Bool → ℕ → Bool → Bool → List Bool → Seen
seen o r a i k = record { is_open = o; held = record { run = r; is_aborted = a; is_inserted = i; kept = k } }

-- these fields of a scan
abbrev pub IsOver : Scan → ℕ → Type 0
IsOver s run = (s.run ≡ run) × (s.is_open ≡ true) × (s.is_aborted ≡ true)

over_so : (s : Scan) (run : ℕ) (v : Seen) → IsOver s run → run ≡ v.held.run → true ≡ v.is_open → v.held.is_aborted ≡ true → Skips s v
over_so s run v h r o a = record { opened = h.1 ∙ o; run = h.0 ∙ r; aborted = h.2 ∙ sym a; over = a }

flag_over : (s : Scan) (i : Bool) (k : List Bool) → IsOver s 6 → Skips s (seen_from (seen true 7 true i k) (low_bits 7 126))
unfolding seen_from low_bits
flag_over s i k h = over_so s 6 (seen_from (seen true 7 true i k) (low_bits 7 126)) h refl refl refl

flag_none : (i : Bool) (k : List Bool) → found_from (seen true 7 true i k) (low_bits 7 126) ≡ []
unfolding found_from low_bits
flag_none i k = refl

seven_over : (s : Scan) (i : Bool) (k : List Bool) → IsOver s 7 → Skips s (seen_from (seen true 0 false i k) (low_bits 7 127))
unfolding seen_from low_bits
seven_over s i k h = over_so s 7 (seen_from (seen true 0 false i k) (low_bits 7 127)) h refl refl refl

seven_none : (i : Bool) (k : List Bool) → found_from (seen true 0 false i k) (low_bits 7 127) ≡ []
unfolding found_from low_bits
seven_none i k = refl

-- the state seen, where the deframer says so
seen_is : (d : Deframer) (v : Seen) (r : ℕ) (a : Bool) → FitsSeen d v → d.scan.is_open ≡ true → d.scan.run ≡ r → d.scan.is_aborted ≡ a → v
    ≡ seen true r a v.held.is_inserted v.held.kept
seen_is d v r a f o e h =
    let opened : v.is_open ≡ true = sym f.is_open ∙ o in
    let run : v.held.run ≡ r = sym f.run ∙ e in
    let aborted : v.held.is_aborted ≡ a = sym (f.aborted opened) ∙ h in
    ap (λ x. seen x v.held.run v.held.is_aborted v.held.is_inserted v.held.kept) opened
    ∙ ap (λ x. seen true x v.held.is_aborted v.held.is_inserted v.held.kept) run
    ∙ ap (λ x. seen true r x v.held.is_inserted v.held.kept) aborted

flag_part : (place : ℕ) (octets : List ℕ) → place % 8 ≡ 0 → place / 8 < length octets → get_or octets (place / 8) 0 ≡ 126
    → part place (place + 7) (bits_of octets) ≡ low_bits 7 126
flag_part place octets e inside flag = part_first place 7 octets e (omega arith) inside ∙ ap (low_bits 7) flag

seven_part : (place : ℕ) (octets : List ℕ) → place % 8 ≡ 1 → place / 8 < length octets → get_or octets (place / 8) 0 / 2 ≡ 127
    → part place (place + 7) (bits_of octets) ≡ low_bits 7 127
seven_part place octets e inside ones =
    part_low place 7 octets (omega (e, arith)) inside ∙ ap (λ n. low_bits 7 (get_or octets (place / 8) 0 / 2 ^ n)) e ∙ ap (low_bits 7) ones

pub flag_skips : (d : Deframer) (place : ℕ) (octets : List ℕ) (s : Scan) → place % 8 ≡ 0 → place / 8 < length octets → get_or octets (place / 8) 0 ≡ 126
    → d.scan.is_open ≡ true → d.scan.run ≡ 7 → d.scan.is_aborted ≡ true → IsOver s 6 → (v : Seen) → FitsSeen d v
    → Skips s (seen_from v (part place (place + 7) (bits_of octets)))
flag_skips d place octets s e inside flag o r a h v f =
    subst (λ l. Skips s (seen_from v l)) (sym (flag_part place octets e inside flag))
    (subst (λ w. Skips s (seen_from w (low_bits 7 126))) (sym (seen_is d v 7 true f o r a)) (flag_over s v.held.is_inserted v.held.kept h))

pub flag_nothing : (d : Deframer) (place : ℕ) (octets : List ℕ) → place % 8 ≡ 0 → place / 8 < length octets → get_or octets (place / 8) 0 ≡ 126
    → d.scan.is_open ≡ true → d.scan.run ≡ 7 → d.scan.is_aborted ≡ true → (v : Seen) → FitsSeen d v → found_from v (part place (place + 7) (bits_of octets))
    ≡ []
flag_nothing d place octets e inside flag o r a v f =
    ap (found_from v) (flag_part place octets e inside flag) ∙ ap (λ w. found_from w (low_bits 7 126)) (seen_is d v 7 true f o r a)
    ∙ flag_none v.held.is_inserted v.held.kept

pub seven_skips : (d : Deframer) (place : ℕ) (octets : List ℕ) (s : Scan) → place % 8 ≡ 1 → place / 8 < length octets → get_or octets (place / 8) 0 / 2 ≡ 127
    → d.scan.is_open ≡ true → d.scan.run ≡ 0 → d.scan.is_aborted ≡ false → IsOver s 7 → (v : Seen) → FitsSeen d v
    → Skips s (seen_from v (part place (place + 7) (bits_of octets)))
seven_skips d place octets s e inside ones o r a h v f =
    subst (λ l. Skips s (seen_from v l)) (sym (seven_part place octets e inside ones))
    (subst (λ w. Skips s (seen_from w (low_bits 7 127))) (sym (seen_is d v 0 false f o r a)) (seven_over s v.held.is_inserted v.held.kept h))

pub seven_nothing : (d : Deframer) (place : ℕ) (octets : List ℕ) → place % 8 ≡ 1 → place / 8 < length octets → get_or octets (place / 8) 0 / 2 ≡ 127
    → d.scan.is_open ≡ true → d.scan.run ≡ 0 → d.scan.is_aborted ≡ false → (v : Seen) → FitsSeen d v → found_from v (part place (place + 7) (bits_of octets))
    ≡ []
seven_nothing d place octets e inside ones o r a v f =
    ap (found_from v) (seven_part place octets e inside ones) ∙ ap (λ w. found_from w (low_bits 7 127)) (seen_is d v 0 false f o r a)
    ∙ seven_none v.held.is_inserted v.held.kept

-- a deframer with that scan
pub skipped_fits : (e : Deframer) (v : Seen) → Skips e.scan v → FitsSeen e v
skipped_fits e v h = record {
  is_open = h.opened;
  run = h.run;
  aborted = λ o. h.aborted;
  inserted = λ o going. (let bad : true ≡ false = sym h.over ∙ going in cc);
  kept = λ o going. (let bad : true ≡ false = sym h.over ∙ going in cc);
}
