-- The line at the front of a text.
use Rattle.x25_decode.proofs.Names.{ℕ, ◌≡◌, ◌<◌, ◌∙◌, Bool, true, false, List, [], ◌∷◌, ◌++◌, length, refl, ap, sym, subst, arith, Option, None, sent_in}
use Rattle.hex.specs.{Hex.{◌>>=◌, decode_of, decode_pairs, digit_or_error, hex_digit_value}, declared.error.FromHexError.{FromHexError}}
use Rattle.hex.specs.declared.error.FromHexError.TheVariants.{OddLength}
use Rattle.std.proofs.{Common.{suc, ◌≢◌, ◌==◌, ◌≤◌, ◌+◌, ◌-◌, ◌*◌, ◌%◌, take, drop, if◌then◌else◌, Some, Result, Ok, Err}, Math.Seq.{drop-cons}}
use Rattle.std.proofs.lemmas.{Bool.{le-leb}, List.{length-drop, length-take-le, take_all, take-append-drop}}
use Rattle.std.specs.{Prelude.{nat_le, slice_index, option_and_then, option_map}, Result.{result_ok}}
use Rattle.x25_bits.specs.declared.role.Role.{Role}
use Rattle.x25_decode.specs.{Decoding.{octets_in, sender_of}, code.Front.{StandsInFront}}
use Rattle.x25_io.specs.Lines.{IsOpen}

no_feed : (c v : ℕ) → hex_digit_value c ≡ Some v → c ≢ 10
no_feed c v e = λ ten. let none : None ≡ Some v = subst (λ c. hex_digit_value c ≡ Some v) ten e in cc none

-- nor is a mark one
pub no_mark : (mark : ℕ) (from : Role) → sender_of mark ≡ Some from → mark ≢ 10
no_mark mark from e = λ ten. let none : None ≡ Some from = subst (λ m. sender_of m ≡ Some from) ten e in cc none

open_pairs : (i : ℕ) (digits octets : List ℕ) → result_ok (decode_pairs i digits) ≡ Some octets → IsOpen digits
unfolding decode_pairs
open_pairs i [] octets h = tt
open_pairs i (x ∷ []) octets h = cc h
open_pairs i (high ∷ low ∷ digits) octets h = go (hex_digit_value high) (hex_digit_value low) (decode_pairs (i + 2) digits) refl refl
    (λ x e. open_pairs (i + 2) digits x e) h
  where
    go : (p q : Option ℕ) (r : Result (List ℕ) FromHexError) → hex_digit_value high ≡ p → hex_digit_value low ≡ q
        → ((x : List ℕ) → result_ok r ≡ Some x → IsOpen digits)
        → result_ok ((digit_or_error high i p >>= λ h. digit_or_error low (i + 1) q >>= λ l. Ok (h * 16 + l)) >>= λ byte. r >>= λ bytes. Ok (byte ∷ bytes))
        ≡ Some octets
        → IsOpen (high ∷ low ∷ digits)
    go (Some p) (Some q) (Ok x) a b c h = (no_feed high p a, (no_feed low q b, c x refl))
    go (Some p) (Some q) (Err e) a b c h = cc h
    go (Some p) None r a b c h = cc h
    go None q r a b c h = cc h

-- digits have no line feed
pub open_digits : (digits octets : List ℕ) → result_ok (decode_of digits) ≡ Some octets → IsOpen digits
open_digits digits octets h = go (length digits % 2 == 1) h
  where
    go : (odd : Bool) → result_ok (if odd then Err OddLength else decode_pairs 0 digits) ≡ Some octets → IsOpen digits
    go true h = cc h
    go false h = open_pairs 0 digits octets h

-- a mark, a space and digits
module _ (mark count : ℕ) (digits octets : List ℕ) (few : count ≤ 4103) (within : 2 * count < length digits)
    (read : result_ok (decode_of (take (2 * count) digits)) ≡ Some octets) where
  size : length (take (2 * count) digits) ≡ 2 * count
  size = length-take-le (2 * count) digits (omega (arith, within))

  two_more : 2 * count + 2 ≡ suc (suc (2 * count))
  two_more = omega arith

  front : take (2 * count + 2) (mark ∷ 32 ∷ digits) ≡ mark ∷ 32 ∷ take (2 * count) digits
  front = ap (λ n. take n (mark ∷ 32 ∷ digits)) two_more

  octets_are : octets_in (take (2 * count) digits) ≡ Some octets
  octets_are =
      let test : nat_le (length (take (2 * count) digits)) 8206 ≡ true = le-leb (length (take (2 * count) digits)) 8206 (omega (arith, size, few)) in
      rw test read

  pub sent_front : (from : Role) → sender_of mark ≡ Some from → sent_in (take (2 * count + 2) (mark ∷ 32 ∷ digits)) ≡ Some (from, octets)
  sent_front from is = ap sent_in front ∙ go (sender_of mark) (octets_in (take (2 * count) digits)) is octets_are
    where
      go : (s : Option Role) (o : Option (List ℕ)) → s ≡ Some from → o ≡ Some octets
          → option_and_then {U = Role × List ℕ} (λ from. option_map (λ octets. (from, octets)) o) s ≡ Some (from, octets)
      go s o p q = rw (p, q) refl

  pub stands_front : mark ≢ 10 → slice_index digits (2 * count) ≡ 10 → StandsInFront (2 * count + 2) (mark ∷ 32 ∷ digits)
  stands_front other feed =
      let space : 32 ≢ 10 = λ e. omega (arith, e) in (
        omega (arith, within),
        ap (slice_index (mark ∷ 32 ∷ digits)) two_more ∙ feed,
        subst IsOpen (sym front) (other, (space, open_digits (take (2 * count) digits) octets read)),
      )

-- the same of the front of a text
pub line_left : (left digits : List ℕ) (count : ℕ) (octets : List ℕ) (from : Role) → digits ≡ drop 2 left → 2 ≤ length left → slice_index left 1 ≡ 32
    → sender_of (slice_index left 0) ≡ Some from → count ≤ 4103 → (2 * count < length digits) × (slice_index digits (2 * count) ≡ 10)
    → result_ok (decode_of (take (2 * count) digits)) ≡ Some octets
    → StandsInFront (2 * count + 2) left × (sent_in (take (2 * count + 2) left) ≡ Some (from, octets))
line_left [] digits count octets from same long is_space marked few end read = absurd (omega arith)
line_left (mark ∷ []) digits count octets from same long is_space marked few end read = absurd (omega arith)
line_left (mark ∷ space ∷ behind) digits count octets from same long is_space marked few end read =
    let are : digits ≡ behind = same in
    subst (λ left. StandsInFront (2 * count + 2) left × (sent_in (take (2 * count + 2) left) ≡ Some (from, octets))) (λ i. mark ∷ sym is_space i ∷ are i) (
      stands_front mark count digits octets few end.0 read (no_mark mark from marked) end.1,
      sent_front mark count digits octets few end.0 read from marked,
    )

-- the line, its line feed and the rest
pub parted : (count : ℕ) (left : List ℕ) → StandsInFront count left → left ≡ take count left ++ 10 ∷ take (length left - (count + 1)) (drop (count + 1) left)
parted count left stands =
    let one : suc count ≡ count + 1 = omega arith in
    let behind : take (length left - (count + 1)) (drop (count + 1) left) ≡ drop (count + 1) left =
    take_all (length left - (count + 1)) (drop (count + 1) left) (omega (arith, length-drop (count + 1) left)) in
    sym (take-append-drop count left)
    ∙ ap (λ rest. take count left ++ rest) (drop-cons left count 0 stands.0 ∙ (λ i. stands.1 i ∷ drop (one i) left) ∙ ap (λ rest. 10 ∷ rest) (sym behind))
