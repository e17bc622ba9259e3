-- A trace that is framed and found again.
use Rattle.x25_bit_line.proofs.Names.{◌≡◌, ◌∙◌, ◌+◌, ◌-◌, ◌*◌, ◌/◌, ◌<◌, ◌≤◌, ℕ, zero, suc, Bool, true, false, List, [], ◌∷◌, ◌++◌, length, take, drop}
use Rattle.x25_bit_line.proofs.Names.{append_assoc, ap, sym, refl, arith, length-append, length-drop, length-take-le, take-append-drop, number_of, octets_by}
use Rattle.hex.{proofs.HexLemmas.{decode_of-encode_lower}, specs.Hex.{decode_of, encode_lower, encode_with, lower_digits}}
use Rattle.std.proofs.{Common.{◌≢◌, ◌%◌, ◌⊎◌, inl, inr, ◌==◌, nat_eq, nat_le, not, map, Some, le-leb, flat_map}, Math.ListN.{get_or-eq_default}}
use Rattle.std.{proofs.lemmas.Bool.{agree_below, agree_below_at, cases_lt, eqb-true}, proofs.lemmas.List.{length-replicate}, specs.Fmt.{digit_glyph}}
use Rattle.std.specs.{Prelude.{replicate, slice_index, All, option_map}, Result.{result_ok}}
use Rattle.x25_bit_line.proofs.{FrameLineLemmas.{bits_on, no_bits, sends_frame}, Names.{octets_of, filled, Role, framed_bits, line_bits}}
use Rattle.x25_bit_line.specs.{Deframing.{class_lines, deframed, trace_line}, Framing.{framed_octets}, laws.Trace.{AreContents, trace_text}}
use Rattle.x25_bits.specs.{Deframer.{flag, between, begins_with_flag, is_flag_at, places_below}, Found.{Content, found_of}, FrameCheck.{bits_of, low_bits}}
use Rattle.x25_bits.specs.{Stuffing.{framed, stuff}, declared.role.Role.TheVariants.{Dte, Dce}}
use Rattle.x25_decode.specs.Decoding.{mark_of, octets_in, sent_in}
use Rattle.x25_io.proofs.LineLemmas.{ends_line, open-append}
use Rattle.x25_io.specs.Lines.{IsOpen}
use Rattle.x25_text.specs.Text.{octet_text}

-- ---- digits

digit_is : ℕ → Bool
digit_is d = slice_index lower_digits d == digit_glyph false d

all_digits : agree_below digit_is (λ _. true) 16 ≡ true
unfolding digit_is
all_digits = refl

same_digit : (d : ℕ) → d < 16 → slice_index lower_digits d ≡ digit_glyph false d
unfolding digit_is
same_digit d h = eqb-true _ _ (agree_below_at digit_is (λ _. true) 16 d all_digits h)

is_open_digit : ℕ → Bool
is_open_digit d = not (nat_eq (digit_glyph false d) 10)

all_open : agree_below is_open_digit (λ _. true) 16 ≡ true
unfolding is_open_digit
all_open = refl

open_digit : (d : ℕ) → d < 16 → digit_glyph false d ≢ 10
unfolding is_open_digit
open_digit d h e =
    let is : not (nat_eq (digit_glyph false d) 10) ≡ true = agree_below_at is_open_digit (λ _. true) 16 d all_open h in
    let no : not (nat_eq (digit_glyph false d) 10) ≡ false = ap (λ n. not (nat_eq n 10)) e in
    cc

-- each octet is below 256
abbrev AreSmall : List ℕ → Type 0
AreSmall octets = (k : ℕ) → slice_index octets k < 256

digits_are : (octets : List ℕ) → AreSmall octets → encode_lower octets ≡ flat_map octet_text octets
unfolding encode_with
digits_are [] small = refl
digits_are (o ∷ octets) small =
    let first : o < 256 = small 0 in
    let high : slice_index lower_digits (o / 16) ≡ digit_glyph false (o / 16) = same_digit (o / 16) (omega arith) in
    let low : slice_index lower_digits (o % 16) ≡ digit_glyph false (o % 16) = same_digit (o % 16) (omega arith) in
    let rest = digits_are octets (λ k. small (suc k)) in
    ap (λ d. d ∷ slice_index lower_digits (o % 16) ∷ encode_lower octets) high
    ∙ ap (λ d. digit_glyph false (o / 16) ∷ d ∷ encode_lower octets) low
    ∙ ap (λ l. digit_glyph false (o / 16) ∷ digit_glyph false (o % 16) ∷ l) rest

open_digits : (octets : List ℕ) → AreSmall octets → IsOpen (flat_map octet_text octets)
open_digits [] small = tt
open_digits (o ∷ octets) small =
    let first : o < 256 = small 0 in
    (open_digit (o / 16) (omega arith), (open_digit (o % 16) (omega arith), open_digits octets (λ k. small (suc k))))

length-digits : (octets : List ℕ) → length (flat_map octet_text octets) ≡ 2 * length octets
length-digits [] = refl
length-digits (o ∷ octets) = let rest = length-digits octets in omega (arith, rest)

-- ---- a line of a trace

open_mark : (from : Role) → IsOpen (mark_of from)
open_mark Dte = (λ e. absurd (cc), (λ e. absurd (cc), tt))
open_mark Dce = (λ e. absurd (cc), (λ e. absurd (cc), tt))

octets_again : (octets : List ℕ) → AreSmall octets → length octets ≤ 4103 → octets_in (flat_map octet_text octets) ≡ Some octets
octets_again octets small few =
    let size = length-digits octets in
    let test : nat_le (length (flat_map octet_text octets)) 8206 ≡ true = le-leb (length (flat_map octet_text octets)) 8206 (omega (arith, size)) in
    rw test (ap (λ l. result_ok (decode_of l)) (sym (digits_are octets small)) ∙ ap result_ok (decode_of-encode_lower octets small))

sent_again : (from : Role) (octets : List ℕ) → octets_in (flat_map octet_text octets) ≡ Some octets → sent_in (mark_of from ++ flat_map octet_text octets)
    ≡ Some (from, octets)
sent_again Dte octets e = ap (option_map (λ octets. (Dte, octets))) e
sent_again Dce octets e = ap (option_map (λ octets. (Dce, octets))) e

each_small : (octets : List ℕ) → All (λ octet. octet < 256) octets → AreSmall octets
each_small octets small k = elim (cases_lt k (length octets)) [
  | inl low ↦ small k 0 low
  | inr high ↦ rw (get_or-eq_default octets 0 high) (omega arith)
]

-- ---- the bits of a trace

bits_again : (from : Role) (frames : List (List ℕ)) → AreContents frames → framed_bits (trace_text from frames) ≡ flat_map framed frames
bits_again from [] contents = no_bits
bits_again from (octets ∷ frames) contents =
    let small = each_small octets contents.0.small in
    let line = mark_of from ++ flat_map octet_text octets in
    let rest = trace_text from frames in
    let split : trace_line from octets ++ rest ≡ line ++ 10 ∷ rest = append_assoc line (10 ∷ []) rest in
    let is_open : IsOpen line = open-append (mark_of from) (flat_map octet_text octets) (open_mark from) (open_digits octets small) in
    let sent : line_bits line ≡ framed octets = sends_frame line from octets (sent_again from octets (octets_again octets small contents.0.most)) in
    ap framed_bits split ∙ bits_on (line ++ 10 ∷ rest) line rest (ends_line line rest is_open)
    ∙ ap (λ l. l ++ framed_bits rest) sent ∙ ap (λ l. framed octets ++ l) (bits_again from frames contents.1)

-- ---- octets and bits

parity : (a : ℕ) → (a % 2 ≡ 0) ⊎ (a % 2 ≡ 1)
parity a = grind arith

low_bits-number_of : (bits : List Bool) → low_bits (length bits) (number_of bits) ≡ bits
unfolding low_bits number_of
low_bits-number_of [] = refl
low_bits-number_of (true ∷ bits) =
    let odd : (1 + 2 * number_of bits) % 2 ≡ 1 = omega arith in
    let half : (1 + 2 * number_of bits) / 2 ≡ number_of bits = omega arith in
    rw (odd, half) (ap (λ (l : List Bool). true ∷ l) (low_bits-number_of bits))
low_bits-number_of (false ∷ bits) =
    let even : (0 + 2 * number_of bits) % 2 ≡ 0 = omega arith in
    let half : (0 + 2 * number_of bits) / 2 ≡ number_of bits = omega arith in
    rw (even, half) (ap (λ (l : List Bool). false ∷ l) (low_bits-number_of bits))

bits_of-octets_by : (n : ℕ) (bits : List Bool) → length bits ≡ 8 * n → bits_of (octets_by n bits) ≡ bits
unfolding octets_by
bits_of-octets_by zero [] e = refl
bits_of-octets_by zero (b ∷ bits) e = absurd (omega (arith, e))
bits_of-octets_by (suc n) bits e =
    let size : length (take 8 bits) ≡ 8 = length-take-le 8 bits (omega (arith, e)) in
    let left : length (drop 8 bits) ≡ 8 * n = (let d = length-drop 8 bits in omega (arith, d, e)) in
    ap (λ k. low_bits k (number_of (take 8 bits)) ++ bits_of (octets_by n (drop 8 bits))) (sym size)
    ∙ ap (λ l. l ++ bits_of (octets_by n (drop 8 bits))) (low_bits-number_of (take 8 bits))
    ∙ ap (λ l. take 8 bits ++ l) (bits_of-octets_by n (drop 8 bits) left)
    ∙ take-append-drop 8 bits

bits_of_filled : (bits : List Bool) → bits_of (octets_of (filled bits)) ≡ filled bits
bits_of_filled bits =
    let more = (8 - length bits % 8) % 8 in
    let size : length (filled bits) ≡ length bits + more = length-append bits (replicate more true) ∙ ap (λ n. length bits + n) (length-replicate more true) in
    bits_of-octets_by (length (filled bits) / 8) (filled bits) (omega (arith, size))

-- ---- what is found

abbrev Parts : Type 0
Parts = (before more : List Bool) → found_of (before ++ flag ++ more) ≡ found_of (before ++ flag) ++ found_of (flag ++ more)

abbrev Finds : Type 0
Finds = (before : List Bool) (octets : List ℕ) → All (λ octet. octet < 256) octets → 4 ≤ length octets → length octets ≤ 4103
    → found_of (before ++ framed octets) ≡ found_of (before ++ flag) ++ Content octets ∷ []

two_flags : found_of (flag ++ flag) ≡ []
unfolding begins_with_flag is_flag_at places_below between
two_flags = refl

one_flag : found_of flag ≡ []
unfolding begins_with_flag is_flag_at places_below between
one_flag = refl

none_found : found_of (filled []) ≡ []
unfolding begins_with_flag is_flag_at places_below between
none_found = refl

-- 1 bits behind a flag, fewer than eight
ones_found : (n : ℕ) → n < 8 → found_of (flag ++ replicate n true) ≡ []
unfolding begins_with_flag is_flag_at places_below between
ones_found zero h = refl
ones_found (suc zero) h = refl
ones_found (suc (suc zero)) h = refl
ones_found (suc (suc (suc zero))) h = refl
ones_found (suc (suc (suc (suc zero)))) h = refl
ones_found (suc (suc (suc (suc (suc zero))))) h = refl
ones_found (suc (suc (suc (suc (suc (suc zero)))))) h = refl
ones_found (suc (suc (suc (suc (suc (suc (suc zero))))))) h = refl
ones_found (suc (suc (suc (suc (suc (suc (suc (suc n)))))))) h = absurd (omega arith)

module _ (parts : Parts) (finds : Finds) (n : ℕ) (few : n < 8) where
  -- behind a flag
  found_behind : (frames : List (List ℕ)) → AreContents frames → found_of (flag ++ (flat_map framed frames ++ replicate n true))
      ≡ map (λ octets. Content octets) frames
  found_behind [] c = ones_found n few
  found_behind (octets ∷ frames) c =
      let inside = stuff (bits_of octets) in
      let rest = flat_map framed frames ++ replicate n true in
      ap (λ l. found_of (flag ++ l)) (append_assoc (framed octets) (flat_map framed frames) (replicate n true))
      ∙ parts (flag ++ (flag ++ inside)) rest
      ∙ ap (λ l. l ++ found_of (flag ++ rest)) (finds flag octets c.0.small c.0.fewest c.0.most ∙ ap (λ l. l ++ Content octets ∷ []) two_flags)
      ∙ ap (λ l. Content octets ∷ l) (found_behind frames c.1)

  found_first : (octets : List ℕ) (frames : List (List ℕ)) → AreContents (octets ∷ frames)
      → found_of (flat_map framed (octets ∷ frames) ++ replicate n true) ≡ map (λ octets. Content octets) (octets ∷ frames)
  found_first octets frames c =
      let inside = stuff (bits_of octets) in
      let rest = flat_map framed frames ++ replicate n true in
      ap found_of (append_assoc (framed octets) (flat_map framed frames) (replicate n true))
      ∙ parts (flag ++ inside) rest
      ∙ ap (λ l. l ++ found_of (flag ++ rest)) (finds [] octets c.0.small c.0.fewest c.0.most ∙ ap (λ l. l ++ Content octets ∷ []) one_flag)
      ∙ ap (λ l. Content octets ∷ l) (found_behind frames c.1)

found_all : Parts → Finds → (frames : List (List ℕ)) → AreContents frames → found_of (filled (flat_map framed frames)) ≡ map (λ octets. Content octets) frames
found_all parts finds [] c = none_found
found_all parts finds (octets ∷ frames) c =
    found_first parts finds ((8 - length (flat_map framed (octets ∷ frames)) % 8) % 8) (omega arith) octets frames c

lines_again : (from : Role) (frames : List (List ℕ)) → class_lines from (map (λ octets. Content octets) frames) ≡ trace_text from frames
lines_again from [] = refl
lines_again from (octets ∷ frames) = ap (λ l. trace_line from octets ++ l) (lines_again from frames)

pub comes_back : Parts → Finds → (from : Role) (frames : List (List ℕ)) → AreContents frames → deframed from (framed_octets (trace_text from frames))
    ≡ trace_text from frames
comes_back parts finds from frames c =
    ap (λ bits. class_lines from (found_of bits)) (bits_of_filled (framed_bits (trace_text from frames)) ∙ ap filled (bits_again from frames c))
    ∙ ap (class_lines from) (found_all parts finds frames c) ∙ lines_again from frames
