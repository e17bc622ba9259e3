-- The line that tells of a frame reads as its octets at the other end.
use Rattle.x25_joined.proofs.Names.{◌≡◌, ◌∙◌, ℕ, suc, ◌+◌, ◌<◌, nat_le, Bool, true, false, List, [], ◌∷◌, ◌++◌, length, Some, None, ap, refl, arith}
use Rattle.x25_joined.proofs.Names.{decode_pairs, other, Role, Dte, Dce, IsOpen, Comes, frame_line, AreOfFrame, saying_line, event_in}
use Rattle.hex.specs.Hex.{value_at, pair_value}
use Rattle.std.proofs.{Common.{◌≢◌, ◌*◌, ◌/◌, ◌%◌, nat_eq, nat_lt, if◌then◌else◌, flat_map, option_map, Ok}, lemmas.Bool.{ne_eqb, le-leb}}
use Rattle.std.{proofs.lemmas.List.Elements.{All-head, All-tail}, specs.Fmt.{digit_glyph}}
use Rattle.x25_decode.specs.Decoding.{mark_of, octets_in, sent_in}
use Rattle.x25_io.specs.HeldLine.{most_line}
use Rattle.x25_pipe.specs.Pipe.{sends, read_event}
use Rattle.x25_station.specs.laws.ReadLaw.{AreOctets}
use Rattle.x25_text.specs.Text.{octet_text}

abbrev digits_of : List ℕ → List ℕ
digits_of octets = flat_map octet_text octets

-- ---- digits

abbrev IsOctet : ℕ → Type 0
IsOctet octet = octet < 256

digit_read : (d i : ℕ) → d < 16 → value_at (digit_glyph false d) i ≡ Ok d
digit_read (suc (suc (suc (suc (suc (suc (suc (suc (suc (suc (suc (suc (suc (suc (suc (suc d)))))))))))))))) i low = absurd (omega (arith, low))
digit_read d i low = refl

glyph_of : (b : Bool) (d : ℕ) → (if b then 48 + d else 87 + d) ≢ 10
glyph_of true d e = omega (arith, e)
glyph_of false d e = omega (arith, e)

glyph_open : (d : ℕ) → digit_glyph false d ≢ 10
glyph_open d = glyph_of (nat_lt d 10) d

octet_read : (o i : ℕ) → o < 256 → pair_value (digit_glyph false (o / 16)) (digit_glyph false (o % 16)) i ≡ Ok o
octet_read o i low =
    let high = digit_read (o / 16) i (omega (arith, low)) in
    let rest = digit_read (o % 16) (i + 1) (omega arith) in
    let all : o / 16 * 16 + o % 16 ≡ o = omega arith in
    rw (high, rest, all) refl

pairs_read : (octets : List ℕ) (i : ℕ) → AreOctets octets → decode_pairs i (digits_of octets) ≡ Ok octets
unfolding decode_pairs
pairs_read [] i h = refl
pairs_read (o ∷ octets) i h =
    rw (octet_read o i (All-head IsOctet o octets h), pairs_read octets (i + 2) (All-tail IsOctet o octets h)) refl

length_digits : (octets : List ℕ) → length (digits_of octets) ≡ 2 * length octets
length_digits [] = omega arith
length_digits (o ∷ octets) = let h = length_digits octets in omega (arith, h)

digits_read : (octets : List ℕ) → AreOfFrame octets → octets_in (digits_of octets) ≡ Some octets
digits_read octets h =
    let digits = digits_of octets in
    let count = length_digits octets in
    let few : nat_le (length digits) 8206 ≡ true = le-leb (length digits) 8206 (omega (arith, count, h.short)) in
    let even : nat_eq (length digits % 2) 1 ≡ false = ne_eqb (length digits % 2) 1 (λ (odd : length digits % 2 ≡ 1). omega (arith, odd, count)) in
    rw (few, even, pairs_read octets 0 h.each) refl

-- ---- a line

-- without its line feed
abbrev pub frame_words : Role → List ℕ → List ℕ
frame_words from octets = mark_of from ++ digits_of octets

-- a program says a frame by this line
pub frame_text : (from : Role) (octets : List ℕ) → saying_line from (sends octets) ≡ frame_words from octets ++ 10 ∷ []
unfolding saying_line frame_line
frame_text from octets = refl

open_digits : (octets : List ℕ) → IsOpen (digits_of octets)
open_digits [] = tt
open_digits (o ∷ octets) = (glyph_open (o / 16), (glyph_open (o % 16), open_digits octets))

-- no LF is in it
pub frame_open : (from : Role) (octets : List ℕ) → IsOpen (frame_words from octets)
frame_open Dte octets = (λ (e : 62 ≡ 10). omega (arith, e), (λ (e : 32 ≡ 10). omega (arith, e), open_digits octets))
frame_open Dce octets = (λ (e : 60 ≡ 10). omega (arith, e), (λ (e : 32 ≡ 10). omega (arith, e), open_digits octets))

frame_sent : (from : Role) (octets : List ℕ) → AreOfFrame octets → sent_in (frame_words from octets) ≡ Some (from, octets)
frame_sent Dte octets h = ap (option_map (λ (os : List ℕ). let sent : Role × List ℕ = (Dte, os) in sent)) (digits_read octets h)
frame_sent Dce octets h = ap (option_map (λ (os : List ℕ). let sent : Role × List ℕ = (Dce, os) in sent)) (digits_read octets h)

length_words : (from : Role) (octets : List ℕ) → length (frame_words from octets) ≡ 2 + 2 * length octets
length_words Dte octets = let h = length_digits octets in omega (arith, h)
length_words Dce octets = let h = length_digits octets in omega (arith, h)

words_read : (wide : Bool) (end : Role) (octets : List ℕ) → read_event wide end (frame_words (other end) octets) (Some (other end, octets))
    ≡ Some (Comes octets)
words_read wide Dte octets = refl
words_read wide Dce octets = refl

-- it is read at the other end as these octets
pub frame_comes : (wide : Bool) (end : Role) (octets : List ℕ) → AreOfFrame octets → event_in wide end (frame_words (other end) octets) ≡ Some (Comes octets)
unfolding event_in
frame_comes wide end octets h =
    let line = frame_words (other end) octets in
    let count = length_words (other end) octets in
    ap (λ (b : Bool). if b then read_event wide end line (sent_in line) else None) (le-leb (length line) most_line (omega (arith, count, h.short)))
    ∙ ap (read_event wide end line) (frame_sent (other end) octets h) ∙ words_read wide end octets
