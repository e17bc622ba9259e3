-- A line that is longer than any that is held is none of the grammar.
use Rattle.x25_decode.proofs.Names.{Reading, ◌≡◌, ◌<◌, ℕ, Bool, true, false, List, [], ◌∷◌, length, ap, refl, arith, Option, None, answer_to, is_refused}
use Rattle.std.proofs.{Common.{◌==◌, nat_le, codes, if◌then◌else◌, Some, option_map, option_and_then}, lemmas.Bool.Decides.{nat_tests}}
use Rattle.std.{proofs.lemmas.Slice.Eq.{bytes_eq-Decides}, specs.Str.{bytes_eq}}
use Rattle.x25_bits.specs.declared.role.Role.{Role}
use Rattle.x25_decode.{proofs.Names.{sent_in}, specs.Decoding.{gap_in, octets_in, sender_of}}
use Rattle.x25_io.specs.HeldLine.{most_line}

no_octets : (space : Bool) (from : Option Role)
    → (if space then option_and_then {U = Role × List ℕ} (λ from. option_map (λ octets. (from, octets)) None) from else None) ≡ None
no_octets true None = refl
no_octets true (Some from) = refl
no_octets false from = refl

pub long_sent : (line : List ℕ) → most_line < length line → sent_in line ≡ None
long_sent [] big = absurd (omega arith)
long_sent (mark ∷ []) big = absurd (omega arith)
long_sent (mark ∷ space ∷ digits) big =
    let test : nat_le (length digits) 8206 ≡ false = grind (arith, nat_tests) in
    let none : octets_in digits ≡ None = rw test refl in
    rw none (no_octets (space == 32) (sender_of mark))

is_other : (line word : List ℕ) → length word < length line → bytes_eq line word ≡ false
is_other line word big = go (bytes_eq line word) refl
  where
    go : (b : Bool) → bytes_eq line word ≡ b → b ≡ false
    go true is = let same : length line ≡ length word = ap length ((bytes_eq-Decides line word).0 is) in absurd (omega (arith, same))
    go false is = refl

pub long_gap : (line : List ℕ) → most_line < length line → gap_in line ≡ None
long_gap line big =
    let dte : bytes_eq line (codes "> ..") ≡ false = is_other line (codes "> ..") (omega arith) in
    let dce : bytes_eq line (codes "< ..") ≡ false = is_other line (codes "< ..") (omega arith) in
    rw (dte, dce) refl

pub long_refused : (line : List ℕ) → most_line < length line → is_refused line ≡ true
unfolding is_refused
long_refused line big = rw (long_sent line big, long_gap line big) refl

pub long_answer : (reading : Reading) (line : List ℕ) → most_line < length line → answer_to reading line ≡ codes "? 60\n"
unfolding answer_to
long_answer reading line big = rw (long_sent line big, long_gap line big) refl
