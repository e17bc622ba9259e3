-- Lines of a trace, one after another.
use Rattle.x25_bit_line.proofs.Names.{◌≡◌, ◌∙◌, ◌<◌, ◌≤◌, ℕ, Bool, true, false, List, [], ◌∷◌, ◌++◌, length, ap, sym, refl, arith, flat_map, Role, framed_bits}
use Rattle.std.proofs.{Common.{◌||◌, not, Some, None, Result, Ok, Err, nat_le, le-leb}, Math.Bool.{and-true, or-false}, lemmas.Bool.Decides.{nat_tests}}
use Rattle.std.specs.Prelude.{OnOk, ◌&&◌, is_some}
use Rattle.x25_bit_line.{proofs.Names.{line_bits}, specs.Framing.{begins_by_mark, is_wrong, sent_bits}}
use Rattle.x25_bits.specs.Stuffing.{framed}
use Rattle.x25_decode.specs.Decoding.{gap_in, is_refused, sent_in}
use Rattle.x25_io.specs.{HeldLine.{most_line}, Lines.{lines_of}}

-- ---- one line

pub sends_frame : (line : List ℕ) (from : Role) (octets : List ℕ) → sent_in line ≡ Some (from, octets) → line_bits line ≡ framed octets
unfolding line_bits
sends_frame line from octets e = ap sent_bits e

pub sends_none : (line : List ℕ) → sent_in line ≡ None → line_bits line ≡ []
unfolding line_bits
sends_none line e = ap sent_bits e

pub right_frame : (line : List ℕ) (from : Role) (octets : List ℕ) → sent_in line ≡ Some (from, octets) → is_wrong line ≡ false
unfolding is_wrong is_refused
right_frame line from octets e = rw e refl

pub stays_right : {T E : Type 0} (r : Result T E) (line : List ℕ) (from : Role) (octets : List ℕ) (before : Bool) → sent_in line ≡ Some (from, octets)
    → OnOk r (before ≡ (before || is_wrong line))
stays_right (Ok x) line from octets before e = sym (ap (λ b. before || b) (right_frame line from octets e) ∙ or-false before)
stays_right (Err x) line from octets before e = tt

neither : (a b : Bool) → not a && not b ≡ not (a || b)
neither true b = refl
neither false b = refl

pub wrong_by_mark : (line : List ℕ) → sent_in line ≡ None → length line ≤ most_line → is_wrong line ≡ not (is_some (gap_in line) || begins_by_mark line)
unfolding is_wrong is_refused
wrong_by_mark line e short =
    let test : nat_le (length line) most_line ≡ true = le-leb (length line) most_line short in
    rw (e, test, and-true) (neither (is_some (gap_in line)) (begins_by_mark line))

long_wrong : (line : List ℕ) → sent_in line ≡ None → gap_in line ≡ None → nat_le (length line) most_line ≡ false → (b : Bool) → begins_by_mark line ≡ b
    → is_wrong line ≡ true
unfolding is_wrong is_refused
long_wrong line e gap test true is = rw (e, gap, test, is) refl
long_wrong line e gap test false is = rw (e, gap, test, is) refl

pub long_is_wrong : (line : List ℕ) → sent_in line ≡ None → gap_in line ≡ None → most_line < length line → is_wrong line ≡ true
long_is_wrong line none gap big =
    let test : nat_le (length line) most_line ≡ false = grind (arith, nat_tests) in
    long_wrong line none gap test (begins_by_mark line) refl

-- ---- lines of a text

pub bits_on : (text line rest : List ℕ) → lines_of text ≡ line ∷ lines_of rest → framed_bits text ≡ line_bits line ++ framed_bits rest
bits_on text line rest e = ap (flat_map line_bits) e

pub no_bits : framed_bits [] ≡ []
unfolding lines_of
no_bits = refl
